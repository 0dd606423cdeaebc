use Rattle.mt_desks.proofs.Prelude.{◌≡◌, ◌≤◌, length, vec_len, vec_capacity}
use Rattle.mt_desks.proofs.desks.LaneDesk.new.Given as goal

abbrev pub invariant-loop-tree : goal.invariant-loop-tree
invariant-loop-tree g l = (vec_len l.passes ≡ l._tree) × (length l.trees ≤ vec_capacity l.passes)
