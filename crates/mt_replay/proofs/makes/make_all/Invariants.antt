use Rattle.mt_replay.proofs.Prelude.{◌≤◌, ◌-◌, length, take, AreMade}
use Rattle.mt_replay.proofs.makes.make_all.Given as goal

abbrev pub invariant-loop-alloc : goal.invariant-loop-alloc
invariant-loop-alloc g l = (l.made.len ≤ length l.kinds) × AreMade g.T.Shared.tree g.P.Passage.knows g.T.Shared.serves g.T.Plays.many l.rows l.passes (take l.made.len l.kinds) l.made.items

abbrev pub decreases-loop-alloc : goal.decreases-loop-alloc
decreases-loop-alloc g l = length l.kinds - l.made.len
