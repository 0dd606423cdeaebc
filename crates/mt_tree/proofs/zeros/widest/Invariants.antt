use Rattle.mt_tree.proofs.Prelude.{◌≤◌, take, All, columns, kind_width}
use Rattle.mt_tree.proofs.zeros.widest.Given as goal

abbrev pub invariant-loop-kind : goal.invariant-loop-kind
invariant-loop-kind l = All (λ kind. columns (kind_width kind) ≤ columns l.widest) (take l.kind-index l.kinds)
