use Rattle.mt_verify.proofs.Prelude.{◌≡◌, ◌≤◌, drop, trees_from, trees_of}
use Rattle.mt_verify.proofs.declared.trees_of.Given as goal

abbrev pub invariant-loop-line : goal.invariant-loop-line
invariant-loop-line l = (trees_from l.trees.items l.phase (drop l.line-index l.fn.lines) ≡ trees_of l.fn.lines) × (l.phase ≤ l.line-index)
