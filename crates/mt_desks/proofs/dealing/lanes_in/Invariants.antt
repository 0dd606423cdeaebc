use Rattle.mt_desks.proofs.Prelude.{◌≡◌, ◌≤◌, drop, max, lanes_in}
use Rattle.mt_desks.proofs.dealing.lanes_in.Given as goal

abbrev pub invariant-loop-line : goal.invariant-loop-line
invariant-loop-line l = (max l.lanes (lanes_in l.here (drop l.line-index l.lines)) ≡ lanes_in 0 l.lines) × (1 ≤ l.lanes)
