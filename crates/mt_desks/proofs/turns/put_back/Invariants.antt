use Rattle.mt_desks.proofs.Prelude.{◌≡◌, ◌++◌, drop, map, in_turn}
use Rattle.mt_desks.proofs.turns.put_back.Given as goal

abbrev pub invariant-loop-line : goal.invariant-loop-line
invariant-loop-line l = (l.entries.items ++ in_turn l.here (drop l.line-index l.lines) (map (λ r. r.now) l.rooms) ≡ l.initial.entries.items ++ in_turn 0 l.lines (map (λ r. r.now) l.initial.rooms))
