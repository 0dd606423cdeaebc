use Rattle.mt_desks.proofs.Prelude.{◌≡◌, ◌+◌, drop, front_len}
use Rattle.mt_desks.proofs.turns.front_len.Given as goal

abbrev pub invariant-loop-count : goal.invariant-loop-count
invariant-loop-count l = l.count + front_len l.line (drop l.count l.room) ≡ front_len l.line l.room
