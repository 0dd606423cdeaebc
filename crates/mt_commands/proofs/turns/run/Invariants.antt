use Rattle.mt_commands.proofs.Prelude.{◌≡◌, ◌+◌, ◌*◌, ◌≤◌, length, IsPassOf, pass_in, IsOnlyPass, turns_at, turns}
use Rattle.mt_commands.proofs.turns.run.Given as goal

abbrev pub invariant-loop-i : goal.invariant-loop-i
invariant-loop-i g l =
    IsPassOf l.fn.tree l.pass × IsOnlyPass (pass_in l.pass) × (length (pass_in l.pass).seen ≤ 3 * l.i) × (l.fn.steps ≤ l.tally.room + l.i) × (l.i-end ≡ l.fn.steps)
    × (turns_at l.fn.tree (pass_in l.pass) l.ids l.tally.tally ≡ turns l.fn.ids.lo l.fn.ids.hi l.i l.fn.drops)
