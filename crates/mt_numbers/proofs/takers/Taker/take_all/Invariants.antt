-- So far no more were taken than rounds went by.
use Rattle.mt_numbers.proofs.Prelude.{◌+◌, ◌≤◌, vec_len, IsTallied}
use Rattle.mt_numbers.proofs.takers.Taker.take_all.Given as goal

abbrev pub invariant-loop-taken : goal.invariant-loop-taken
invariant-loop-taken g l =
    (vec_len l.self.held ≤ l._taken)
    × (l.self.tally.taken ≤ l.initial.self.tally.taken + l._taken)
    × IsTallied g.N.Numbers.taken g.N.Numbers.given_back l.initial.self.tally l.self.tally l.initial.self.numbers l.self.numbers
