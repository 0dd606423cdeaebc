-- So far one was given back in each round, while there was one.
use Rattle.mt_numbers.proofs.Prelude.{◌≡◌, ◌-◌, vec_len, IsTallied}
use Rattle.mt_numbers.proofs.takers.Taker.give_all_back.Given as goal

abbrev pub invariant-loop-given : goal.invariant-loop-given
invariant-loop-given g l =
    (vec_len l.self.held ≡ vec_len l.initial.self.held - l._given)
    × (l.self.tally.taken ≡ l.initial.self.tally.taken)
    × IsTallied g.N.Numbers.taken g.N.Numbers.given_back l.initial.self.tally l.self.tally l.initial.self.numbers l.self.numbers
