-- Between two rounds nothing is held, and what the tally tells is what was taken and given back since the first.
use Rattle.mt_numbers.proofs.Prelude.{◌≡◌, ◌+◌, ◌*◌, ◌≤◌, vec_len, HELD}
use Rattle.mt_numbers.proofs.takers.Taker.work.Given as goal

abbrev pub invariant-loop-round : goal.invariant-loop-round
invariant-loop-round g l =
    (vec_len l.self.held ≡ 0)
    × (l.self.tally.taken ≤ HELD * l._round)
    × (g.N.Numbers.taken l.self.numbers ≡ g.N.Numbers.taken l.fn.self.numbers + l.self.tally.taken)
    × (g.N.Numbers.given_back l.self.numbers ≡ g.N.Numbers.given_back l.fn.self.numbers + l.self.tally.given_back)
