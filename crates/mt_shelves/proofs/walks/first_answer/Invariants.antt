use Rattle.mt_shelves.proofs.Prelude.{◌≡◌, drop, length, answer, joined}
use Rattle.mt_shelves.proofs.walks.first_answer.Given as goal

abbrev pub invariant-loop-at : goal.invariant-loop-at
invariant-loop-at l = (l.at-end ≡ length l.fn.shelves) × (answer (joined (drop l.at l.fn.shelves)) l.fn.query ≡ answer (joined l.fn.shelves) l.fn.query)
