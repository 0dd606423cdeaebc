use Rattle.mt_shelves.proofs.Prelude.{◌≡◌, ◌≤◌, take, length, answer, joined}
use Rattle.mt_shelves.proofs.walks.last_answer.Given as goal

abbrev pub invariant-loop-end : goal.invariant-loop-end
invariant-loop-end l = (l.end ≤ length l.fn.shelves) × (answer (joined (take l.end l.fn.shelves)) l.fn.query ≡ answer (joined l.fn.shelves) l.fn.query)

abbrev pub decreases-loop-end : goal.decreases-loop-end
decreases-loop-end l = l.end
