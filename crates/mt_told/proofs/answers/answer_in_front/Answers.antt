use Rattle.mt_told.proofs.Prelude.{IfSome_then}
use Rattle.mt_told.proofs.Answered.{found_answered}
use Rattle.mt_told.proofs.answers.answer_in_front.Goals as goal

pub returns-clause-some : goal.returns-clause-some
returns-clause-some c = IfSome_then c.found_in_front.result c.found_in_front.ensures.some (λ found h. found_answered c.args.query.now c.args.text.now found.1.now found.0 c.in_default.ensures.none h)
