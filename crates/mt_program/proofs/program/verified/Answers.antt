use Rattle.mt_program.proofs.Endings.{verified_is}
use Rattle.mt_program.proofs.program.verified.Goals as goal

pub returns-in-Yes-clause-fine : goal.returns-in-Yes-clause-fine
returns-in-Yes-clause-fine c =
    let least = rw c.in-Yes.is at c.in_ok-points.ensures in
    let shown = c.in_ok-verified_text-in-Yes.ensures in
    verified_is c.args.rows c.args.bytes.now c.in-Some.front.now c.in-Some.text.now c.in_ok-log.log _ c.calls_of.result c.count.result _
    c.in-Some.ensures.parts c.in_ok-log.ensures.log least c.calls_of.ensures c.count.ensures shown
