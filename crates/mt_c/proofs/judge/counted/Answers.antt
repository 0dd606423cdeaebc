use Rattle.mt_c.proofs.Batches.{verified_so}
use Rattle.mt_c.proofs.judge.counted.Goals as goal

pub returns-in-Yes-clause-ok : goal.returns-in-Yes-clause-ok
returns-in-Yes-clause-ok c =
    verified_so c.args.rows c.args.log.now c.args.text.now c.in-Ok.log c.in-Ok-verify.verdict c.in-Yes.points c.calls_of.result c.count.result
    c.in-Ok.ensures.log c.in-Yes.is c.in-Ok-verify.ensures c.calls_of.ensures c.count.ensures
