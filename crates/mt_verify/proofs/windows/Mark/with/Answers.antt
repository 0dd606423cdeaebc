use Rattle.mt_verify.proofs.Marks.{with_call, with_read}
use Rattle.mt_verify.proofs.windows.Mark.with.Goals as goal

pub returns-in-Wrote : goal.returns-in-Wrote
returns-in-Wrote c = with_call c.args.self c.greatest.result c.max.result c.args.what.now c.in-Wrote.number c.in-Wrote.call c.in-Wrote.reply c.in-Wrote.is c.greatest.ensures c.max.ensures

pub returns-in-Got : goal.returns-in-Got
returns-in-Got c = with_read c.args.self c.greatest-in-Got.result c.max-in-Got.result c.args.what.now c.in-Got.lo c.in-Got.hi c.in-Got.query c.in-Got.answer c.in-Got.is c.greatest-in-Got.ensures c.max-in-Got.ensures
