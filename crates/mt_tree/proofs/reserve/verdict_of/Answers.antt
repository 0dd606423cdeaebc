use Rattle.mt_tree.proofs.Reserving.{none_verdict}
use Rattle.mt_tree.proofs.reserve.verdict_of.Goals as goal

pub returns-in-Erase-clause-verdict : goal.returns-in-Erase-clause-verdict
returns-in-Erase-clause-verdict g c = none_verdict c.args.engine c.args.call.now c.args.known c.never.result c.in-Erase.is c.never.ensures c.requires.known
