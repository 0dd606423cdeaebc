use Rattle.mt_c.proofs.Prelude.{ap, when_given}
use Rattle.mt_c.proofs.user.User.share_told.Goals as goal

pub returns-in-Ok-clause-pass : goal.returns-in-Ok-clause-pass
returns-in-Ok-clause-pass c = (c.in-Ok.given, c.in-Ok.ensures.pass, c.in-Ok.ensures.shared, ap (when_given c.in-Ok.given) c.share.ensures.receipts)
