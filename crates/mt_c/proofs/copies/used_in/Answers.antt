use Rattle.mt_c.proofs.ImagesOpened.{used_all}
use Rattle.mt_c.proofs.copies.used_in.Goals as goal

pub returns-clause-used : goal.returns-clause-used
returns-clause-used c = used_all c.args.kind _ _ c.requires c.size.ensures
