use Rattle.mt_path.proofs.Prelude.{rules}
use Rattle.mt_path.proofs.seeks.seek_groups.Goals as goal

pub returns-in-Long-Gapped-clause-slot : goal.returns-in-Long-Gapped-clause-slot
returns-in-Long-Gapped-clause-slot g c = c.seek_gapped.ensures.slot c.args.kind (search rules)

pub returns-in-Short-Gapped-clause-slot : goal.returns-in-Short-Gapped-clause-slot
returns-in-Short-Gapped-clause-slot g c = c.seek_narrow_gapped.ensures.slot c.args.kind (search rules)
