use Rattle.mt_rule.proofs.Prelude.{LoadedRoot, root_at, part_of}
use Rattle.mt_rule.proofs.ReadingSteps.{may_load, roots}
use Rattle.mt_rule.proofs.table.MtTable.load_root.Goals as goal

pub load_as-requires-clause-may : goal.load_as-requires-clause-may
load_as-requires-clause-may g c = let q = part_of c.args.pass.now in may_load (λ word. LoadedRoot) c.args.self.now.table.shared.key root_at q (roots q c.requires.open)
