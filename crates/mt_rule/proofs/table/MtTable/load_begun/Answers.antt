use Rattle.mt_rule.proofs.Prelude.{LoadedBegun, begun_at, part_of}
use Rattle.mt_rule.proofs.ReadingSteps.{may_load, beguns}
use Rattle.mt_rule.proofs.table.MtTable.load_begun.Goals as goal

pub load_as-requires-clause-may : goal.load_as-requires-clause-may
load_as-requires-clause-may g c = let q = part_of c.args.pass.now in may_load (λ word. LoadedBegun) c.args.self.now.table.shared.key begun_at q (beguns q)
