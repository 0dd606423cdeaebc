use Rattle.mt_rule.proofs.Prelude.{rules, LoadedParent, part_of}
use Rattle.mt_rule.proofs.ReadingPlaces.{column_below, row_here}
use Rattle.mt_rule.proofs.ReadingSteps.{may_load, parents}
use Rattle.mt_rule.proofs.table.MtTable.load_parent_of.Goals as goal

pub column_in-at-requires-clause-base : goal.column_in-at-requires-clause-base
column_in-at-requires-clause-base g c = row_here c.args.self.now c.args.pass.now c.requires.pass c.args.row c.requires.base

pub load_as-requires-clause-at : goal.load_as-requires-clause-at
load_as-requires-clause-at g c = column_below c.args.self.now c.args.pass.now c.requires.pass c.args.row.number 0 _ c.requires.row (search rules) (search rules)

pub load_as-requires-clause-may : goal.load_as-requires-clause-may
load_as-requires-clause-may g c = let q = part_of c.args.pass.now in may_load (LoadedParent g.M.Announced.number) c.args.self.now.table.shared.key c.column_in-at.result q (parents q g.M.Announced.number c.column_in-at.result)
