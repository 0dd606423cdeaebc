use Rattle.mt_rule.proofs.Prelude.{rules, touches, part_of}
use Rattle.mt_rule.proofs.ReadingPlaces.{any_low, column_below, row_here}
use Rattle.mt_rule.proofs.ReadingSteps.{may_load, touches_at}
use Rattle.mt_rule.proofs.table.MtTable.touch.Goals as goal

pub column_in-at-requires-clause-base : goal.column_in-at-requires-clause-base
column_in-at-requires-clause-base g c = row_here c.args.self.now c.args.pass.now c.requires.pass c.args.row c.requires.base

pub column_in-at-requires-clause-column : goal.column_in-at-requires-clause-column
column_in-at-requires-clause-column g c = any_low c.args.self.now c.args.pass.now c.requires.pass c.args.col c.requires.column

pub load_as-requires-clause-at : goal.load_as-requires-clause-at
load_as-requires-clause-at g c = column_below c.args.self.now c.args.pass.now c.requires.pass c.args.row.number c.args.col c.column_in-at.result c.requires.row (any_low c.args.self.now c.args.pass.now c.requires.pass c.args.col c.requires.column) (search rules)

pub load_as-requires-clause-may : goal.load_as-requires-clause-may
load_as-requires-clause-may g c = let q = part_of c.args.pass.now in may_load touches c.args.self.now.table.shared.key c.column_in-at.result q (touches_at q c.column_in-at.result)
