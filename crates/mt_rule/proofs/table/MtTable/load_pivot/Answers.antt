use Rattle.mt_rule.proofs.Prelude.{rules, here, part_of, LoadedPivot}
use Rattle.mt_rule.proofs.ReadingPlaces.{column_below, pivot_low, row_here}
use Rattle.mt_rule.proofs.ReadingSteps.{may_load, pivots}
use Rattle.mt_rule.proofs.table.MtTable.load_pivot.Goals as goal

pub column_in-at-requires-clause-base : goal.column_in-at-requires-clause-base
column_in-at-requires-clause-base g c = row_here c.args.self.now c.args.pass.now c.requires.pass c.args.row c.requires.base

pub column_in-at-requires-clause-column : goal.column_in-at-requires-clause-column
column_in-at-requires-clause-column g c = pivot_low c.args.self.now c.args.pass.now c.requires.pass (here (part_of c.args.pass.now)) c.requires.pivot.0 c.args.col c.requires.pivot.1 c.requires.pivot.2

pub load_as-requires-clause-at : goal.load_as-requires-clause-at
load_as-requires-clause-at g c = column_below c.args.self.now c.args.pass.now c.requires.pass c.args.row.number c.args.col c.column_in-at.result c.requires.has (pivot_low c.args.self.now c.args.pass.now c.requires.pass (here (part_of c.args.pass.now)) c.requires.pivot.0 c.args.col c.requires.pivot.1 c.requires.pivot.2) (search rules)

pub load_as-requires-clause-may : goal.load_as-requires-clause-may
load_as-requires-clause-may g c = let q = part_of c.args.pass.now in may_load LoadedPivot c.args.self.now.table.shared.key c.column_in-at.result q (pivots q c.column_in-at.result c.args.row.number c.args.col c.requires.at c.requires.row c.requires.pivot (search rules))
