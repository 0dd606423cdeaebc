use Rattle.mt_gap.proofs.Prelude.{◌≡◌, ◌+◌, Gapped, Sheet, row_spans, HasMendedRows}
use Rattle.mt_gap.proofs.ChildLists.{spans}
use Rattle.mt_gap.proofs.mends.mend_row.Given as goal

abbrev pub invariant-loop-slot : goal.invariant-loop-slot
invariant-loop-slot g l =
    ((before : Sheet) → HasMendedRows before (g.R.Rows.sheet l.fn.rows) l.path.items l.kind (l.level + 2) 0 → HasMendedRows before (g.R.Rows.sheet l.rows) l.path.items l.kind (l.level + 2) l.slot)
    × (spans l.children.items ≡ row_spans (g.R.Rows.sheet l.rows).tree.table l.above.row Gapped l.above.min l.above.max)
