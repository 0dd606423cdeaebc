use Rattle.mt_pen.proofs.Prelude.{AreDraftedFirst, pen_in, joined_in, sheet_worked}
use Rattle.mt_pen.proofs.rows.PenRowsRows.draft_row.Given as goal

abbrev pub invariant-loop-col : goal.invariant-loop-col
invariant-loop-col g l =
    AreDraftedFirst l.row l.words l.col (sheet_worked g.W.Writer.table (pen_in l.fn.self.pen) (joined_in l.fn.self.pen) l.fn.self.scan l.fn.self.scans) (sheet_worked g.W.Writer.table (pen_in l.self.pen) (joined_in l.self.pen) l.self.scan l.self.scans)
