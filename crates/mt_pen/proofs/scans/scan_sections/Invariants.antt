use Rattle.mt_pen.proofs.Prelude.{identity_of, pen_in, KeepsPassOf, joined_part, HasScanned}
use Rattle.mt_pen.proofs.scans.scan_sections.Given as goal

abbrev pub invariant-loop-pass : goal.invariant-loop-pass
invariant-loop-pass l = record {
  on : KeepsPassOf (identity_of l.table) l.fn.pen l.pen;
  scanned : HasScanned (pen_in l.fn.pen) (joined_part l.fn.pen) (pen_in l.pen) l.scan l.pass;
}
