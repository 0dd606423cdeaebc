-- The sheet of nodes in memory. Source: this project's own.
use Rattle.mt_rows.specs.declared.plain.PlainRows.{PlainRows}
use Rattle.mt_rows.specs.Sheet.{Sheet}
use Rattle.mt_rows.specs.Plain.{sheet_of}

abbrev pub sheet_in : PlainRows → Sheet
sheet_in p = sheet_of p.state
