-- What the writer's nodes show: what the pen knows of nodes, who calls, the history's records, and the scans.
-- Source: this project's own.
use Rattle.std.specs.Prelude.{◌≡◌, ℕ, Some, length}
use Rattle.mt_base.specs.Passes as known
use Rattle.mt_pen.specs.Prelude.{Scan, Sheet, Caller, Told, PenPart, none_open, records_of, pen_sheet, Identity}

-- a number that no other table has
abbrev pub table_number : Identity → ℕ
table_number t = t.table.views_name

abbrev pub caller_of : Identity → known.Pass → Caller
caller_of t q = record { table = table_number t; passes = t.shape.passes; pass = q.number; opened = q.opened; standing = q.standing; begun = q.begun }

abbrev pub told_of : Identity → PenPart → known.Pass → Told
told_of t p q = record { caller = caller_of t q; records = records_of p.history }

-- the nodes of a pen with which this handle is joined, and which has made no scan
abbrev pub sheet_told : Identity → PenPart → known.Pass → Sheet
sheet_told t p q = record (pen_sheet p) { told = Some (told_of t p q) }

-- what the handle knows then
abbrev pub shown_all : PenPart → known.Pass → known.Pass
shown_all p q = record q { seen = records_of p.history; ended = p.ended }

-- the sheet of the nodes with the scans that were made
abbrev pub sheet_worked : Identity → PenPart → known.Pass → Scan → ℕ → Sheet
sheet_worked t p q scan scans = record (sheet_told t p q) { scan = scan; scans = scans }

-- a sheet without the scans that were made
abbrev pub unscanned : Sheet → Sheet
unscanned s = record s { scan = none_open; scans = 0 }

-- The handle has seen the whole history of the pen, with its own calls in it, and all these calls have ended.
pub record HasSeenAll (p : PenPart) (q : known.Pass) : Type 0 where
  pub seen : q.seen ≡ records_of p.history
  pub mine : q.mine ≡ known.places q.number q.seen
  pub ended : q.ended ≡ length q.seen
