-- What the definitions beside this file take from the toolchain and from the crates below, under one name. Declares nothing.
pub use Rattle.mt_rows.specs.Names.{Apart, BeginsFull, Call, Done, EndsFull, Fills, Find, History, Holder, IsLawfulOf, IsRealShortage, IsRefused, IsShort, Kind, Load, Next, Prev, Query, Range, Read, Record, Reply, Rfind, Rooted, Saw, Sheet, Shortage, Span, Told, Wants, Worn, Wrote, acted, fewest_rows, find_at, greatest_of, holder_of, kind_width, last_map, limits_after, map_by, most_calls, most_passes, most_rows, new_pass, over, overlaps, place_behind, reached_in, tree_as, with_records}
pub use Rattle.mt_rows.specs.declared.rows.Scan.{Scan}
pub use Rattle.mt_free.specs.Book.{Book, after_reclaim, new_book}
pub use Rattle.mt_check.specs.Check.{form_of}
pub use Rattle.mt_check.specs.declared.faults.Form.{Form}
pub use Rattle.mt_image.specs.Images.{IsImageOf}
pub use Rattle.mt_engine.specs.Engine.{IsIdle, Parts, TellsBook, is_refusal}
pub use Rattle.mt_engine.specs.Heights.{HasHeight}
pub use Rattle.mt_engine.specs.Rooms.{HasRoom}
pub use Rattle.mt_rule.specs.Names.{Identity, IsAlone, IsBusyAt, IsScanOf, IsSeatedAt, IsTakenOf, WasShown, identity_of, identity_of_pen, no_pen, part_of, pass_in, pen_in, pen_joined, pen_sheet, records_of, seated, table_size, tree_in, tree_of, tried, tries_in, turn_seat}
pub use Rattle.mt_rule.specs.declared.busy.Busy.{Busy}
pub use Rattle.mt_rule.specs.declared.notes.Note.{Note}
pub use Rattle.mt_rule.specs.declared.passes.Pass.{Pass}
pub use Rattle.mt_rule.specs.declared.views.Moment.{Moment}
pub use Rattle.mt_rule.specs.declared.views.PenPart.{PenPart}
pub use Rattle.mt_rule.specs.declared.views.Shape.{Shape}
pub use Rattle.mt_rule.specs.declared.views.TurnView.{TurnView}
pub use Rattle.mt_pen.specs.Sheets.{sheet_told, unscanned}
pub use Rattle.mt_pen.specs.Writers.{no_table}
pub use Rattle.mt_read.specs.Cursors.{HasStepped, IsCursorOf, IsOver, IsOverPlace, LeafWasMarked, MarksKeptLeaf, epoch_or}
pub use Rattle.mt_read.specs.declared.cursor.Cursor.{Cursor}
pub use Rattle.mt_read.specs.Windows.{HasRead}
pub use Rattle.mt_ids.specs.Allocation.{Allocation, Made}
