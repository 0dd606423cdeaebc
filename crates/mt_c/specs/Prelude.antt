-- What the definitions beside this file take from the toolchain and from the crates below, under one name. Declares nothing.
pub use Rattle.mt_rows.specs.Names.{Call, Done, Holder, IsLawfulOf, Kind, Load, OnlyReads, Query, Range, Read, Reply, Rooted, Shortage, Worn, answer, entry_or_zero, find_at, greatest, kind_width, map_by, most_calls, most_rows, new_sheet, place_behind, tree_as}
pub use Rattle.mt_free.specs.Book.{new_book}
pub use Rattle.mt_check.specs.Check.{form_of}
pub use Rattle.mt_check.specs.declared.faults.Form.{Form}
pub use Rattle.mt_image.specs.Bytes.{kind_code}
pub use Rattle.mt_image.specs.Images.{IsImageOf}
pub use Rattle.mt_image.specs.Reading.{Image, image_in}
pub use Rattle.mt_bulk.specs.Bulk.{rows_in}
pub use Rattle.mt_bulk.specs.Items.{misplaced}
pub use Rattle.mt_bulk.specs.declared.errors.BulkError.{BulkError}
pub use Rattle.mt_bulk.specs.declared.errors.BulkError.TheVariants.{NoMemory, Order, TooMany}
pub use Rattle.mt_engine.specs.Engine.{IsApplied, Parts}
pub use Rattle.mt_engine.specs.Heights.{HasHeight}
pub use Rattle.mt_engine.specs.Prepared.{IsPrestored}
pub use Rattle.mt_engine.specs.RangeWalks.{StepsWithin, WalksFrom, found_from, index_behind, index_in}
pub use Rattle.mt_engine.specs.Rooms.{HasRoom, IsScanned}
pub use Rattle.mt_engine.specs.declared.range_walk.RangeWalk.{RangeWalk}
pub use Rattle.mt_rule.specs.Tokens.{part_of, turn_seat}
pub use Rattle.mt_rule.specs.declared.busy.Busy.{Busy}
pub use Rattle.mt_read.specs.Neighbours.{WasLeftMarked, WasMoved}
pub use Rattle.mt_read.specs.Windows.{HasRead}
pub use Rattle.mt_read.specs.declared.cursor.Cursor.{Cursor}
pub use Rattle.mt_read.specs.declared.neighbours.Moved.{Moved}
pub use Rattle.mt_tree.specs.Asks.{IsForNeighbour, most_made, unbounded}
pub use Rattle.mt_tree.specs.Batches.{LacksCalls, WereMade}
pub use Rattle.mt_tree.specs.Behind.{IsReady}
pub use Rattle.mt_tree.specs.Copies.{live_rows}
pub use Rattle.mt_tree.specs.Cursors.{apart_prop, ends_prop, fills_prop}
pub use Rattle.mt_tree.specs.Looks.{IsFormBehind, IsImagedBehind, IsLookAt, IsOldest, IsStatsOf, looked_words}
pub use Rattle.mt_tree.specs.Meeting.{HaveMet}
pub use Rattle.mt_tree.specs.Shapes.{first_bad}
pub use Rattle.mt_tree.specs.Trees.{IsNew, IsPassOf, Pass, Takes, limit_of, map_seen, opened, pass_in, passes_of, steps_made}
pub use Rattle.mt_tree.specs.Tries.{IsBusyOf, WasMade}
pub use Rattle.mt_tree.specs.Walks.{HasWalked, IsWalkOf}
pub use Rattle.mt_tree.specs.declared.receipts.Look.{Look}
pub use Rattle.mt_tree.specs.declared.shapes.DupError.{DupError}
pub use Rattle.mt_tree.specs.declared.shapes.Field.{Field}
pub use Rattle.mt_tree.specs.declared.shapes.Shape.{Shape}
pub use Rattle.mt_tree.specs.declared.shapes.Stats.{Stats}
pub use Rattle.mt_tree.specs.declared.trees.Tree.{Tree}
pub use Rattle.mt_keep.specs.Keeping.{cuts_of}
pub use Rattle.mt_keep.specs.declared.keep.Given.{Given}
pub use Rattle.mt_keep.specs.declared.keep.Sight.{Sight}
pub use Rattle.mt_log.specs.Names.{IsRun, TellsRun, log_of, text_of}
pub use Rattle.mt_log.specs.declared.lines.Log.{Log}
pub use Rattle.mt_log.specs.declared.transcripts.Transcript.{Transcript}
pub use Rattle.mt_verify.specs.Tellings.{count_of_calls, reads_told}
pub use Rattle.mt_list.specs.Places.{up_to}
