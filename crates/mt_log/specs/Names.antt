-- What the crates above take from this crate's definitions, under one name. Declares nothing.
pub use Rattle.mt_base.specs.Names.{AreLegalFrom, Begins, Grows, History, Hole, IsAnswered, IsLegal, IsMade, IsMap, IsMapFrom, IsRefused, IsRoom, IsSettled, IsShort, IsTrueRead, Learned, Limits, NamesReader, Pass, Read, Record, Saw, Settled, Wants, Wrote, acted, answer, cut_above, cut_below, erased, fewest_rows, find_at, finds_room, first_range, found, greatest_of, high, holder_of, holding, holds, is_bad_area, is_exact_store, is_exactly, is_held, is_invalid, is_no_area, kind_text, kind_width, last_map, last_range, limits_after, low, lowest_in, map_after, map_at, map_by_reply, most_calls, most_lanes, most_passes, most_rows, most_steps, new_pass, one_call_more, over, overlaps, part_stored, parts_above, parts_below, place_after, place_behind, place_within, placed, places, places_from, range_text, reserved, with_records, without}
pub use Rattle.mt_base.specs.declared.calls.Call.{Call}
pub use Rattle.mt_base.specs.declared.calls.Call.TheVariants.{Alloc, Clear, Erase, Gap, Insert, Ralloc, Rgap, Store, StorePre}
pub use Rattle.mt_base.specs.declared.calls.Query.{Query}
pub use Rattle.mt_base.specs.declared.calls.Query.TheVariants.{Find, Load, Next, Prev, Rfind}
pub use Rattle.mt_base.specs.declared.kinds.Kind.{Kind}
pub use Rattle.mt_base.specs.declared.ranges.Range.{Range}
pub use Rattle.mt_base.specs.declared.replies.Holder.{Holder}
pub use Rattle.mt_base.specs.declared.replies.Reply.{Reply}
pub use Rattle.mt_base.specs.declared.replies.Reply.TheVariants.{NoNodes, Ok}
pub use Rattle.mt_base.specs.declared.replies.Shortage.{Shortage}
pub use Rattle.mt_log.specs.Fault.{fault_at, why_text}
pub use Rattle.mt_log.specs.LogText.{IsLog, log_text}
pub use Rattle.mt_log.specs.Name.{is_name}
pub use Rattle.mt_log.specs.Phases.{AreInPlaceFrom, IsInPlace, phase_after, stepped_after, stepped_from}
pub use Rattle.mt_log.specs.Reader.{HasTreeRoom, least_behind}
pub use Rattle.mt_log.specs.Reading.{ReadSoFar, after_item, log_of, most_scan_steps, nothing_read, scan_steps_of}
pub use Rattle.mt_log.specs.Run.{AreDone, AreScanSteps, Asked, Called, Counted, Follows, InOrder, IsDone, IsHeldRightly, IsRun, IsRunBy, IsTrueOf, Knows, Looked, Opens, OpensAs, Outcome, ScanGoesOnFrom, StandsIn, Step, TellsRun, asked_from, calls_before, entry_of, holder_in, is_answered, is_call, is_read, is_read_by, lane_after, lane_of, listings_of, numbered_on, record_in, said_of, shown, shown_range, step_of, steps_of}
pub use Rattle.mt_log.specs.Text.{answer_text, entry_text, listing_text, range_line, reply_text, said_text, text_of}
pub use Rattle.mt_log.specs.Trees.{AreNamedFrom, CopyOf, Declared, Empty, IsReadable, NamesBelow, NumbersRiseFrom, Opening, count_after, declared_by, known_after, most_trees, renamed, tree_declared_by, trees_from, trees_of}
