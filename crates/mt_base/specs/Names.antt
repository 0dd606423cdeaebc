-- What the crates above take from this crate's definitions, under one name. Declares nothing.
pub use Rattle.mt_base.specs.Call.{acted, answer, erased, finds_room, found, is_bad_area, is_invalid, is_no_area, placed, replied}
pub use Rattle.mt_base.specs.Entry.{reserved}
pub use Rattle.mt_base.specs.History.{AreLegalFrom, History, IsAnswered, IsLegal, IsTrueRead, Record, last_map, limits_after, map_after, map_at, map_by_reply}
pub use Rattle.mt_base.specs.Holes.{Hole, IsRoom, clip, fits, high, high_to, highest_in, hole_between, holes_from, holes_to, kept, low, low_to, lowest_in}
pub use Rattle.mt_base.specs.Limits.{fewest_rows, most_calls, most_lanes, most_passes, most_steps}
pub use Rattle.mt_base.specs.Map.{IsMap, IsMapFrom, cut_above, cut_below, entry_or_zero, first_met, first_range, holding, holds, is_held, last_range, over, overlaps, part_stored, parts_above, parts_below, without}
pub use Rattle.mt_base.specs.Nodes.{Changes, IsMade, IsRefused, IsShort, Limits, Wants, is_exact_store, is_exactly, one_call_more}
pub use Rattle.mt_base.specs.Passes.{Begins, Grows, IsSettled, IsSound, Learned, NamesReader, Pass, Read, Saw, Settled, Wrote, holder_of, longer, new_pass, places, places_from, with_records}
pub use Rattle.mt_base.specs.Places.{find_at, place_after, place_behind, place_within}
pub use Rattle.mt_base.specs.Text.{kind_text, range_text}
pub use Rattle.mt_base.specs.Width.{columns, deepest, first_row, greatest, greatest_of, kind_width, most_rows, most_taken}
