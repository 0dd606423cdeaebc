-- What the crates above take from this crate's definitions, under one name. Declares nothing.
pub use Rattle.mt_layout.specs.Columns.{FitRow, IsLayout, NoGaps, RiseFrom, end_of, gap_at, gap_column, gap_words, greatest_gap, item_at, items_at, items_from, longest_hole, longest_under, padded_to, pivot_column, pivot_words, row_words, slot_column, slot_words}
pub use Rattle.mt_layout.specs.Rows.{IsRowNumber, dead_mark, kind_number, name_at, named_kind, named_row, parent_at, row_in}
pub use Rattle.mt_layout.specs.Sizes.{gaps_of, least_items, run_room, slots_of}
pub use Rattle.mt_layout.specs.Spans.{Apart, BeginsFull, EndsFull, Fills, hole_length, leaf_range, longest_in, spans_from}
