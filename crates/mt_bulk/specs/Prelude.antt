-- What the definitions beside this file take from the toolchain and from the crates below, under one name. Declares nothing.
pub use Rattle.mt_rows.specs.Names.{EndsFull, FitRow, IsLawfulOf, IsMadeOf, Item, Kind, Leaf, NoGaps, Range, RiseFrom, RowKind, Sheet, Width, columns, end_of, finds_room, first_row, gaps_of, greatest_of, inner_kind, inner_of, kind_width, longest_under, map_by, most_rows, name_at, new_sheet, parent_at, reserved, row_words, sheet_in, slots_of, spans_from}
pub use Rattle.mt_lanes.specs.declared.lanes.Lane.{Lane}
