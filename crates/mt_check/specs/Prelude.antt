-- What the definitions beside this file take from the toolchain and from the crates below, under one name. Declares nothing.
pub use Rattle.mt_base.specs.declared.kinds.Kind.TheVariants.{Alloc, Alloc32, Range, Range32}
pub use Rattle.mt_rows.specs.Names.{Gapped, Inner, Item, Kind, Leaf, Rooted, RowKind, Span, Table, Tree, Width, base_of, by_kind, column, columns, deepest, finds_room, first_row, gap_column, gaps_of, greatest, greatest_of, height_in, height_of, items_at, items_in, kind_width, least_items, longest_in, map_in, named_kind, parent_at, ranges_of, reached_in, reserved, root_span, row_in, row_words, rows_of, slots_of, spans_in, top_of, words_in}
