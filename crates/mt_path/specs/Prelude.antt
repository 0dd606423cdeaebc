-- What the definitions beside this file take from the toolchain and from the crates below, under one name. Declares nothing.
pub use Rattle.mt_rows.specs.Names.{Fills, IsPlace, IsTreeOf, Leaf, OnlyReads, ReadsUpTo, Rooted, RowKind, Sheet, Span, Table, Width, base_of, by_kind, column, columns, deepest, gaps_of, greatest, items_at, items_from, named_kind, root_span, row_in, row_spans, row_words, slot_column, slots_of, spans_from, spans_in}
