-- What the definitions beside this file take from the toolchain and from the crates below, under one name. Declares nothing.
pub use Rattle.mt_rows.specs.Names.{Kind, Rooted, Sheet, Span, StandsAt, Table, column, columns, dead_mark, deepest, first_row, greatest, height_in, is_buried, is_reached, kind_at, kind_width, level, life_of, map_by, named_kind, one_if, root_span, row_in, row_spans, word_at}
pub use Rattle.mt_rows.specs.declared.rows.Life.{Life}
pub use Rattle.mt_rows.specs.declared.rows.Life.TheVariants.{Dead, Draft, Live, New}
