-- What the definitions beside this file take from the toolchain and from the crates below, under one name. Declares nothing.
pub use Rattle.mt_rows.specs.Names.{Gapped, Inner, IsReached, Leaf, Rooted, RowKind, Sheet, Span, StandsAt, Table, column, columns, first_row, is_reached, life_of, named_kind, names_of, new_sheet, parent_at, reached_in, row_in, slot_column, slots_of}
pub use Rattle.mt_rows.specs.declared.rows.Life.TheVariants.{Draft, New}
pub use Rattle.mt_free.specs.Book.{Book, IsBook, IsOut}
