-- What the definitions beside this file take from the toolchain and from the crates below, under one name. Declares nothing.
pub use Rattle.mt_rows.specs.Names.{Gapped, Inner, Kind, Leaf, Long, RowKind, Short, Span, Table, Width, column, deepest, finds_room, gap_column, height_in, kind_number, kind_width, named_kind, parent_at, root_span, row_in, slots_of, spans_in}
pub use Rattle.mt_image.specs.Reading.{Image, image_in}
pub use Rattle.mt_image.specs.Texts.{error_text}
pub use Rattle.mt_image.specs.declared.errors.ImageError.{ImageError}
