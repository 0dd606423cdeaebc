-- What the definitions beside this file take from the toolchain and from the crates below, under one name. Declares nothing.
pub use Rattle.mt_rows.specs.Names.{Caller, HasDied, Holder, IsWhole, Sheet, Told, first_row, kind_width, life_of, most_rows, one_if}
pub use Rattle.mt_rows.specs.declared.rows.Life.{Life}
pub use Rattle.mt_rows.specs.declared.rows.Life.TheVariants.{Dead, Draft, Live, New}
pub use Rattle.mt_rows.specs.declared.rows.Scan.{Scan}
pub use Rattle.mt_rule.specs.Names.{Identity, IsScanOf, least_number, no_shape, none_open, pen_sheet, raised, records_of, scan_of, section_word, table_size, with_loaded, words_from}
pub use Rattle.mt_rule.specs.declared.views.PassPart.{PassPart}
pub use Rattle.mt_rule.specs.declared.views.PenPart.{PenPart}
pub use Rattle.mt_rule.specs.declared.views.Shape.{Shape}
pub use Rattle.mt_rule.specs.declared.views.TurnView.{TurnView}
