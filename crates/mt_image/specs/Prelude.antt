-- What the definitions beside this file take from the toolchain and from the crates below, under one name. Declares nothing.
pub use Rattle.mt_rows.specs.Names.{IsLawfulOf, IsMadeOf, Kind, Range, Rooted, Sheet, columns, first_row, kind_width, map_by, most_rows, reached_in, tree_as}
pub use Rattle.mt_check.specs.Check.{checked}
pub use Rattle.mt_check.specs.declared.faults.Fault.{Fault}
pub use Rattle.mt_check.specs.declared.faults.Form.{Form}
pub use Rattle.mt_check.specs.declared.faults.Law.{Law}
pub use Rattle.mt_check.specs.declared.faults.Law.TheVariants.{Count, Depth, Entries, Gaps, Holes, Name, Parent, Pivots}
pub use Rattle.mt_dup.specs.Copy.{IsCopy}
