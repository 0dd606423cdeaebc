-- What the definitions beside this file take from the toolchain and from the crates below, under one name. Declares nothing.
pub use Rattle.mt_base.specs.Width.{columns, first_row, most_rows}
pub use Rattle.mt_base.specs.declared.ranges.Range.{Range}
pub use Rattle.mt_base.specs.declared.widths.Width.{Width}
pub use Rattle.mt_base.specs.declared.widths.Width.TheVariants.{Long, Short}
