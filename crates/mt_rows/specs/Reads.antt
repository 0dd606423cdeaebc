-- How often nodes were read, as a chain that grows by one at each read. Source: this project's own.
use Rattle.std.specs.Prelude.{ℕ}
use Rattle.mt_rows.specs.declared.reads.Chain.{Chain}
use Rattle.mt_rows.specs.declared.reads.Chain.TheVariants.{Empty, Longer'}
use Rattle.mt_rows.specs.Sheet.{one_more}

abbrev pub length_of : Chain → ℕ
length_of Empty = 0
length_of (Longer' _ before) = one_more (length_of before)
