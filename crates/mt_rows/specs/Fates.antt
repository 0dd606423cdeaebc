-- What has become of the rows of a table, and what each change makes of them. Source: this project's own.
use Rattle.std.specs.Prelude.{ℕ, List, length, replicate, slice_set, fold}
use Rattle.mt_rows.specs.Prelude.{Width}
use Rattle.mt_rows.specs.declared.fates.Fate.{Fate}
use Rattle.mt_rows.specs.declared.fates.Fate.TheVariants.{New, Live}
use Rattle.mt_rows.specs.declared.fates.Change.{Change}
use Rattle.mt_rows.specs.declared.fates.Change.TheVariants.{Becomes, Enlivens, Opens}
use Rattle.mt_rows.specs.declared.fates.Course.{Course}
use Rattle.mt_rows.specs.declared.fates.Course.TheVariants.{Unused, Changed'}
use Rattle.mt_rows.specs.Spans.{Table}
use Rattle.mt_rows.specs.Trees.{reached_in}
use Rattle.mt_rows.specs.Words.{Listed}

-- the fates by the rows' numbers, and how many rows were live before the first call
pub record Fated : Type 0 where
  pub items : List Fate
  pub opened : ℕ

-- these rows are live
abbrev pub enlivened : List Fate → List ℕ → List Fate
enlivened fates rows = fold (λ (fs : List Fate) (row : ℕ). slice_set fs row Live) fates rows

-- the rows are live that are reached from a root word
abbrev pub with_reached : Table → ℕ → Fated → Fated
with_reached t root f = record f { items = enlivened f.items (reached_in t root) }

-- the same before the first call
abbrev pub opened_with : Table → ℕ → Fated → Fated
opened_with t root f = record { items = enlivened f.items (reached_in t root); opened = length (reached_in t root) }

abbrev pub table_of : Width → Listed → Table
table_of width words = record { width = width; words = words.items }

abbrev pub changed : Change → Fated → Fated
changed (Becomes row fate) f = record f { items = slice_set f.items row fate }
changed (Enlivens width words root) f = with_reached (table_of width words.value) root f
changed (Opens width words root) f = opened_with (table_of width words.value) root f

abbrev pub fates_of : Course → Fated
fates_of (Unused rows) = record { items = replicate rows New; opened = 0 }
fates_of (Changed' _ before change) = changed change (fates_of before)
