-- What is read of one slot of a node: where it ends, and what it holds.
-- Source: the kernel's lib/maple_tree.c, mas_safe_pivot, and the slots and gaps of include/linux/maple_tree.h.
use Rattle.std.specs.Prelude.{ℕ, ◌+◌, nat_lt, if◌then◌else◌}
use Rattle.mt_gap.specs.Prelude.{RowKind, pivot_column, slot_column, gap_at, slots_of, gaps_of, Table, base_of, column}
use Rattle.mt_gap.specs.declared.children.Child.{Child}

-- the last index of what a slot of a node of this kind that ends at `max` holds
abbrev pub last_in : Table → RowKind → ℕ → ℕ → ℕ → ℕ
last_in t kind row max slot = if nat_lt (slot + 1) (slots_of t.width kind) then column t row (pivot_column slot) else max

-- the word in a slot, and the gap word beside it
abbrev pub word_in : Table → RowKind → ℕ → ℕ → ℕ
word_in t kind row slot = column t row (slot_column (slots_of t.width kind) slot)

abbrev pub gap_in : Table → RowKind → ℕ → ℕ → ℕ
gap_in t kind row slot = gap_at (slots_of t.width kind) (gaps_of t.width kind) t.words (base_of t row) slot

-- what a slot holds, from an index to another
abbrev pub child_in : Table → RowKind → ℕ → ℕ → ℕ → ℕ → Child
child_in t kind row slot first last = record { span = record { first = first; last = last; word = word_in t kind row slot }; gap = gap_in t kind row slot }
