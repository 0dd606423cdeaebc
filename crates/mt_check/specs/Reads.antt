-- What the walk reads of one node of a table.
-- Source: this project's own.
use Rattle.std.specs.Prelude.{ℕ, zero, suc, ◌+◌, ◌-◌, ◌*◌, ◌&&◌, ◌==◌, nat_eq, nat_le, min, length, List, Bool, true, ◌++◌}
use Rattle.std.specs.Cmp.Lexicographic.{pointwise}
use Rattle.mt_check.specs.Prelude.{Width, columns, greatest, RowKind, Item, Span, items_at, row_words, slots_of, gaps_of, Table, base_of, column}
use Rattle.mt_check.specs.declared.faults.Law.{Law}
use Rattle.mt_check.specs.declared.faults.Law.TheVariants.{Parent, Pivots, Count, Entries, Holes}
use Rattle.mt_check.specs.RowTests.{rise_to, words_of, least_at, has_entries, has_holes}
use Rattle.mt_check.specs.Check.{unless}

-- the items of a node of this kind that ends at `last`
abbrev pub row_items : Table → RowKind → ℕ → ℕ → List Item
row_items t kind row last = items_at (slots_of t.width kind) (gaps_of t.width kind) t.words (base_of t row) last

-- this many columns from `from` on are 0
abbrev pub are_zero : Table → ℕ → ℕ → ℕ → Bool
are_zero t row from zero = true
are_zero t row from (suc n) = (column t row from == 0) && are_zero t row (from + 1) n

-- all columns are 0 except those of the parent word and of this many items
abbrev pub holds_no_more : Table → RowKind → ℕ → ℕ → Bool
holds_no_more t kind row count =
    let slots = slots_of t.width kind in
    let behind = 2 * slots + min count (gaps_of t.width kind) in
    are_zero t row (1 + count) (slots - (1 + count)) && (are_zero t row (slots + count) (2 * slots - (slots + count)) && are_zero t row behind (columns t.width - behind))

-- the words that the parent word and the items make
abbrev pub words_of_parts : Table → RowKind → ℕ → ℕ → List ℕ
words_of_parts t kind row last = row_words (columns t.width) (slots_of t.width kind) (gaps_of t.width kind) (column t row 0) (row_items t kind row last)

-- the node holds items that rise from one index to another, and nothing else but a parent word
abbrev pub holds_items : Table → RowKind → ℕ → ℕ → ℕ → Bool
holds_items t kind row first last = rise_to first last (row_items t kind row last) && pointwise nat_eq (words_of t row) (words_of_parts t kind row last)

-- the laws that the items of a node break
abbrev pub broken_items : Width → RowKind → ℕ → ℕ → List Item → List Law
broken_items width kind left last items =
    unless (nat_le (least_at width left kind) (length items)) Count ++ (unless (has_entries kind items) Entries ++ unless (has_holes (nat_le (greatest width) last) kind items) Holes)

-- the laws that a node's own words break, except for its depth
abbrev pub broken_words : Table → RowKind → ℕ → ℕ → ℕ → Span → List Law
broken_words t kind row left parent x =
    unless (column t row 0 == parent) Parent ++ (unless (holds_items t kind row x.first x.last) Pivots ++ broken_items t.width kind left x.last (row_items t kind row x.last))
