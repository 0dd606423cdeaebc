-- The law of gaps while gap words are still to be mended: it may fail in the slots on the way to an index.
-- Source: the kernel's lib/maple_tree.c, mas_update_gap, which goes up from a leaf that has changed.
use Rattle.std.specs.Prelude.{◌≡◌, ◌⊎◌, ℕ, zero, suc, ◌+◌, ◌&&◌, nat_le, Bool, true, false, List, [], ◌∷◌}
use Rattle.mt_rows.specs.Prelude.{RowKind, Leaf, Inner, Gapped, Span, gap_column, row_in, slots_of}
use Rattle.mt_rows.specs.Laws.{Tree, Stands, GapLaw, longest_below}
use Rattle.mt_rows.specs.Levels.{Levels}
use Rattle.mt_rows.specs.Replacement.{root_of}
use Rattle.mt_rows.specs.Spans.{Table, column, inner_of, spans_in}

-- the span covers the index
abbrev pub covers : ℕ → Span → Bool
covers index x = nat_le x.first index && nat_le index x.last

-- each gap word of a node's slots is the longest hole below, but perhaps in the slot that covers the index
abbrev pub GapsFromBut : ℕ → Table → ℕ → ℕ → ℕ → List Span → Type 0
GapsFromBut index t h row slot [] = Unit {0}
GapsFromBut index t h row slot (x ∷ xs) =
    (covers index x ≡ false → column t row (gap_column (slots_of t.width Gapped) slot) ≡ longest_below t h (x ∷ [])) × GapsFromBut index t h row (slot + 1) xs

abbrev pub GapLawButBy : ℕ → RowKind → Table → ℕ → Span → Type 0
GapLawButBy index Leaf t h x = Unit {0}
GapLawButBy index Inner t h x = Unit {0}
GapLawButBy index Gapped t h x = GapsFromBut index t h (row_in x.word) 0 (spans_in t x)

abbrev pub GapLawBut : ℕ → Tree → ℕ → Span → Type 0
GapLawBut index t zero x = Unit {0}
GapLawBut index t (suc h) x = GapLawButBy index (inner_of t.gapped) t.table h x

-- a new node keeps the law of gaps, and any other node keeps it except in the slot that covers the index
pub record KeepsGaps (is_new : ℕ → Bool) (index : ℕ) (t : Tree) (h : ℕ) (x : Span) : Type 0 where
  pub beside : GapLawBut index t h x
  pub new : is_new (row_in x.word) ≡ true → GapLaw t h x

-- so does each node of the tree
abbrev pub HasGapsBut : (ℕ → Bool) → ℕ → Tree → Type 0
HasGapsBut is_new index t = (t.root ≡ 0) ⊎ ((h : ℕ) × Stands t h × Levels (KeepsGaps is_new index t) t.table h (root_of t))

-- each node of the tree keeps the law of gaps
abbrev pub HasGaps : Tree → Type 0
HasGaps t = (t.root ≡ 0) ⊎ ((h : ℕ) × Stands t h × Levels (GapLaw t) t.table h (root_of t))
