-- Items with their gaps, and the law of gaps while a tree is replaced.
-- Source: the kernel's lib/maple_tree.c, mas_leaf_max_gap and ma_max_gap, by which a node's gap reaches its parent.
use Rattle.std.specs.Prelude.{◌≡◌, ◌≤◌, ℕ, Bool, List, [], ◌∷◌, Option, Some, None, map}
use Rattle.mt_splice.specs.Prelude.{Item, RowKind, Leaf, Inner, Gapped, Span, longest_under, spans_from, Table, Levels, Tree, GapLaw, longest_below, KeepsGaps, root_of}
use Rattle.mt_splice.specs.steps.Starts.{Start}

-- ---- the gaps of items

-- the longest hole below each of some nodes of a height
abbrev pub longest_holes : Table → ℕ → List Span → List ℕ
longest_holes t h xs = map (λ (x : Span). longest_below t h (x ∷ [])) xs

-- in nodes with gaps, the gap of each item is the longest hole below it
abbrev pub TellGaps : RowKind → Table → ℕ → ℕ → List Item → Type 0
TellGaps Leaf t h first items = Unit {0}
TellGaps Inner t h first items = Unit {0}
TellGaps Gapped t h first items = map (λ (x : Item). x.gap) items ≡ longest_holes t h (spans_from first items)

-- What a node of this kind gives the node above, if the nodes above are of the kind `above`: its longest hole, if these have
-- gaps. Its first item begins at `first`.
abbrev pub told_gap : RowKind → RowKind → ℕ → List Item → ℕ
told_gap Leaf kind first items = 0
told_gap Inner kind first items = 0
told_gap Gapped kind first items = longest_under kind first items

-- ---- the law of gaps

-- each node of the tree as it was keeps the law
abbrev pub HadGaps : Start → Type 0
HadGaps start = Levels (GapLaw start.tree) start.tree.table start.height (root_of start.tree)

-- in a tree, or in the empty tree, the new nodes keep the law, and so do all nodes except in the slot that covers the index
abbrev pub GapsAs : (ℕ → Bool) → ℕ → Tree → Option ℕ → Type 0
GapsAs is_new index t None = Unit {0}
GapsAs is_new index t (Some h) = Levels (KeepsGaps is_new index t) t.table h (root_of t)

-- so it is for each index of what changes
abbrev pub GapsBeside : Start → (ℕ → Bool) → Tree → Option ℕ → Type 0
GapsBeside start is_new t new = (index : ℕ) → start.first ≤ index → index ≤ start.last → GapsAs is_new index t new
