-- Items with their first indexes, end to end as in one node or in a few adjacent nodes.
-- Source: the kernel's core-api/maple_tree: a node's ranges follow each other, and a range without an entry is one slot of 0.
use Rattle.std.specs.Prelude.{◌≡◌, ◌≢◌, ℕ, ◌+◌, ◌-◌, ◌≤◌, ◌==◌, max, List, [], ◌∷◌, if◌then◌else◌}
use Rattle.mt_layout.specs.Prelude.{Range}
use Rattle.mt_layout.specs.declared.items.Item.{Item}
use Rattle.mt_layout.specs.declared.spans.Span.{Span}

-- items with their first indexes: the first begins at `first`, each other one after the one before
abbrev pub spans_from : ℕ → List Item → List Span
spans_from first [] = []
spans_from first (x ∷ items) = record { first = first; last = x.last; word = x.word } ∷ spans_from (x.last + 1) items

-- the range of a leaf's span, and none of a hole
abbrev pub leaf_range : Span → List Range
leaf_range x = if x.word == 0 then [] else record { first = x.first; last = x.last; entry = x.word } ∷ []

-- the spans fill the indexes from `lo` up to, but without, `hi`
abbrev pub Fills : ℕ → ℕ → List Span → Type 0
Fills lo hi [] = lo ≡ hi
Fills lo hi (x ∷ xs) = (x.first ≡ lo) × (lo ≤ x.last) × Fills (x.last + 1) hi xs

-- ---- holes in a leaf

-- the number of indexes of a hole, and 0 for an entry
abbrev pub hole_length : Span → ℕ
hole_length x = if x.word == 0 then x.last + 1 - x.first else 0

-- the number of indexes of the longest hole among spans of leaves
abbrev pub longest_in : List Span → ℕ
longest_in [] = 0
longest_in (x ∷ xs) = max (hole_length x) (longest_in xs)

abbrev pub BeginsFull : List Span → Type 0
BeginsFull [] = Unit {0}
BeginsFull (x ∷ xs) = x.word ≢ 0

-- no two holes follow each other
abbrev pub Apart : List Span → Type 0
Apart [] = Unit {0}
Apart (x ∷ xs) = (x.word ≡ 0 → BeginsFull xs) × Apart xs

-- the last span is an entry
abbrev pub EndsFull : List Span → Type 0
EndsFull [] = Unit {0}
EndsFull (x ∷ []) = x.word ≢ 0
EndsFull (x ∷ y ∷ ys) = EndsFull (y ∷ ys)
