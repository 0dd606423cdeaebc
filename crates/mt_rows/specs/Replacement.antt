-- What is below a place of a tree, replaced by one store.
-- Source: the kernel's lib/maple_tree.c, mas_replace_node and mas_wr_slot_store.
use Rattle.std.specs.Prelude.{◌≡◌, ◌⊎◌, ℕ, ◌+◌, ◌<◌, ◌≤◌, Bool, List, [], ◌∷◌, ◌++◌, Some, slice_set}
use Rattle.std.specs.List.{AllByRecursion, slice_get}
use Rattle.mt_rows.specs.Prelude.{Range, Span, row_in, slots_of, slot_column}
use Rattle.mt_rows.specs.Spans.{base_of, spans_in, root_span}
use Rattle.mt_rows.specs.Levels.{level, map_of, times, is_row_of}
use Rattle.mt_rows.specs.Laws.{Tree, Stands, kind_on}

-- the root of a tree, as the one node of its level
abbrev pub root_of : Tree → List Span
root_of t = root_span t.table t.root ∷ []

-- a slot of a node this many levels below the root, and what it holds
pub record IsSlotAt (t : Tree) (depth : ℕ) (row : Span) (slot : ℕ) (child : Span) : Type 0 where
  pub front : List Span
  pub back : List Span
  pub stands : level t.table depth (root_of t) ≡ front ++ (row ∷ back)
  pub holds : slice_get (spans_in t.table row) slot ≡ Some child

-- the tree after a word is stored in a slot of a node of this height
abbrev pub with_slot : Tree → ℕ → Span → ℕ → ℕ → Tree
with_slot t height row slot word = record t {
  table = record { width = t.table.width; words = slice_set t.table.words (base_of t.table (row_in row.word) + slot_column (slots_of t.table.width (kind_on t.gapped height)) slot) word };
}

abbrev pub with_child : Span → ℕ → Span
with_child child word = record child { word = word }

-- nodes below the new child were not reached, or were reached from the old one
abbrev pub IsNewBelow : Tree → ℕ → ℕ → Span → Span → Type 0
IsNewBelow t h k child child' = (row : ℕ) → 1 ≤ times (is_row_of row) t.table k (child' ∷ []) → (times (is_row_of row) t.table h (root_of t) ≡ 0) ⊎ (1 ≤ times (is_row_of row) t.table k (child ∷ []))

-- In a tree of height h a child of height k is replaced. The map is the ranges left of it, those of the new child and those
-- right of it. The nodes that are reached differ only below the two children.
pub record ReplacesChild (t t' : Tree) (h k depth : ℕ) (child child' : Span) : Type 0 where
  pub stands : Stands t' h
  pub front : List Span
  pub back : List Span
  pub before : level t.table depth (root_of t) ≡ front ++ (child ∷ back)
  pub after : level t'.table depth (root_of t') ≡ front ++ (child' ∷ back)
  pub old_map : map_of t.table h (root_of t) ≡ map_of t.table k front ++ (map_of t.table k (child ∷ []) ++ map_of t.table k back)
  pub new_map : map_of t'.table h (root_of t') ≡ map_of t.table k front ++ (map_of t'.table k (child' ∷ []) ++ map_of t.table k back)
  pub below : AllByRecursion (λ (r : Range). r.last < child.first) (map_of t.table k front)
  pub above : AllByRecursion (λ (r : Range). child.last < r.first) (map_of t.table k back)
  pub rows : (p : ℕ → Span → Bool) → times p t.table h (root_of t) + times p t'.table k (child' ∷ []) ≡ times p t'.table h (root_of t') + times p t.table k (child ∷ [])

-- In a tree of height h the entry of one range is replaced, and nothing else.
pub record ReplacesEntry (t t' : Tree) (h : ℕ) (item : Span) (entry : ℕ) : Type 0 where
  pub stands : Stands t' h
  pub front : List Range
  pub back : List Range
  pub before : map_of t.table h (root_of t) ≡ front ++ (record { first = item.first; last = item.last; entry = item.word } ∷ back)
  pub after : map_of t'.table h (root_of t') ≡ front ++ (record { first = item.first; last = item.last; entry = entry } ∷ back)
  pub rows : (p : ℕ → Span → Bool) → times p t'.table h (root_of t') ≡ times p t.table h (root_of t)
