-- The way down from the root of a tree to the leaf that covers an index, and the slot there.
-- Source: the kernel's lib/maple_tree.c, mas_walk, mas_next_node and mas_prev_node.
use Rattle.std.specs.Prelude.{◌≡◌, ℕ, zero, suc, ◌+◌, ◌<◌, ◌≤◌, List, [], ◌∷◌, ◌++◌, drop, length, take_while, nat_lt, slice_index_or, sum, map, max}
use Rattle.std.specs.List.{AllByRecursion}
use Rattle.mt_path.specs.Prelude.{deepest, Span, row_in, named_kind, Table, spans_in, root_span, Sheet, ReadsUpTo, by_kind}
use Rattle.mt_path.specs.declared.paths.PathStep.{PathStep}

-- the slot that holds an index: that of the first span which ends at it or above
abbrev pub slot_for : List Span → ℕ → ℕ
slot_for xs index = length (take_while (λ x. nat_lt x.last index) xs)

abbrev pub no_span : Span
no_span = record { first = 0; last = 0; word = 0 }

-- the span in a slot
abbrev pub span_at : List Span → ℕ → Span
span_at xs slot = slice_index_or xs slot no_span

-- the step in the node that a span names
abbrev pub step_in : Table → Span → ℕ → PathStep
step_in t x index = record { row = row_in x.word; slot = slot_for (spans_in t x) index; min = x.first; max = x.last }

-- the span below a node that covers an index
abbrev pub below : Table → Span → ℕ → Span
below t x index = span_at (spans_in t x) (slot_for (spans_in t x) index)

-- the steps from a node down to the leaf, at most this many; none if its word is no name
unfoldable pub path_of : Table → ℕ → Span → ℕ → List PathStep
path_of t zero x index = []
path_of t (suc depth) x index = by_kind (named_kind x.word) (step_in t x index ∷ []) (step_in t x index ∷ path_of t depth (below t x index) index)

-- the path to an index, the root first
abbrev pub path_in : Table → ℕ → ℕ → List PathStep
path_in t root index = path_of t deepest (root_span t root) index

-- a path's step at a level, the root's level being 0
abbrev pub no_step : PathStep
no_step = record { row = 0; slot = 0; min = 0; max = 0 }

abbrev pub step_at : List PathStep → ℕ → PathStep
step_at path level = slice_index_or path level no_step

-- So many words of a node are loaded at most to find the slot of a step: thirteen, or where pivots are loaded one by one, those
-- up to the slot's.
abbrev pub loads_at : PathStep → ℕ
loads_at s = max 13 (s.slot + 1)

-- how many words a walk loads at most: in each node those and one slot, and before them the root word
abbrev pub loads_in : List PathStep → ℕ
loads_in steps = sum (map (λ s. loads_at s + 1) steps)

abbrev pub loads_on : List PathStep → ℕ
loads_on path = 1 + loads_in path

-- ---- a path that goes on to another index

-- the node covers the index
abbrev pub Covers : PathStep → ℕ → Type 0
Covers s index = (s.min ≤ index) × (index ≤ s.max)

-- of a path's steps, the deepest whose node covers an index, and those above it
pub record IsDeepestOver (steps above : List PathStep) (index : ℕ) (step : PathStep) : Type 0 where
  pub behind : List PathStep
  pub parts : steps ≡ above ++ (step ∷ behind)
  pub over : Covers step index
  pub none_deeper : AllByRecursion (λ s. Covers s index → ⊥) behind

-- No node is loaded above one that covered the index before. Except for the root word, the loads are at most those in the nodes
-- from there on.
abbrev pub ReadsBelow : List PathStep → List PathStep → ℕ → Sheet → Sheet → Type 0
ReadsBelow old new index s s' = (level : ℕ) → level < length old → Covers (step_at old level) index → ReadsUpTo (loads_on (drop level new)) s s'

-- ---- the nodes of a path

-- the node that a path enters this many levels below a node
unfoldable pub row_on : Table → ℕ → Span → ℕ → Span
row_on t zero x index = x
row_on t (suc d) x index = row_on t d (below t x index) index
