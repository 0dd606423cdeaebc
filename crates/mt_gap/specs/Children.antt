-- What the slots of a node hold, each with its gap word.
-- Source: the kernel's include/linux/maple_tree.h, the gaps of maple_arange_64 beside its slots.
use Rattle.std.specs.Prelude.{ℕ, ◌+◌, List, [], ◌∷◌, Option, Some, None, flat_map}
use Rattle.mt_gap.specs.Prelude.{Item, RowKind, Span, items_at, row_in, named_kind, slots_of, gaps_of, Table, base_of, root_span}
use Rattle.mt_gap.specs.declared.children.Child.{Child}

-- items with their first indexes and their gap words; the first begins at `first`, each other one after the one before
abbrev pub children_from : ℕ → List Item → List Child
children_from first [] = []
children_from first (x ∷ items) = record { span = record { first = first; last = x.last; word = x.word }; gap = x.gap } ∷ children_from (x.last + 1) items

-- the children of a node of this kind that covers first..last
abbrev pub row_children : Table → ℕ → RowKind → ℕ → ℕ → List Child
row_children t row kind first last = children_from first (items_at (slots_of t.width kind) (gaps_of t.width kind) t.words (base_of t row) last)

abbrev pub children_by : Table → Option RowKind → Span → List Child
children_by t None x = []
children_by t (Some kind) x = row_children t (row_in x.word) kind x.first x.last

-- the children of the node that a span names, and none where its word is no name
abbrev pub children_in : Table → Span → List Child
children_in t x = children_by t (named_kind x.word) x

-- the children of nodes side by side
abbrev pub children_below : Table → List Child → List Child
children_below t xs = flat_map (λ (x : Child). children_in t x.span) xs

-- the root, as a child of none
abbrev pub root_child : Table → ℕ → Child
root_child t root = record { span = root_span t root; gap = 0 }
