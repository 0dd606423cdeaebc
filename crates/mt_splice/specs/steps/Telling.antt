-- Where the items of a climb come from: the nodes of the layer below, between old nodes; and the gaps of items of old nodes.
-- Source: the kernel's lib/maple_tree.c, mas_leaf_max_gap and ma_max_gap, by which a node's gap reaches its parent.
use Rattle.std.specs.Prelude.{◌≡◌, ℕ, List, [], ◌∷◌, ◌++◌, length}
use Rattle.std.specs.List.{AllByRecursion}
use Rattle.mt_splice.specs.Prelude.{Item, spans_from, Fills, IsBelow, inner_of, root_span}
use Rattle.mt_splice.specs.steps.Plans.{Layer, depth_at, begin_at, heads_at}
use Rattle.mt_splice.specs.steps.Told.{TellGaps}
use Rattle.mt_splice.specs.steps.Windows.{high_of}
use Rattle.mt_splice.specs.steps.Starts.{Start}

-- Items that name nodes of a height of the old tree, with their gaps; the first begins at `lo`.
pub record AreOld (start : Start) (h lo : ℕ) (items : List Item) : Type 0 where
  pub rows : AllByRecursion (IsBelow start.tree.table (depth_at start h) (root_span start.tree.table start.tree.root)) (spans_from lo items)
  pub gaps : TellGaps (inner_of start.tree.gapped) start.tree.table h lo items

-- Of the items for the indexes from `lo` to, but without, `end`, those from `mid` to, but without, `hi` are new, and the others old.
pub record AreAmongOld (start : Start) (h lo mid hi end : ℕ) (new items : List Item) : Type 0 where
  pub front : List Item
  pub back : List Item
  pub are : items ≡ front ++ (new ++ back)
  pub ahead : Fills lo mid (spans_from lo front)
  pub past : Fills hi end (spans_from hi back)
  pub old_front : AreOld start h lo front
  pub old_back : AreOld start h hi back

-- items one level above the top layer: its nodes among old ones; those of leaves are what the call stores
abbrev pub AreFromBelow : Start → List Layer → ℕ → ℕ → List Item → Type 0
AreFromBelow start [] lo end items = Unit {0}
AreFromBelow start (l ∷ lower) lo end items =
    AreAmongOld start (length lower) lo (begin_at start (length lower) l) (high_of start.tree (depth_at start (length lower)) l.to) end (heads_at start (length lower) l) items

-- so are the items of each layer
abbrev pub AreAllFromBelow : Start → List Layer → Type 0
AreAllFromBelow start [] = Unit {0}
AreAllFromBelow start (l ∷ lower) = AreFromBelow start lower (begin_at start (length lower) l) (high_of start.tree (depth_at start (length lower)) l.to) l.items × AreAllFromBelow start lower
