-- The node beside the gathered items, taken in where they are too few, or where a leaf would end with a hole.
-- Source: the kernel's lib/maple_tree.c, mas_rebalance, which takes the right neighbour first.
use Rattle.std.specs.Prelude.{ℕ, ◌-◌, ◌==◌, Bool, false, nat_lt, List, ◌++◌, fold, length, slice_get}
use Rattle.std.specs.Option.{option_map_or}
use Rattle.mt_splice.specs.Prelude.{Width, Item, RowKind, Leaf, Inner, Gapped, with_joined, least_items}

abbrev pub is_hole_at : List Item → ℕ → Bool
is_hole_at items i = option_map_or (λ (x : Item). x.word == 0) (slice_get items i) false

-- too few items for a node of this kind that is not the root
abbrev pub short_run : Width → RowKind → List Item → Bool
short_run width kind items = nat_lt (length items) (least_items width kind)

-- items of a leaf that end with a hole
abbrev pub holed_run : RowKind → List Item → Bool
holed_run Leaf items = is_hole_at items (length items - 1)
holed_run Inner items = false
holed_run Gapped items = false

-- items in front of others; in leaves two holes that meet are one
abbrev pub beside_items : RowKind → List Item → List Item → List Item
beside_items Leaf xs ys = fold with_joined xs ys
beside_items Inner xs ys = xs ++ ys
beside_items Gapped xs ys = xs ++ ys
