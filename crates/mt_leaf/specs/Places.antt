-- The slots at which a store begins and ends, and items that are pushed after others.
use Rattle.std.specs.Prelude.{ℕ, zero, suc, List, [], ◌∷◌, ◌++◌, ◌+◌, ◌-◌, ◌==◌, ◌&&◌, nat_lt, nat_le, take, drop, if◌then◌else◌}
use Rattle.std.specs.List.{prefix_len}
use Rattle.mt_layout.specs.declared.items.Item.{Item}

-- the slot that holds this index, of items that reach it
abbrev pub slot_reaching : List Item → ℕ → ℕ
slot_reaching items index = prefix_len (λ x. nat_lt x.last index) items

-- the first slot that ends above this index
abbrev pub slot_above : List Item → ℕ → ℕ
slot_above items index = prefix_len (λ x. nat_le x.last index) items

-- the first index of a slot, where the first item begins at `min`
abbrev pub first_of : ℕ → List Item → ℕ → ℕ
first_of min items zero = min
first_of min [] (suc slot) = min
first_of min (x ∷ items) (suc slot) = first_of (x.last + 1) items slot

-- items with one more at the end; if it and the last one are holes, the two are one
abbrev pub with_joined : List Item → Item → List Item
with_joined [] y = y ∷ []
with_joined (x ∷ []) y = if (x.word == 0) && (y.word == 0) then record x { last = y.last } ∷ [] else x ∷ y ∷ []
with_joined (x ∷ z ∷ items) y = x ∷ with_joined (z ∷ items) y

-- what is left of an item below `first`, where it begins below
abbrev pub cut_item : ℕ → ℕ → List Item → List Item
cut_item begin first [] = []
cut_item begin first (x ∷ items) = if nat_lt begin first then record x { last = first - 1 } ∷ [] else []

-- what items have below `first`, if the first of them begins at `min`
abbrev pub items_below : ℕ → List Item → ℕ → List Item
items_below min items first = take (slot_reaching items first) items ++ cut_item (first_of min items (slot_reaching items first)) first (drop (slot_reaching items first) items)
