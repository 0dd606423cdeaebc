-- The items of a map: its ranges and the holes between them, in order.
-- Source: the kernel's core-api/maple_tree: a range of no entry is one slot of 0.
use Rattle.std.specs.Prelude.{ℕ, Bool, ◌+◌, ◌-◌, List, [], ◌∷◌, ◌++◌, Option, Some, None, nat_lt, ◌==◌, ◌||◌, if◌then◌else◌}
use Rattle.mt_bulk.specs.Prelude.{Kind, Range, reserved, greatest_of, Item}

-- the hole from `lo` up to, but without, `hi`, where there are such indexes
abbrev pub hole_to : ℕ → ℕ → List Item
hole_to lo hi = if nat_lt lo hi then record { last = hi - 1; word = 0; gap = 0 } ∷ [] else []

-- the items of the indexes from `lo` up to, but without, `hi`
abbrev pub items_between : ℕ → ℕ → List Range → List Item
items_between lo hi [] = hole_to lo hi
items_between lo hi (r ∷ m) = hole_to lo r.first ++ (record { last = r.last; word = r.entry; gap = 0 } ∷ items_between (r.last + 1) hi m)

abbrev pub items_of : Kind → List Range → List Item
items_of kind m = items_between 0 (greatest_of kind + 1) m

-- the first index after a range that ends here, if there is one
abbrev pub low_behind : Option ℕ → ℕ
low_behind None = 0
low_behind (Some last) = last + 1

-- ---- the order of ranges

-- a range that may not follow others that end below `low`
abbrev pub is_misplaced : Kind → ℕ → Range → Bool
is_misplaced kind low r = nat_lt r.last r.first || (nat_lt (greatest_of kind) r.last || ((r.entry == 0) || (reserved r.entry || nat_lt r.first low)))

-- the place of the first that is, where the first of these has this place
abbrev pub misplaced_from : Kind → ℕ → ℕ → List Range → Option ℕ
misplaced_from kind at low [] = None
misplaced_from kind at low (r ∷ m) = if is_misplaced kind low r then Some at else misplaced_from kind (at + 1) (r.last + 1) m

abbrev pub misplaced : Kind → List Range → Option ℕ
misplaced kind m = misplaced_from kind 0 0 m
