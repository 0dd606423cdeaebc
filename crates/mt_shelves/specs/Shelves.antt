-- A map of ranges on shelves: each has some of its ranges, and the shelves one after another have all of them.
-- Source: this project's own.
use Rattle.std.specs.Prelude.{◌≡◌, ℕ, ◌+◌, ◌<◌, ◌≤◌, ◌^◌, Bool, true, Option, Some, None, nat_le, nat_lt, ◌&&◌, List, [], ◌∷◌, ◌++◌, drop, length, take}
use Rattle.std.specs.List.{AllByRecursion, flat_map}
use Rattle.mt_base.specs.declared.calls.Query.{Query}
use Rattle.mt_base.specs.declared.calls.Query.TheVariants.{Load, Find, Next, Prev, Rfind}
use Rattle.mt_base.specs.declared.kinds.Kind.{Kind}
use Rattle.mt_base.specs.declared.ranges.Range.{Range}
use Rattle.mt_base.specs.Names.{Hole, hole_between, IsMap, IsMapFrom, first_range}
use Rattle.mt_list.specs.Places.{last_of}
use Rattle.mt_shelves.specs.declared.extents.ShelfExtent.{ShelfExtent}

-- the ranges of all shelves
abbrev pub joined : List (List Range) → List Range
joined shelves = flat_map (λ s. s) shelves

-- no shelf is empty
abbrev pub AllFilled : List (List Range) → Type 0
AllFilled shelves = AllByRecursion (λ (s : List Range). 0 < length s) shelves

-- shelves that are not empty, whose ranges rise; and those that are a map of this kind
pub record AreRising (shelves : List (List Range)) : Type 0 where
  pub rise : IsMapFrom 0 (joined shelves)
  pub filled : AllFilled shelves

pub record AreShelves (kind : Kind) (shelves : List (List Range)) : Type 0 where
  pub is : IsMap kind (joined shelves)
  pub filled : AllFilled shelves

-- and there are no more ranges than some number below 2^62
pub record IsShelfMap (kind : Kind) (most : ℕ) (shelves : List (List Range)) : Type 0 where
  pub are : AreShelves kind shelves
  pub few : length (joined shelves) ≤ most
  pub bound : most < 2 ^ 62

-- the shelves from a place up to another were brought onto one
pub record IsBrought (shelves : List (List Range)) (start end : ℕ) (new : List (List Range)) : Type 0 where
  pub joined : flat_map (λ s. s) new ≡ flat_map (λ s. s) shelves
  pub rising : AreRising new
  pub within : start < length new
  pub front : take start new ≡ take start shelves
  pub back : drop (start + 1) new ≡ drop end shelves

-- ---- parts of a map

abbrev pub EndBelow : ℕ → List Range → Type 0
EndBelow index m = AllByRecursion (λ (r : Range). r.last < index) m

abbrev pub BeginAbove : ℕ → List Range → Type 0
BeginAbove index m = AllByRecursion (λ (r : Range). index < r.first) m

-- the last range of a shelf ends below an index, and its first one begins above one, where there is any
abbrev pub lies_below : ℕ → Option Range → Bool
lies_below index None = true
lies_below index (Some r) = nat_lt r.last index

abbrev pub lies_above : ℕ → Option Range → Bool
lies_above index None = true
lies_above index (Some r) = nat_lt index r.first

abbrev pub ends_below : ℕ → List Range → Bool
ends_below index m = lies_below index (last_of m)

abbrev pub begins_above : ℕ → List Range → Bool
begins_above index m = lies_above index (first_range m)

-- the query looks upwards, from this index on for ranges that begin up to that one; or downwards, from this index for ranges
-- that end down to that one
abbrev pub LooksUp : Query → ℕ → ℕ → Type 0
LooksUp (Load index) from to = (from ≡ index) × (to ≡ index)
LooksUp (Find index max) from to = (from ≡ index) × (to ≡ max)
LooksUp (Next index max) from to = (from ≡ index) × (to ≡ max)
LooksUp (Prev index min) from to = ⊥
LooksUp (Rfind index min) from to = ⊥

abbrev pub LooksDown : Query → ℕ → ℕ → Type 0
LooksDown (Load index) from to = ⊥
LooksDown (Find index max) from to = ⊥
LooksDown (Next index max) from to = ⊥
LooksDown (Prev index min) from to = (from ≡ index) × (to ≡ min)
LooksDown (Rfind index min) from to = (from ≡ index) × (to ≡ min)

-- ---- holes

-- the holes between ranges, from an index on
abbrev pub holes_after : ℕ → List Range → List Hole
holes_after low [] = []
holes_after low (r ∷ m) = hole_between low r.first ++ holes_after (r.last + 1) m

-- the holes between the ranges of a shelf
abbrev pub holes_in : List Range → List Hole
holes_in [] = []
holes_in (r ∷ m) = holes_after (r.last + 1) m

-- none of these holes has more indexes
abbrev pub AreHolesUpTo : ℕ → List Hole → Type 0
AreHolesUpTo room holes = AllByRecursion (λ (x : Hole). x.last < x.first + room) holes

-- where the first range begins and the last one ends
abbrev pub start_in : Option Range → ℕ
start_in None = 0
start_in (Some r) = r.first

abbrev pub end_in : Option Range → ℕ
end_in None = 0
end_in (Some r) = r.last

abbrev pub shelf_start : List Range → ℕ
shelf_start m = start_in (first_range m)

abbrev pub shelf_end : List Range → ℕ
shelf_end m = end_in (last_of m)

-- what is noted of a shelf
pub record IsExtent (e : ShelfExtent) (m : List Range) : Type 0 where
  pub start : e.start ≡ shelf_start m
  pub end : e.end ≡ shelf_end m
  pub room : AreHolesUpTo e.room (holes_in m)

-- whether ranges that begin and end there, with holes no longer than this, may have room for `size` indexes in a window
abbrev pub has_room : ℕ → ℕ → ℕ → ℕ → ℕ → ℕ → Bool
has_room start end room size lo hi = nat_le size room && (nat_lt start hi && nat_lt lo end)
