-- A map of disjoint ranges, what it holds at an index, and the map after a store.
-- Source: the kernel's documentation of the maple tree, mtree_load and mtree_store_range.
use Rattle.std.specs.Prelude.{ℕ, Bool, List, [], ◌∷◌, ◌++◌, Option, Some, None, ◌+◌, ◌-◌, ◌<◌, ◌≤◌, ◌==◌, ◌&&◌, nat_lt, nat_le, not, min, max, map, filter, find, length, slice_get, if◌then◌else◌}
use Rattle.std.specs.List.{list_any, AllByRecursion}
use Rattle.mt_base.specs.declared.ranges.Range.{Range}
use Rattle.mt_base.specs.declared.kinds.Kind.{Kind}
use Rattle.mt_base.specs.Width.{greatest_of}

-- Ranges from `low` upwards: each holds an index and an entry, and begins above the last index of the one before.
abbrev pub IsMapFrom : ℕ → List Range → Type 0
IsMapFrom low [] = Unit {0}
IsMapFrom low (r ∷ m) = (low ≤ r.first) × (r.first ≤ r.last) × (0 < r.entry) × IsMapFrom (r.last + 1) m

-- a map of a tree of this kind: its ranges rise, and none ends above the greatest index
pub record IsMap (kind : Kind) (m : List Range) : Type 0 where
  pub rise : IsMapFrom 0 m
  pub within : AllByRecursion (λ (r : Range). r.last ≤ greatest_of kind) m

abbrev pub holds : ℕ → Range → Bool
holds index r = nat_le r.first index && nat_le index r.last

-- the range that holds an index
abbrev pub holding : List Range → ℕ → Option Range
holding m index = find (holds index) m

-- the entry of a range, and 0 if there is none
abbrev pub entry_or_zero : Option Range → ℕ
entry_or_zero None = 0
entry_or_zero (Some r) = r.entry

-- the first and the last range of a list
abbrev pub first_range : List Range → Option Range
first_range m = slice_get m 0

abbrev pub last_range : List Range → Option Range
last_range m = slice_get m (length m - 1)

-- whether a range holds some index of first..last
abbrev pub overlaps : ℕ → ℕ → Range → Bool
overlaps first last r = nat_le r.first last && nat_le first r.last

-- whether some range of the map holds one of these indexes
abbrev pub is_held : List Range → ℕ → ℕ → Bool
is_held m first last = list_any (overlaps first last) m

-- the first range that a store over first..last meets
abbrev pub first_met : List Range → ℕ → ℕ → Option Range
first_met m first last = first_range (filter (λ r. nat_le first r.last && nat_le r.first last) m)

-- the map without the range that holds an index
abbrev pub without : List Range → ℕ → List Range
without m index = filter (λ r. not (holds index r)) m

-- what is left of a range below `first`, and above `last`
abbrev pub cut_below : ℕ → Range → Range
cut_below first r = record { first = r.first; last = min r.last (first - 1); entry = r.entry }

abbrev pub cut_above : ℕ → Range → Range
cut_above last r = record { first = max r.first (last + 1); last = r.last; entry = r.entry }

-- the part below `first` of each range that begins below it
abbrev pub parts_below : List Range → ℕ → List Range
parts_below m first = map (cut_below first) (filter (λ r. nat_lt r.first first) m)

-- the part above `last` of each range that ends above it
abbrev pub parts_above : List Range → ℕ → List Range
parts_above m last = map (cut_above last) (filter (λ r. nat_lt last r.last) m)

-- the range that a store adds, and none if the entry is 0
abbrev pub part_stored : ℕ → ℕ → ℕ → List Range
part_stored first last entry = if entry == 0 then [] else record { first = first; last = last; entry = entry } ∷ []

-- the map after `entry` was stored over `first` to `last`
abbrev pub over : List Range → ℕ → ℕ → ℕ → List Range
over m first last entry = parts_below m first ++ (part_stored first last entry ++ parts_above m last)
