-- The holes (gaps) of a map, and where a search finds room for `n` indexes in a window.
-- Source: the kernel's lib/maple_tree.c, mas_empty_area and mas_empty_area_rev.
use Rattle.std.specs.Prelude.{◌≡◌, ℕ, Bool, false, List, [], ◌∷◌, ◌++◌, Option, ◌+◌, ◌-◌, ◌≤◌, nat_lt, nat_le, min, max, map, filter, length, slice_get, if◌then◌else◌, option_map}
use Rattle.mt_base.specs.declared.kinds.Kind.{Kind}
use Rattle.mt_base.specs.declared.ranges.Range.{Range}
use Rattle.mt_base.specs.Width.{greatest_of}
use Rattle.mt_base.specs.Map.{is_held}

-- the first and the last index of a hole: no range holds an index of it
pub record Hole : Type 0 where
  pub first : ℕ
  pub last : ℕ

-- the indexes from `lo` up to, but without, `hi`, if there are any
abbrev pub hole_between : ℕ → ℕ → List Hole
hole_between lo hi = if nat_lt lo hi then record { first = lo; last = hi - 1 } ∷ [] else []

-- the holes between the ranges from `lo` up to, but without, `hi`
abbrev pub holes_from : ℕ → ℕ → List Range → List Hole
holes_from lo hi [] = hole_between lo hi
holes_from lo hi (r ∷ m) = hole_between lo r.first ++ holes_from (r.last + 1) hi m

-- the holes of a map up to an index, each as long as it can be
abbrev pub holes_to : ℕ → List Range → List Hole
holes_to top m = holes_from 0 (top + 1) m

-- the part of a hole that lies in a window; if there is none, it ends before it begins
abbrev pub clip : ℕ → ℕ → Hole → Hole
clip lo hi x = record { first = max lo x.first; last = min hi x.last }

-- whether `n` indexes fit into the hole
abbrev pub fits : ℕ → Hole → Bool
fits n x = nat_le (x.first + n) (x.last + 1)

-- the parts of holes in a window that have `n` indexes or more
abbrev pub kept : ℕ → ℕ → ℕ → List Hole → List Hole
kept n lo hi xs = filter (fits n) (map (clip lo hi) xs)

-- the start of the first of these parts
abbrev pub lowest_in : List Hole → Option ℕ
lowest_in xs = option_map (λ x. x.first) (slice_get xs 0)

-- the highest start of `n` indexes in the last of these parts
abbrev pub highest_in : ℕ → List Hole → Option ℕ
highest_in n xs = option_map (λ x. x.last + 1 - n) (slice_get xs (length xs - 1))

-- the lowest and the highest start of `n` indexes that lie in the window and in one hole up to an index
abbrev pub low_to : ℕ → List Range → ℕ → ℕ → ℕ → Option ℕ
low_to top m n lo hi = lowest_in (kept n lo hi (holes_to top m))

abbrev pub high_to : ℕ → List Range → ℕ → ℕ → ℕ → Option ℕ
high_to top m n lo hi = highest_in n (kept n lo hi (holes_to top m))

-- the lowest and the highest start in a tree of this kind
abbrev pub low : Kind → List Range → ℕ → ℕ → ℕ → Option ℕ
low kind = low_to (greatest_of kind)

abbrev pub high : Kind → List Range → ℕ → ℕ → ℕ → Option ℕ
high kind = high_to (greatest_of kind)

-- `n` indexes from a start lie in the window, and no range holds any of them
pub record IsRoom (m : List Range) (n lo hi start : ℕ) : Type 0 where
  pub from : lo ≤ start
  pub to : start + n ≤ hi + 1
  pub free : is_held m start (start + n - 1) ≡ false
