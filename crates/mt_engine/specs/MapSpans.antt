-- What a map has at an index: the range that holds it, or the whole hole around it.
-- Source: the kernel's lib/maple_tree.c, mas_walk, which gives the range of an entry, or of the hole around an index.
use Rattle.std.specs.Prelude.{◌≡◌, ◌≢◌, ℕ, ◌+◌, ◌-◌, ◌<◌, ◌≤◌, List, Some, IsSome, false}
use Rattle.mt_engine.specs.Prelude.{Range, holding, is_held, Span}

-- the range of a span that is no hole
abbrev pub range_of : Span → Range
range_of x = record { first = x.first; last = x.last; entry = x.word }

-- a range of the map, or a hole: from the range before it, or 0, to the range after it, or the greatest index
pub record IsSpanAt (m : List Range) (top index : ℕ) (x : Span) : Type 0 where
  pub from : x.first ≤ index
  pub to : index ≤ x.last
  pub within : x.last ≤ top
  pub held : x.word ≢ 0 → holding m index ≡ Some (range_of x)
  pub hole : x.word ≡ 0 → is_held m x.first x.last ≡ false
  pub before : x.word ≡ 0 → 0 < x.first → IsSome (holding m (x.first - 1))
  pub behind : x.word ≡ 0 → x.last < top → IsSome (holding m (x.last + 1))
