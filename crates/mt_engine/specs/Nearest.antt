-- The range of a map that is nearest to an index: the one at it or above, and the one at it or below.
-- Source: the kernel's lib/maple_tree.c, mas_find, which finds the entry at an index or after it, and mas_find_rev, at it
-- or below.
use Rattle.std.specs.Prelude.{ℕ, List, Option, take, slice_get}
use Rattle.mt_engine.specs.Prelude.{Range, place_below, place_above, last_of}

-- the first range that ends at the index or above
abbrev pub nearest_from : List Range → ℕ → Option Range
nearest_from m index = slice_get m (place_below m index)

-- the last range that begins at the index or below
abbrev pub nearest_up_to : List Range → ℕ → Option Range
nearest_up_to m index = last_of (take (place_above m index) m)
