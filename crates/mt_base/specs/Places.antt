-- Where a walk over ranges begins and goes on, up to a bound, and what each of its steps asks.
-- Source: the kernel's documentation of the maple tree, mas_find and mas_for_each.
use Rattle.std.specs.Prelude.{ℕ, ◌+◌, Option, Some, None, if◌then◌else◌, nat_le, nat_lt}
use Rattle.mt_base.specs.declared.calls.Query.{Query}
use Rattle.mt_base.specs.declared.calls.Query.TheVariants.{Find}
use Rattle.mt_base.specs.declared.ranges.Range.{Range}

-- a walk begins at its index, unless that is above the bound
abbrev pub place_within : ℕ → ℕ → Option ℕ
place_within index max = if nat_le index max then Some index else None

-- after a range it goes on at the next index, unless the range ends at the bound or above
abbrev pub place_after : ℕ → Range → Option ℕ
place_after max r = if nat_lt r.last max then Some (r.last + 1) else None

-- after what a step found it goes on behind that; where nothing was found it has ended
abbrev pub place_behind : Option Range → ℕ → Option ℕ
place_behind None max = None
place_behind (Some r) max = place_after max r

-- each step is a find from the place on; one that begins nowhere is a find that finds nothing
abbrev pub find_at : Option ℕ → ℕ → Query
find_at (Some index) max = Find index max
find_at None max = Find 1 0
