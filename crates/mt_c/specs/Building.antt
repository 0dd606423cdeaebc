-- Trees that are built of ranges, as C has them. Source: this project's own.
use Rattle.std.specs.Prelude.{◌≡◌, ◌≢◌, ◌⊎◌, ℕ, List, Option, Some, None}
use Rattle.mt_c.specs.Prelude.{Kind, Range, BulkError, Order, TooMany, NoMemory, rows_in, misplaced, Parts, kind_code}
use Rattle.mt_c.specs.declared.building.BuildWhy.{BuildWhy}
use Rattle.mt_c.specs.declared.told.OutRange.{OutRange}
use Rattle.mt_c.specs.Copying.{FitsRows, IsOpenedWith}
use Rattle.mt_c.specs.Own.{OwnTree}

-- a range that C has
abbrev pub range_from_c : OutRange → Range
range_from_c r = record { first = r.first; last = r.last; entry = r.entry }

-- why a bulk build is refused, as C gets it
abbrev pub why_of : BulkError → BuildWhy
why_of (Order at) = record { status = 22; at = at }
why_of (TooMany rows) = record { status = 33; at = 0 }
why_of NoMemory = record { status = 12; at = 0 }

-- a tree of the kind with this code that has exactly these ranges, which are in good order, in this many nodes, which are
-- enough
abbrev pub IsOfRanges : ℕ → ℕ → List Range → Parts → Type 0
IsOfRanges code rows m t = (kind : Kind) × (kind_code kind ≡ code) × (misplaced kind m ≡ None) × FitsRows (rows_in kind m) rows × IsOpenedWith kind rows m t

-- Why there is none of this kind: EINVAL with the place of the first range that is no range of the kind or does not begin above
-- the end of the one before; or EDOM if the nodes do not fit.
abbrev pub LacksOf : Kind → ℕ → List Range → ℕ → ℕ → Type 0
LacksOf kind rows m status at = ((status ≡ 22) × (misplaced kind m ≡ Some at)) ⊎ ((status ≡ 33) × (at ≡ 0) × (misplaced kind m ≡ None) × (FitsRows (rows_in kind m) rows → ⊥))

-- `LacksOf` in whatever number of nodes, or ENOMEM
abbrev pub LacksAnyhow : Kind → List Range → BuildWhy → Type 0
LacksAnyhow kind m why = ((rows : ℕ) → LacksOf kind rows m why.status why.at) ⊎ ((why.status ≡ 12) × (why.at ≡ 0))

-- EINVAL where there is no such kind, one of these, or ENOMEM
abbrev pub LacksRanges : ℕ → ℕ → List Range → ℕ → ℕ → Type 0
LacksRanges code rows m status at =
    ((status ≡ 22) × (at ≡ 0) × ((kind : Kind) → kind_code kind ≢ code)) ⊎ (((kind : Kind) × (kind_code kind ≡ code) × LacksOf kind rows m status at) ⊎ ((status ≡ 12) × (at ≡ 0)))

-- An open of what C keeps with these ranges. If a tree opens, or one is open, no place is returned.
abbrev pub Builds : ℕ → ℕ → List Range → Option OwnTree → Option OwnTree → ℕ → ℕ → Type 0
Builds code rows m (Some t) after status at = (after ≡ Some t) × (status ≡ 114) × (at ≡ 0)
Builds code rows m None (Some t) status at = (status ≡ 0) × (at ≡ 0) × IsOfRanges code rows m t.engine
Builds code rows m None None status at = LacksRanges code rows m status at
