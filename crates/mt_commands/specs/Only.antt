-- The tree on which numbers are drawn, and its only pass (handle).
-- Source: this project's own.
use Rattle.std.specs.Prelude.{◌≡◌, ℕ, ◌≤◌, List, [], Option, Some, None, length}
use Rattle.mt_base.specs.declared.kinds.Kind.TheVariants as kinds
use Rattle.mt_commands.specs.Prelude.{Range, IsMap, places, most_rows, Found, Draws, Drawn, Number, Busy, Invalid, NoNodes, Worn, Tree, limit_of, map_seen, opened, passes_of, most_calls}
use Rattle.mt_base.specs.Passes as known
use Rattle.mt_commands.specs.Turns.{Tally, Turns}

-- An allocation tree with as many nodes and calls as a tree may have, which opened empty and has one handle.
pub record HasOnePass (t : Tree) : Type 0 where
  pub tree : opened t ≡ record { kind = kinds.Alloc; rows = most_rows; opening = []; records = [] }
  pub calls : limit_of t ≡ most_calls
  pub passes : passes_of t ≡ 1

-- The handle of such a tree: its calls are all that it has seen of its number, and it has no section open.
pub record IsOnlyPass (p : known.Pass) : Type 0 where
  pub number : p.number ≡ 0
  pub own : p.mine ≡ places p.number p.seen
  pub shut : p.standing ≡ None

-- a map of an allocation tree with no more ranges than these
pub record IsFew (m : List Range) (n : ℕ) : Type 0 where
  pub map : IsMap kinds.Alloc m
  pub few : length m ≤ n

-- the tree as its handle has seen it, with the position of the draws and their tally
abbrev pub turns_at : Tree → known.Pass → Draws → Tally → Turns
turns_at t p d tally = record { map = map_seen t p; draws = d; tally = tally }

-- the number that a draw gave
abbrev pub found_in : Drawn → Option Found
found_in (Number at wrapped) = Some (record { at = at; wrapped = wrapped })
found_in Busy = None
found_in Invalid = None
found_in (NoNodes shortage) = None
found_in (Worn calls) = None
