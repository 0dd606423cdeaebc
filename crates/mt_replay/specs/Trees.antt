-- The trees that a player makes, copies, checks, lists and settles, each with all its passes (handles).
-- Source: this project's own.
use Rattle.std.specs.Prelude.{◌≡◌, ◌+◌, ℕ, Some, All, List, [], ◌∷◌, length, map, slice_get}
use Rattle.std.specs.List.{range_with_len}
use Rattle.mt_replay.specs.Prelude.{Kind, Range, History, last_map, Pass, new_pass, with_records, Tracked, new_history, SharedTree, most_calls, most_lanes}

-- a tree of a player has a handle for each lane, and one of the player's own; it takes as many calls as a tree may have
abbrev pub player_passes : ℕ
player_passes = most_lanes + 1

-- the tree with the calls that the first of these handles has seen
abbrev pub seen_by : History → List Pass → History
seen_by h [] = h
seen_by h (p ∷ passes) = with_records h p.seen

-- a tree's history as its handles have seen it, and the handles
abbrev pub tracked_of : SharedTree → List Pass → Tracked
tracked_of t passes = record { history = seen_by t.history passes; passes = passes }

-- the map after all that a handle has seen of a tree
abbrev pub map_seen : SharedTree → Pass → List Range
map_seen t p = last_map (with_records t.history p.seen)

-- These are all handles of a tree, in the order of their numbers.
pub record AreAll {T P : Type 0} (knows : P → Pass) (serves : T → P → Type 0) (many : ℕ) (t : T) (passes : List P) : Type 0 where
  pub count : length passes ≡ many
  pub of : All (serves t) passes
  pub numbered : (i : ℕ) (p : P) → slice_get passes i ≡ Some p → (knows p).number ≡ i

-- A new tree of this kind with this many nodes, which opens with these ranges, and its handles, which have seen nothing.
pub record IsNewTree (kind : Kind) (rows : ℕ) (opening : List Range) (many : ℕ) (t : SharedTree) (passes : List Pass) : Type 0 where
  pub history : t.history ≡ new_history kind rows opening
  pub most : t.most ≡ most_calls
  pub passes_are : passes ≡ map new_pass (range_with_len 0 many)
