-- Many look-ups in one read-side section, and many steps of a walk in one, with one window (version interval) for all.
-- Source: this project's own; the kernel's readers ask for one index, or one range, at a time.
use Rattle.std.specs.Prelude.{◌≡◌, ℕ, zero, suc, ◌<◌, ◌≤◌, List, [], ◌∷◌, ◌++◌, Option, Some, None, length, take, drop}
use Rattle.mt_read.specs.Prelude.{Range, Query, Load, History, answer, PassPart, moment_seen, find_at, place_behind}
pub use Rattle.mt_base.specs.Map.{entry_or_zero}
use Rattle.mt_base.specs.Passes as known

-- ---- reads at a version

-- The range answers the query at version k, which the handle has seen.
pub record SeenAt (q : PassPart) (k : ℕ) (query : Query) (value : Option Range) : Type 0 where
  pub high : k ≤ length q.seen
  pub is : value ≡ answer (moment_seen q k).ranges query

-- At some version that the handle has seen, no earlier than `least`, the range answers the query.
abbrev pub IsSeenFrom : PassPart → ℕ → Query → Option Range → Type 0
IsSeenFrom q least query value = (k : ℕ) × (least ≤ k) × SeenAt q k query value

-- The handle made this read at version k, which lies in the window from lo to hi.
abbrev pub ReadAt : History → known.Pass → ℕ → ℕ → known.Pass → ℕ → Query → Option Range → Type 0
ReadAt tree p lo hi q k query value = known.Read tree p lo hi k query value q

-- ---- look-ups

-- The entries that these indexes hold, 0 for an index in a hole. Each was read at a version from `from` to `to`, and none at an
-- earlier one than the entry before it.
abbrev pub AreEntries : (ℕ → Query → Option Range → Type 0) → ℕ → List ℕ → List ℕ → ℕ → Type 0
AreEntries At from [] [] to = from ≤ to
AreEntries At from [] (entry ∷ entries) to = ⊥
AreEntries At from (index ∷ indexes) [] to = ⊥
AreEntries At from (index ∷ indexes) (entry ∷ entries) to =
    (k : ℕ) × (value : Option Range) × (from ≤ k) × At k (Load index) value × (entry ≡ entry_or_zero value) × AreEntries At k indexes entries to

-- The entries of the first `count` indexes are the first elements of a list, whose others are unchanged.
pub record EntriesPut (At : ℕ → Query → Option Range → Type 0) (from to count : ℕ) (indexes old new : List ℕ) : Type 0 where
  pub found : List ℕ
  pub read : AreEntries At from (take count indexes) found to
  pub count_is : count ≡ length found
  pub put : new ≡ found ++ drop count old

-- ---- steps of a walk

-- The ranges that a walk finds up to `max`, each from the index after the range before it. Each was read at a version from
-- `from` to `to`, and none at an earlier one than the range before it. The walk begins at one place, and is then at the other.
abbrev pub AreSteps : (ℕ → Query → Option Range → Type 0) → ℕ → ℕ → Option ℕ → List Range → ℕ → Option ℕ → Type 0
AreSteps At max from at [] to left = (from ≤ to) × (left ≡ at)
AreSteps At max from at (r ∷ ranges) to left = (k : ℕ) × (from ≤ k) × At k (find_at at max) (Some r) × AreSteps At max k (place_behind (Some r) max) ranges to left

-- Nothing is found from this place on, at a version from `from` to `to`.
abbrev pub IsWalkEnd : (ℕ → Query → Option Range → Type 0) → ℕ → ℕ → Option ℕ → ℕ → Type 0
IsWalkEnd At max from at to = (k : ℕ) × (from ≤ k) × (k ≤ to) × At k (find_at at max) None

-- The walk found these ranges, with room for `room`. If they fill it, the walk is after them. If they do not, the walk has
-- ended: nothing was found after them, at no earlier version than the last of them.
pub record HasFound (At : ℕ → Query → Option Range → Type 0) (max from to : ℕ) (at : Option ℕ) (room : ℕ) (found : List Range) (at' : Option ℕ) : Type 0 where
  pub until : ℕ
  pub left : Option ℕ
  pub read : AreSteps At max from at found until left
  pub within : until ≤ to
  pub fits : length found ≤ room
  pub full : length found ≡ room → at' ≡ left
  pub ended : length found < room → (at' ≡ None) × IsWalkEnd At max until left to

-- They are the first elements of a list, whose others are unchanged.
pub record RangesPut (At : ℕ → Query → Option Range → Type 0) (max from to : ℕ) (at : Option ℕ) (old new : List Range) (count : ℕ) (at' : Option ℕ) : Type 0 where
  pub found : List Range
  pub has : HasFound At max from to at (length old) found at'
  pub count_is : count ≡ length found
  pub put : new ≡ found ++ drop count old

-- ---- worked cases

-- a tree whose map is the same at every version
abbrev pub InMap : List Range → ℕ → Query → Option Range → Type 0
InMap m k query value = value ≡ answer m query

abbrev pub entry_in : List Range → ℕ → ℕ
entry_in m index = entry_or_zero (answer m (Load index))

-- a tree that is empty at version 0, and has 7 at index 5 from version 1 on
abbrev pub map_with_seven : ℕ → List Range
map_with_seven zero = []
map_with_seven (suc k) = record { first = 5; last = 5; entry = 7 } ∷ []

abbrev pub AtStore : ℕ → Query → Option Range → Type 0
AtStore k query value = value ≡ answer (map_with_seven k) query
