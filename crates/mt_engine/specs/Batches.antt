-- Many look-ups and many steps of a walk in one call: they return what that many single calls return.
-- Source: this project's own; the kernel is asked for one index, or one range, at a time.
use Rattle.std.specs.Prelude.{◌≡◌, ℕ, zero, suc, List, [], ◌∷◌, ◌++◌, Option, Some, None, length, drop, map}
pub use Rattle.mt_base.specs.Map.{entry_or_zero}
use Rattle.mt_engine.specs.Prelude.{Range, Load, Rooted, answer, greatest, map_by}
use Rattle.mt_engine.specs.RangeWalks.{found_from, index_behind}

-- these are the first elements of a list, whose others are unchanged
abbrev pub put_first : {A : Type 0} → List A → List A → List A
put_first xs places = xs ++ drop (length xs) places

-- ---- look-ups

-- the entries that these indexes hold, one for each: what a look-up of each alone returns
abbrev pub entries_at : List Range → List ℕ → List ℕ
entries_at m indexes = map (λ index. entry_or_zero (answer m (Load index))) indexes

-- ---- steps of a walk

-- the ranges that this many steps find, and where the walk goes on after them
pub record Stepped : Type 0 where
  pub found : List Range
  pub next : Option ℕ

-- a range that was found, and what the steps after it find; if none is found, the walk has ended
abbrev pub found_then : Option Range → (Range → Stepped) → Stepped
found_then None behind = record { found = []; next = None }
found_then (Some r) behind = record { found = r ∷ (behind r).found; next = (behind r).next }

-- This many steps, each from where the one before has left the walk. With no step the walk stays. Fewer ranges than steps are
-- found only if the map has no more; then the walk has ended.
unfoldable pub steps_from : List Range → ℕ → ℕ → Option ℕ → Stepped
steps_from m top zero next = record { found = []; next = next }
steps_from m top (suc n) next = found_then (found_from m top next) (λ r. steps_from m top n (index_behind top (Some r)))

-- this many steps in a tree
abbrev pub steps_by : Rooted → ℕ → Option ℕ → Stepped
steps_by t most next = steps_from (map_by t) (greatest t.table.width) most next

-- What the steps found was put by f into the first places, and was counted; the other places are unchanged. The walk goes on
-- where the steps left it.
pub record PutSteps {A : Type 0} (f : Range → A) (steps : Stepped) (old new : List A) (count : ℕ) (next : Option ℕ) : Type 0 where
  pub put : new ≡ put_first (map f steps.found) old
  pub many : count ≡ length steps.found
  pub goes : next ≡ steps.next

-- the three ranges of the worked batches
abbrev pub three_ranges : List Range
three_ranges = record { first = 10; last = 19; entry = 1 } ∷ record { first = 20; last = 29; entry = 2 } ∷ record { first = 40; last = 40; entry = 3 } ∷ []
