-- What running its steps makes of a lane: its desk answers each once, in order.
-- Source: this project's own.
use Rattle.std.specs.Prelude.{All, ◌≡◌, ◌<◌, ◌≤◌, ◌^◌, ◌*◌, ℕ, zero, suc, List, length, slice_index_or}
use Rattle.mt_lanes.specs.declared.lanes.Lane.{Lane}

-- From the desk a the steps 0 to n - 1, each once and in order, lead to the desk b.
abbrev pub Chain : {D : Type 0} → (did : D → ℕ → D → Type 0) → ℕ → D → D → Type 0
Chain did zero a b = b ≡ a
Chain {D} did (suc n) a c = (b : D) × Chain did n a b × did b n c

-- a lane (thread) that can run: its desk (worker) has this many steps and waits for the first, and the numbers of its turns fit
-- 64 bits
pub record CanRun {D : Type 0} (count : D → ℕ) (awaits : D → ℕ → Type 0) (lane : Lane D) : Type 0 where
  pub within : lane.steps ≤ count lane.desk
  pub turns : lane.steps ≤ 2 ^ 63
  pub awaited : 0 < lane.steps → awaits lane.desk 0

-- A lane before and after its steps. It passed two turns a step, numbered from 0.
pub record RanSteps {D : Type 0} (did : D → ℕ → D → Type 0) (passed : ℕ → ℕ → Type 0) (before after : Lane D) : Type 0 where
  pub lane : after.lane ≡ before.lane
  pub steps : after.steps ≡ before.steps
  pub desk : Chain did before.steps before.desk after.desk
  pub turns : (number : ℕ) → number < 2 * before.steps → passed before.lane number

-- at each place R relates the old element to the new one
abbrev pub EachPlace : {X : Type 0} → (R : X → X → Type 0) → List X → List X → Type 0
EachPlace {X} R xs ys = (place : ℕ) (none : X) → place < length xs → R (slice_index_or xs place none) (slice_index_or ys place none)

-- none of these lanes has a step
abbrev pub AreIdle : {D : Type 0} → List (Lane D) → Type 0
AreIdle lanes = All (λ l. l.steps ≡ 0) lanes
