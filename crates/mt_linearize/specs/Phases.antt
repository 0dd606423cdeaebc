-- A phase of a log: each lane's handle on each tree goes through the lane's steps on it, and then all handles of each tree are
-- settled.
-- Source: this project's own. No two lanes are compared.
use Rattle.std.specs.Prelude.{◌≡◌, ℕ, ◌<◌, All, List, [], length, map, slice_get, Some}
use Rattle.std.specs.List.{range_with_len}
use Rattle.mt_linearize.specs.Prelude.{Kind, Range, History, last_map, Pass, IsSettled, new_pass, with_records, Outcome, Called, Looked, Counted, Step}
use Rattle.mt_linearize.specs.Leads.{Leads, outcomes_of}

-- a tree's history so far, and all its handles, each at the place of its number
pub record Tracked : Type 0 where
  pub history : History
  pub passes : List Pass

abbrev pub histories_of : List Tracked → List History
histories_of trees = map (λ t. t.history) trees

-- a tree of this kind with this many nodes and handles, which opens with this map
abbrev pub new_history : Kind → ℕ → List Range → History
new_history kind rows opening = record { kind = kind; rows = rows; opening = opening; records = [] }

abbrev pub new_tracked : ℕ → ℕ → Kind → List Range → Tracked
new_tracked passes rows kind opening = record { history = new_history kind rows opening; passes = map new_pass (range_with_len 0 passes) }

-- the ranges that were counted are the tree's where the phase begins
abbrev pub Counts : History → Outcome → Type 0
Counts tree (Called number call reply) = Unit {0}
Counts tree (Looked lo hi k query value) = Unit {0}
Counts tree (Counted said ranges) = ranges ≡ last_map tree

-- The phase of these steps on the tree of this number.
pub record IsPhaseOn (number : ℕ) (steps : List Step) (before after : Tracked) : Type 0 where
  pub tree : after.history ≡ with_records before.history after.history.records
  pub count : length after.passes ≡ length before.passes
  pub lanes : (lane : ℕ) (p q : Pass) → slice_get before.passes lane ≡ Some p → slice_get after.passes lane ≡ Some q → Leads before.history p (outcomes_of number lane steps) q
  pub counts : All (λ s. s.tree ≡ number → Counts before.history s.outcome) steps
  pub settled : IsSettled after.history after.passes

-- The phase of these steps, on all trees. Each step is on one of these trees, by a lane that has a handle on it.
pub record IsPhase (passes phase : ℕ) (steps : List Step) (before after : List Tracked) : Type 0 where
  pub count : length after ≡ length before
  pub placed : All (λ s. (s.phase ≡ phase) × (s.lane < passes)) steps
  pub named : All (λ s. s.tree < length before) steps
  pub each : (tree : ℕ) (b a : Tracked) → slice_get before tree ≡ Some b → slice_get after tree ≡ Some a → IsPhaseOn tree steps b a
