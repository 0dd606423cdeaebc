-- How far the lanes of a phase have come on a tree before its handles are settled, and what was counted as the phase began.
-- Source: this project's own. No two lanes are compared.
use Rattle.std.specs.Prelude.{◌≡◌, ◌⊎◌, ℕ, zero, suc, ◌+◌, List, Some, length, slice_get}
use Rattle.mt_linearize.specs.Prelude.{Range, History, last_map, Pass, Saw, Settled, with_records, Said, Counted, Step}
use Rattle.mt_linearize.specs.Leads.{Leads, outcomes_of}
use Rattle.mt_linearize.specs.Phases.{Tracked}
use Rattle.mt_linearize.specs.Rooms.{answers_joined}

-- f 0 + f 1 + .., `n` numbers
abbrev pub sum_below : ℕ → (ℕ → ℕ) → ℕ
sum_below zero f = 0
sum_below (suc n) f = sum_below n f + f n

-- Each of these handles is as it was, or has seen the whole history by itself. None made a call.
pub record OnlySaw (tree : History) (before after : List Pass) : Type 0 where
  pub count : length after ≡ length before
  pub each : (i : ℕ) (p q : Pass) → slice_get before i ≡ Some p → slice_get after i ≡ Some q → (q ≡ p) ⊎ Saw tree p q

-- On the tree of this number, each lane's handle went through the steps of its lane.
pub record HaveGone (number : ℕ) (old : History) (answers : ℕ → List (List Step)) (before between : List Pass) : Type 0 where
  pub count : length between ≡ length before
  pub leads : (lane : ℕ) (p m : Pass) → slice_get before lane ≡ Some p → slice_get between lane ≡ Some m → Leads old p (outcomes_of number lane (answers_joined (answers lane))) m

-- On the tree of this number, each lane's handle went so, and then all handles were settled.
pub record IsPhaseGone (number : ℕ) (before after : Tracked) (answers : ℕ → List (List Step)) : Type 0 where
  pub between : List Pass
  pub gone : HaveGone number before.history answers before.passes between
  pub settled : Settled after.history between after.passes
  pub tree : after.history ≡ with_records before.history after.history.records

-- The step counts the ranges of its tree, which is one of these, as the tree is now.
pub record CountsRanges (trees : List Tracked) (s : Step) : Type 0 where
  pub said : ℕ → Said
  pub ranges : List Range
  pub tracked : Tracked
  pub outcome : s.outcome ≡ Counted said ranges
  pub is : slice_get trees s.tree ≡ Some tracked
  pub counts : ranges ≡ last_map tracked.history
