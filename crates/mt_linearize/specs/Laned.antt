-- A phase as its lanes have gone through it: what the law of a phase of lanes asks for.
-- Source: this project's own.
use Rattle.std.specs.Prelude.{◌≡◌, ◌<◌, ℕ, true, false, All, List, ◌++◌, Some, length, slice_get}
use Rattle.std.specs.List.{AllByRecursion}
use Rattle.mt_linearize.specs.Prelude.{stepped_after, Asked, Step, AreDone, NamesBelow}
use Rattle.mt_linearize.specs.Gone.{CountsRanges, IsPhaseGone}
use Rattle.mt_linearize.specs.Phases.{Tracked}
use Rattle.mt_linearize.specs.Rooms.{asked_of_lane, AreDoneEach}

-- The lines `counted` were counted as the phase began, which came to the steps `csteps`. Then each lane was answered its own of the
-- lines `asked`, and each tree went from what it was before to what it is after by these answers.
pub record IsLaned (passes phase : ℕ) (asked counted : List Asked) (csteps : List Step) (answers : ℕ → List (List Step)) (before after : List Tracked) : Type 0 where
  pub placed : AllByRecursion (λ (a : Asked). (a.phase ≡ phase) × (a.lane < passes)) (counted ++ asked)
  pub named : AllByRecursion (λ (a : Asked). NamesBelow (length before) a.item) (counted ++ asked)
  pub stepped : AllByRecursion (λ (a : Asked). stepped_after false a.item ≡ true) asked
  pub done : AreDone counted csteps
  pub counts : All (λ (s : Step). CountsRanges before s) csteps
  pub answered : (lane : ℕ) → AreDoneEach (asked_of_lane lane asked) (answers lane)
  pub count : length after ≡ length before
  pub gone : (tree : ℕ) (b a : Tracked) → slice_get before tree ≡ Some b → slice_get after tree ≡ Some a → (length b.passes ≡ passes) × IsPhaseGone tree b a answers
