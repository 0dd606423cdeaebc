-- Steps that are filled in from histories are told so, and stand in these histories.
use Rattle.mt_verify.proofs.Prelude.{◌≡◌, ℕ, suc, ◌<◌, ◌==◌, ◌&&◌, List, [], ◌∷◌, length, nat_lt, refl, ap, ◌∙◌, inl, inr, arith, AllByRecursion, filter_map, cases_Bool, eqb-true, History, Step, IsTrueOf, calls_before, is_call, numbered_on, record_in, ToldLine, What, Wrote, Got, Copied, Lawful, AreTold, calls_of_phases_before, is_wrote, number_for, numbers_behind}
use Rattle.mt_verify.proofs.Filled.{AreRight, IsRight, filled, history_in, numbered_by, numbered_in, outcome_in, step_in}
use Rattle.mt_verify.proofs.ToldSteps.{IsToldOf}

-- ---- calls

call_is : (h : History) (before k : ℕ) (what : What) → is_call (outcome_in h before k what) ≡ is_wrote what
call_is h before k (Wrote number call reply) = refl
call_is h before k (Got lo hi query told) = refl
call_is h before k (Copied count) = refl
call_is h before k (Lawful count) = refl

pub calls_are : (trees : List History) (all told : List ToldLine) (points : List ℕ) (tree phase : ℕ) → calls_before (filled trees all told points) tree phase ≡ calls_of_phases_before told tree phase
calls_are trees all [] points tree phase = refl
calls_are trees all (t ∷ told) points tree phase =
    let same : is_call (step_in trees all (number_for t.what points) t).outcome ≡ is_wrote t.what = call_is (history_in trees t.tree) (calls_of_phases_before all t.tree t.phase) (number_for t.what points) t.what in
    let rest = calls_are trees all told (numbers_behind t.what points) tree phase in
    elim (cases_Bool ((t.tree == tree) && (nat_lt t.phase phase && is_wrote t.what))) [
      | inl counts ↦ rw (same, counts) (ap suc rest)
      | inr left ↦ rw (same, left) rest
    ]

numbered_is : (h : History) (lane before k : ℕ) (what : What) → record_in lane (outcome_in h before k what) ≡ numbered_by h lane what
numbered_is h lane before k (Wrote number call reply) = refl
numbered_is h lane before k (Got lo hi query told) = refl
numbered_is h lane before k (Copied count) = refl
numbered_is h lane before k (Lawful count) = refl

pub calls_numbered : (trees : List History) (all told : List ToldLine) (points : List ℕ) (tree : ℕ) → filter_map (numbered_on tree) (filled trees all told points) ≡ filter_map (numbered_in (history_in trees tree) tree) told
calls_numbered trees all [] points tree = refl
calls_numbered trees all (t ∷ told) points tree =
    let rest = calls_numbered trees all told (numbers_behind t.what points) tree in
    elim (cases_Bool (t.tree == tree)) [
      | inl here ↦
          let at : t.tree ≡ tree = eqb-true t.tree tree here in
          let same : record_in t.lane (outcome_in (history_in trees t.tree) (calls_of_phases_before all t.tree t.phase) (number_for t.what points) t.what) ≡ numbered_by (history_in trees tree) t.lane t.what =
          numbered_is (history_in trees t.tree) t.lane (calls_of_phases_before all t.tree t.phase) (number_for t.what points) t.what ∙ ap (λ (n : ℕ). numbered_by (history_in trees n) t.lane t.what) at in
          rw (here, same, rest) refl
      | inr other ↦ rw (other, rest) refl
    ]

-- ---- told so

outcome_told : (version : ℕ) (h : History) (before k : ℕ) (what : What) → IsRight version h before k what → IsToldOf version what (outcome_in h before k what)
outcome_told version h before k (Wrote number call reply) right = (refl, refl, right)
outcome_told version h before k (Got lo hi query told) right = (refl, refl, refl, right.3)
outcome_told version h before k (Copied count) right = (refl, right)
outcome_told version h before k (Lawful count) right = (refl, right)

pub filled_is_told : (version : ℕ) (trees : List History) (all told : List ToldLine) (points : List ℕ) → AreRight version trees all told points → AreTold version told (filled trees all told points)
filled_is_told version trees all [] points right = tt
filled_is_told version trees all (t ∷ told) points right = (
  record {
    line = refl;
    lane = refl;
    phase = refl;
    tree = refl;
    outcome = outcome_told version (history_in trees t.tree) (calls_of_phases_before all t.tree t.phase) (number_for t.what points) t.what right.2;
  },
  filled_is_told version trees all told (numbers_behind t.what points) right.3,
)

-- ---- true of the histories

outcome_true : (version : ℕ) (h : History) (before k : ℕ) (what : What) → IsRight version h before k what → IsTrueOf h before (outcome_in h before k what)
outcome_true version h before k (Wrote number call reply) right = tt
outcome_true version h before k (Got lo hi query told) right =
    (record { from = right.0; to = right.1; made = omega (arith, right.1, right.2); answered = refl }, right.2)
outcome_true version h before k (Copied count) right = refl
outcome_true version h before k (Lawful count) right = refl

-- the step stands in its tree's history, where these lines are told of all trees
pub record Stands (trees : List History) (all : List ToldLine) (s : Step) : Type 0 where
  pub tree : s.tree < length trees
  pub true : IsTrueOf (history_in trees s.tree) (calls_of_phases_before all s.tree s.phase) s.outcome

pub filled_stands : (version : ℕ) (trees : List History) (all told : List ToldLine) (points : List ℕ) → AreRight version trees all told points → AllByRecursion (Stands trees all) (filled trees all told points)
filled_stands version trees all [] points right = tt
filled_stands version trees all (t ∷ told) points right = (
  record { tree = right.1; true = outcome_true version (history_in trees t.tree) (calls_of_phases_before all t.tree t.phase) (number_for t.what points) t.what right.2 },
  filled_stands version trees all told (numbers_behind t.what points) right.3,
)
