-- The steps of a phase's lanes, behind those that count, are a phase.
use Rattle.mt_linearize.proofs.Prelude.{◌≡◌, ℕ, ◌==◌, List, [], ◌∷◌, ◌++◌, Some, length, slice_get, sym, ap, ◌∙◌, subst, inl, inr, All, AllByRecursion, cases_Bool, All-from_recursion, recursion_from_All, filter_map-append, History, last_map, Pass, all_join, Asked, Outcome, Called, Looked, Counted, Step, AreDone, CountsRanges, IsPhaseGone, Leads, by_lane_on, outcomes_of, Tracked, IsPhase, IsPhaseOn, Counts, take_turns, lanes_of, answers_joined}
use Rattle.mt_linearize.specs.Laned.{IsLaned}
use Rattle.mt_linearize.proofs.Leading.{learns_none, leads_on, phase_settled}
use Rattle.mt_linearize.proofs.LineSteps.{IsUncounted, steps_named, steps_placed, steps_uncounted}
use Rattle.mt_linearize.proofs.Lists.{every, same_some}
use Rattle.mt_linearize.proofs.Rooming.{back_done, back_in_lanes}
use Rattle.mt_linearize.proofs.Stretches.{done_append}

-- a pass stays as it is where its tree is counted
counted_leads : (h : History) (trees : List Tracked) (number lane : ℕ) (p : Pass) (steps : List Step) → AllByRecursion (CountsRanges trees) steps → Leads h p (outcomes_of number lane steps) p
counted_leads h trees number lane p [] counted = learns_none p
counted_leads h trees number lane p (s ∷ steps) counted = elim (cases_Bool (s.tree == number)) [
  | inl t ↦ elim (cases_Bool (s.lane == lane)) [
    | inl l ↦ rw (t, l, counted.0.outcome) (p, p, learns_none p, learns_none p, counted_leads h trees number lane p steps counted.1)
    | inr f ↦ rw (t, f) (counted_leads h trees number lane p steps counted.1)
  ]
  | inr f ↦ rw f (counted_leads h trees number lane p steps counted.1)
]

counted_counts : (trees : List Tracked) (number : ℕ) (b : Tracked) (s : Step) → slice_get trees number ≡ Some b → CountsRanges trees s → s.tree ≡ number → Counts b.history s.outcome
counted_counts trees number b s was c on =
    let same : c.tracked ≡ b = same_some c.tracked b (sym c.is ∙ (ap (slice_get trees) on ∙ was)) in
    rw c.outcome (c.counts ∙ ap (λ (t : Tracked). last_map t.history) same)

uncounted_counts : (h : History) (o : Outcome) → IsUncounted o → Counts h o
uncounted_counts h (Called number call reply) u = tt
uncounted_counts h (Looked lo hi k query value) u = tt
uncounted_counts h (Counted said ranges) u = absurd u

pub lanes_phase : (passes phase : ℕ) (asked counted : List Asked) (csteps : List Step) (answers : ℕ → List (List Step)) (before after : List Tracked)
    → IsLaned passes phase asked counted csteps answers before after
    → IsPhase passes phase (csteps ++ answers_joined (take_turns (lanes_of asked) answers)) before after
    × AreDone (counted ++ asked) (csteps ++ answers_joined (take_turns (lanes_of asked) answers))
lanes_phase passes phase asked counted csteps answers before after laned = (
  record {
    count = laned.count;
    placed = steps_placed passes phase (counted ++ asked) steps laned.placed done;
    named = steps_named (length before) (counted ++ asked) steps laned.named done;
    each = on_each;
  },
  done,
)
  where
    lsteps : List Step
    lsteps = answers_joined (take_turns (lanes_of asked) answers)

    steps : List Step
    steps = csteps ++ lsteps

    ldone : AreDone asked lsteps
    ldone = back_done asked answers laned.answered

    done : AreDone (counted ++ asked) steps
    done = done_append counted asked csteps lsteps laned.done ldone

    all_counted : AllByRecursion (CountsRanges before) csteps
    all_counted = recursion_from_All _ csteps laned.counts

    counts : (tree : ℕ) (b : Tracked) → slice_get before tree ≡ Some b → All (λ (s : Step). s.tree ≡ tree → Counts b.history s.outcome) steps
    counts tree b was =
        let On : Step → Type 0 = λ s. s.tree ≡ tree → Counts b.history s.outcome in
        All-from_recursion On steps (all_join On csteps lsteps
        (every (CountsRanges before) On csteps (λ s c. counted_counts before tree b s was c) all_counted)
        (every (λ (s : Step). IsUncounted s.outcome) On lsteps (λ s u on. uncounted_counts b.history s.outcome u) (steps_uncounted asked lsteps laned.stepped ldone)))

    lane_leads : (tree lane : ℕ) (h : History) (p m : Pass) → Leads h p (outcomes_of tree lane (answers_joined (answers lane))) m → Leads h p (outcomes_of tree lane steps) m
    lane_leads tree lane h p m l =
        let mine : List Outcome = outcomes_of tree lane csteps in
        let theirs : List Outcome = outcomes_of tree lane (answers_joined (answers lane)) in
        let all : outcomes_of tree lane steps ≡ mine ++ theirs = filter_map-append (by_lane_on tree lane) csteps lsteps ∙ ap (λ (z : List Outcome). mine ++ z) (back_in_lanes asked answers laned.answered tree lane) in
        subst (λ (z : List Outcome). Leads h p z m) (sym all) (leads_on h p mine p theirs m (counted_leads h before tree lane p csteps all_counted) l)

    on_each : (tree : ℕ) (b a : Tracked) → slice_get before tree ≡ Some b → slice_get after tree ≡ Some a → IsPhaseOn tree steps b a
    on_each tree b a was is =
        let g : IsPhaseGone tree b a answers = (laned.gone tree b a was is).1 in
        phase_settled tree steps b.history a.history b.passes g.between a.passes g.tree g.gone.count (λ lane p m had has. lane_leads tree lane b.history p m (g.gone.leads lane p m had has)) (counts tree b was) g.settled
