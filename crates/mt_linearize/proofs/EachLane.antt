-- From the steps of each lane on a tree to all steps on it.
use Rattle.mt_linearize.proofs.Prelude.{◌≡◌, ℕ, ◌<◌, ◌==◌, true, false, List, [], ◌∷◌, refl, sym, inl, inr, ◌⊎◌, AllByRecursion, cases_Bool, eqb-true, eqb-false, eq-eqb, Outcome, Step, outcomes_of, Pairs, On}
use Rattle.mt_linearize.proofs.Lists.{every, every_of}

-- what holds of the steps of a lane holds of those behind the first step
every_tail : (P : Outcome → Type 0) (tree lane : ℕ) (s : Step) (steps : List Step) → AllByRecursion P (outcomes_of tree lane (s ∷ steps)) → AllByRecursion P (outcomes_of tree lane steps)
every_tail P tree lane s steps h = elim (cases_Bool (s.tree == tree)) [
  | inl t ↦ elim (cases_Bool (s.lane == lane)) [
    | inl l ↦ (rw (t, l) at h).1
    | inr f ↦ rw (t, f) at h
  ]
  | inr f ↦ rw f at h
]

own : (tree lane : ℕ) (s : Step) (steps : List Step) → s.tree ≡ tree → s.lane ≡ lane → outcomes_of tree lane (s ∷ steps) ≡ s.outcome ∷ outcomes_of tree lane steps
own tree lane s steps t l = rw (eq-eqb s.tree tree t, eq-eqb s.lane lane l) refl

-- what holds of each lane's steps on a tree holds of all steps on that tree, lane by lane
pub each_on : (P : ℕ → Outcome → Type 0) (tree passes : ℕ) (steps : List Step) → AllByRecursion (λ (s : Step). s.lane < passes) steps → ((lane : ℕ) → lane < passes → AllByRecursion (P lane) (outcomes_of tree lane steps)) → AllByRecursion (On tree (λ (s : Step). P s.lane s.outcome)) steps
each_on P tree passes [] within h = tt
each_on P tree passes (s ∷ steps) within h = (
  λ on. (rw (own tree s.lane s steps on refl) at (h s.lane within.0)).0,
  each_on P tree passes steps within.1 (λ lane l. every_tail (P lane) tree lane s steps (h lane l)),
)

-- the same for one lane
every_by : (P : Outcome → Type 0) (tree lane : ℕ) (steps : List Step) → AllByRecursion P (outcomes_of tree lane steps) → AllByRecursion (λ (t : Step). t.tree ≡ tree → t.lane ≡ lane → P t.outcome) steps
every_by P tree lane [] h = tt
every_by P tree lane (s ∷ steps) h = (
  λ on by. (rw (own tree lane s steps on by) at h).0,
  every_by P tree lane steps (every_tail P tree lane s steps h),
)

pairs_tail : (R : Outcome → Outcome → Type 0) (tree lane : ℕ) (s : Step) (steps : List Step) → Pairs R (outcomes_of tree lane (s ∷ steps)) → Pairs R (outcomes_of tree lane steps)
pairs_tail R tree lane s steps h = elim (cases_Bool (s.tree == tree)) [
  | inl t ↦ elim (cases_Bool (s.lane == lane)) [
    | inl l ↦ (rw (t, l) at h).1
    | inr f ↦ rw (t, f) at h
  ]
  | inr f ↦ rw f at h
]

-- two steps on a tree by one lane
abbrev pub OneLane : (Outcome → Outcome → Type 0) → ℕ → Step → Step → Type 0
OneLane R tree s t = s.tree ≡ tree → t.tree ≡ tree → s.lane ≡ t.lane → R s.outcome t.outcome

-- the order in each lane is an order of all steps of one lane
pub pairs_on : (R : Outcome → Outcome → Type 0) (tree passes : ℕ) (steps : List Step) → AllByRecursion (λ (s : Step). s.lane < passes) steps → ((lane : ℕ) → lane < passes → Pairs R (outcomes_of tree lane steps)) → Pairs (OneLane R tree) steps
pairs_on R tree passes [] within h = tt
pairs_on R tree passes (s ∷ steps) within h = (
  every_here (cases_Bool (s.tree == tree)),
  pairs_on R tree passes steps within.1 (λ lane l. pairs_tail R tree lane s steps (h lane l)),
)
  where
    every_here : ((s.tree == tree) ≡ true) ⊎ ((s.tree == tree) ≡ false) → AllByRecursion (OneLane R tree s) steps
    every_here (inl t) =
        let on : s.tree ≡ tree = eqb-true s.tree tree t in
        let mine : AllByRecursion (R s.outcome) (outcomes_of tree s.lane steps) = (rw (own tree s.lane s steps on refl) at (h s.lane within.0)).0 in
        every (λ (t : Step). t.tree ≡ tree → t.lane ≡ s.lane → R s.outcome t.outcome) (OneLane R tree s) steps (λ t f here there same. f there (sym same)) (every_by (R s.outcome) tree s.lane steps mine)
    every_here (inr f) = every_of (OneLane R tree s) (λ t here there same. absurd (eqb-false s.tree tree f here)) steps
