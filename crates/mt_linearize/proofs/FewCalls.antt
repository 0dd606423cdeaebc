-- The lanes make no more calls than they have lines.
use Rattle.mt_linearize.proofs.Prelude.{◌≡◌, ◌≢◌, ℕ, zero, suc, ◌+◌, ◌<◌, ◌≤◌, ◌==◌, List, [], ◌∷◌, ◌++◌, Option, Some, None, length, arith, refl, sym, ap, ◌∙◌, inl, inr, length-append, AllByRecursion, cons_option, filter_map, cases_Bool, eqb-true, eqb-false, eq-eqb, ne_eqb, filter_map-append, Item, Tree, Lane, Join, Dup, Check, Write, Ask, Scan, Asked, Outcome, Step, IsDone, place_within, sum_below, by_lane_on, outcomes_of, asked_of_lane, AreDoneEach, answers_joined, call_number, numbers_of}
use Rattle.mt_linearize.proofs.LineSteps.{scan_each}
use Rattle.mt_linearize.proofs.Totals.{sum_none, sum_same}

-- ---- a line's calls

cons_short : {X : Type 0} (o : Option X) (xs : List X) → length (cons_option o xs) ≤ length xs + 1
cons_short None xs = omega arith
cons_short (Some x) xs = omega arith

-- what is picked of a list is no longer
picked_short : {X Y : Type 0} (h : X → Option Y) (xs : List X) → length (filter_map h xs) ≤ length xs
picked_short h [] = omega arith
picked_short h (x ∷ xs) = omega (arith, cons_short (h x) (filter_map h xs), picked_short h xs)

numbers_short : (number lane : ℕ) (steps : List Step) → length (numbers_of (outcomes_of number lane steps)) ≤ length steps
numbers_short number lane steps = omega (arith, picked_short call_number (outcomes_of number lane steps), picked_short (by_lane_on number lane) steps)

-- reads make none
no_numbers : (number lane : ℕ) (steps : List Step) → AllByRecursion (λ (s : Step). call_number s.outcome ≡ None) steps → numbers_of (outcomes_of number lane steps) ≡ []
no_numbers number lane [] none = refl
no_numbers number lane (s ∷ steps) none = elim (cases_Bool (s.tree == number)) [
  | inl t ↦ elim (cases_Bool (s.lane == lane)) [
    | inl l ↦ rw (t, l, none.0) (no_numbers number lane steps none.1)
    | inr f ↦ rw (t, f) (no_numbers number lane steps none.1)
  ]
  | inr f ↦ rw f (no_numbers number lane steps none.1)
]

done_calls : (number lane : ℕ) (a : Asked) (item : Item) (steps : List Step) → IsDone a item steps → length (numbers_of (outcomes_of number lane steps)) ≤ 1
done_calls number lane a (Write tree call) steps d = omega (arith, numbers_short number lane steps, ap length d.2)
done_calls number lane a (Ask tree query) steps d = omega (arith, numbers_short number lane steps, ap length d.4)
done_calls number lane a (Scan tree index max count) steps d = omega (arith, ap length (no_numbers number lane steps (scan_each (λ (s : Step). call_number s.outcome ≡ None) a tree max count (λ lo hi k query value. refl) (place_within index max) steps d)))
done_calls number lane a (Dup from name) steps d = omega (arith, numbers_short number lane steps, ap length d.1)
done_calls number lane a (Check tree) steps d = omega (arith, numbers_short number lane steps, ap length d.1)
done_calls number lane a (Tree name kind) steps d = omega (arith, numbers_short number lane steps, ap length d)
done_calls number lane a (Lane other) steps d = omega (arith, numbers_short number lane steps, ap length d)
done_calls number lane a Join steps d = omega (arith, numbers_short number lane steps, ap length d)

pub line_calls : (number lane : ℕ) (a : Asked) (steps : List Step) → IsDone a a.item steps → length (numbers_of (outcomes_of number lane steps)) ≤ 1
line_calls number lane a steps d = done_calls number lane a a.item steps d

-- the calls of two stretches of steps
pub numbers_long_on : (number lane : ℕ) (xs ys : List Step) → length (numbers_of (outcomes_of number lane (xs ++ ys))) ≡ length (numbers_of (outcomes_of number lane xs)) + length (numbers_of (outcomes_of number lane ys))
numbers_long_on number lane xs ys =
    let mine : List Outcome = outcomes_of number lane xs in
    let theirs : List Outcome = outcomes_of number lane ys in
    ap (λ (z : List Outcome). length (numbers_of z)) (filter_map-append (by_lane_on number lane) xs ys)
    ∙ (ap length (filter_map-append call_number mine theirs) ∙ length-append (numbers_of mine) (numbers_of theirs))

pub lane_calls : (number lane : ℕ) (asked : List Asked) (answers : List (List Step)) → AreDoneEach asked answers → length (numbers_of (outcomes_of number lane (answers_joined answers))) ≤ length asked
lane_calls number lane [] [] d = omega arith
lane_calls number lane [] (steps ∷ answers) d = absurd d
lane_calls number lane (a ∷ asked) [] d = absurd d
lane_calls number lane (a ∷ asked) (steps ∷ answers) d = omega (arith, numbers_long_on number lane steps (answers_joined answers), line_calls number lane a steps d.0, lane_calls number lane asked answers d.1)

-- ---- all lanes' lines

pub sum_upto : (n : ℕ) (f g : ℕ → ℕ) → ((i : ℕ) → i < n → f i ≤ g i) → sum_below n f ≤ sum_below n g
sum_upto zero f g upto = omega arith
sum_upto (suc n) f g upto = omega (arith, upto n (omega arith), sum_upto n f g (λ i l. upto i (omega arith)))

-- one of the numbers is one more, if it is of these
sum_one : (f g : ℕ → ℕ) (at n : ℕ) → ((i : ℕ) → i ≢ at → g i ≡ f i) → g at ≡ suc (f at) → sum_below n g ≤ suc (sum_below n f)
sum_one f g at zero others own = omega arith
sum_one f g at (suc n) others own = elim (cases_Bool (n == at)) [
  | inl t ↦
      let here : n ≡ at = eqb-true n at t in
      let top : g n ≡ suc (f n) = rw here own in
      omega (arith, top, sum_same f g n (λ i below. others i (λ same. absurd (omega arith))))
  | inr other ↦ omega (arith, others n (eqb-false n at other), sum_one f g at n others own)
]

pub lines_of_lanes : (lanes : ℕ) (asked : List Asked) → sum_below lanes (λ (lane : ℕ). length (asked_of_lane lane asked)) ≤ length asked
lines_of_lanes lanes [] = omega (arith, sum_none lanes)
lines_of_lanes lanes (a ∷ asked) =
    let rest : ℕ → ℕ = λ lane. length (asked_of_lane lane asked) in
    let all : ℕ → ℕ = λ lane. length (asked_of_lane lane (a ∷ asked)) in
    let others : (lane : ℕ) → lane ≢ a.lane → all lane ≡ rest lane = λ lane apart. rw (ne_eqb a.lane lane (λ same. apart (sym same))) refl in
    let own : all a.lane ≡ suc (rest a.lane) = rw (eq-eqb a.lane a.lane refl) refl in
    omega (arith, sum_one rest all a.lane lanes others own, lines_of_lanes lanes asked)
