-- How many lines the lanes have, and how many calls these make.
use Rattle.mt_desks.proofs.Prelude.{◌≡◌, ℕ, ◌+◌, ◌≤◌, List, [], ◌∷◌, length, arith, sym, ap, ◌∙◌, inl, inr, cases_Bool, length-map, Pass, Line, Asked, Step, lane_after, sum_below, outcomes_of, asked_of_lane, answers_joined, numbers_of, line_calls, lines_of_lanes, numbers_long_on, sum_same, asked_of, is_step, lines_of_lane, steps_in, AreAnsweredUnless, IsDoneUnless, IsSomeWorn, SharedTree}
use Rattle.mt_desks.proofs.Asking.{own_asked}

-- ---- a line makes one call at the most

-- the calls among some steps
abbrev calls_of : ℕ → ℕ → List Step → ℕ
calls_of number lane steps = length (numbers_of (outcomes_of number lane steps))

unless_calls : (worn : Type 0) (number lane : ℕ) (a : Asked) (steps : List Step) → IsDoneUnless worn a steps → calls_of number lane steps ≤ 1
unless_calls worn number lane a steps (inl d) = line_calls number lane a steps d
unless_calls worn number lane a steps (inr (w, none)) = omega (arith, ap (calls_of number lane) none)

few_unless : (worn : Type 0) (number lane : ℕ) (asked : List Asked) (answers : List (List Step)) → AreAnsweredUnless worn asked answers → calls_of number lane (answers_joined answers) ≤ length asked
few_unless worn number lane [] [] h = omega arith
few_unless worn number lane [] (steps ∷ answers) h = absurd h
few_unless worn number lane (a ∷ asked) [] h = absurd h
few_unless worn number lane (a ∷ asked) (steps ∷ answers) h =
    let first : calls_of number lane steps ≤ 1 = unless_calls worn number lane a steps h.0 in
    let rest : calls_of number lane (answers_joined answers) ≤ length asked = few_unless worn number lane asked answers h.1 in
    let all : calls_of number lane (answers_joined (steps ∷ answers)) ≡ calls_of number lane steps + calls_of number lane (answers_joined answers) = numbers_long_on number lane steps (answers_joined answers) in
    omega (arith, first, rest, all)

pub few_calls : (trees : List SharedTree) (passes : List Pass) (number lane : ℕ) (asked : List Asked) (answers : List (List Step)) → AreAnsweredUnless (IsSomeWorn trees passes) asked answers → length (numbers_of (outcomes_of number lane (answers_joined answers))) ≤ length asked
few_calls trees passes number lane asked answers h = few_unless (IsSomeWorn trees passes) number lane asked answers h

-- ---- the lanes have no more lines than there are

pub steps_short : (here phase : ℕ) (lines : List Line) → length (steps_in here phase lines) ≤ length lines
steps_short here phase [] = omega arith
steps_short here phase (line ∷ lines) = elim (cases_Bool (is_step line.item)) [
  | inl t ↦ rw t (omega (arith, steps_short (lane_after here line.item) phase lines))
  | inr f ↦ rw f (omega (arith, steps_short (lane_after here line.item) phase lines))
]

pub few_lines : (lanes here : ℕ) (lines : List Line) → sum_below lanes (λ lane. length (lines_of_lane lane here lines)) ≤ length lines
few_lines lanes here lines =
    let asked : List Asked = steps_in here 0 lines in
    let own : (lane : ℕ) → length (lines_of_lane lane here lines) ≡ length (asked_of_lane lane asked) = λ lane. sym (ap length (own_asked lane here 0 lines) ∙ length-map (lines_of_lane lane here lines) (asked_of lane 0)) in
    omega (arith, sum_same (λ lane. length (asked_of_lane lane asked)) (λ lane. length (lines_of_lane lane here lines)) lanes (λ lane l. own lane), lines_of_lanes lanes asked, steps_short here 0 lines)
