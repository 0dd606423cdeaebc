-- How many lanes a log has.
use Rattle.mt_desks.proofs.Prelude.{◌≡◌, ℕ, ◌+◌, ◌<◌, ◌≤◌, true, false, List, [], ◌∷◌, ◌++◌, arith, refl, inl, inr, max, AllByRecursion, cases_Bool, false≢true, all_join, Item, Dup, Check, Write, Ask, Scan, Line, phase_after, Asked, asked_from, is_answered, lane_after, lane_of, AreNamedFrom, count_after, lane_behind, both, every, next_lane, counts_in, is_step, lanes_in, steps_in, most_lanes}
use Rattle.mt_desks.proofs.Asking.{counts_placed, steps_of_phase}

pub some_lane : (here : ℕ) (lines : List Line) → 1 ≤ lanes_in here lines
some_lane here [] = omega arith
some_lane here (line ∷ lines) =
    let rest : 1 ≤ lanes_in (lane_after here line.item) lines = some_lane (lane_after here line.item) lines in
    elim (cases_Bool (is_step line.item)) [
      | inl t ↦ rw t (omega arith)
      | inr f ↦ rw f rest
    ]

-- what one line says of the lanes of a log
lanes_step : (here : ℕ) (line : Line) (lines : List Line) → is_step line.item ≡ true → lanes_in here (line ∷ lines) ≡ max (here + 1) (lanes_in (lane_after here line.item) lines)
lanes_step here line lines t = rw t refl

lanes_other : (here : ℕ) (line : Line) (lines : List Line) → is_step line.item ≡ false → lanes_in here (line ∷ lines) ≡ lanes_in (lane_after here line.item) lines
lanes_other here line lines f = rw f refl

lanes_rest : (here : ℕ) (line : Line) (lines : List Line) → lanes_in (lane_after here line.item) lines ≤ lanes_in here (line ∷ lines)
lanes_rest here line lines = elim (cases_Bool (is_step line.item)) [
  | inl t ↦ omega (arith, lanes_step here line lines t)
  | inr f ↦ omega (arith, lanes_other here line lines f)
]

lane_below : (here bound : ℕ) (item : Item) → 1 ≤ bound → (is_step item ≡ true → here < bound) → is_answered item ≡ true → lane_of here item < bound
lane_below here bound (Dup from name) some step answered = some
lane_below here bound (Check tree) some step answered = some
lane_below here bound (Write tree call) some step answered = step refl
lane_below here bound (Ask tree query) some step answered = step refl
lane_below here bound (Scan tree index max count) some step answered = step refl
lane_below here bound item some step answered = absurd (false≢true answered)

asked_below : (bound here phase : ℕ) (lines : List Line) → lanes_in here lines ≤ bound → AllByRecursion (λ (a : Asked). a.lane < bound) (asked_from here phase lines)
asked_below bound here phase [] within = tt
asked_below bound here phase (line ∷ lines) within =
    let next : ℕ = lane_after here line.item in
    let rest = asked_below bound next (phase_after phase line.item) lines (omega (arith, within, lanes_rest here line lines)) in
    elim (cases_Bool (is_answered line.item)) [
      | inl t ↦ rw t (lane_below here bound line.item (omega (arith, within, some_lane here (line ∷ lines))) (λ step. omega (arith, within, lanes_step here line lines step)) t, rest)
      | inr f ↦ rw f rest
    ]

-- each lane that a log asks is one of them
pub lanes_asked : (here phase : ℕ) (lines : List Line) → AllByRecursion (λ (a : Asked). a.lane < lanes_in here lines) (asked_from here phase lines)
lanes_asked here phase lines = asked_below (lanes_in here lines) here phase lines (omega arith)

steps_below : (bound here phase : ℕ) (lines : List Line) → lanes_in here lines ≤ bound → AllByRecursion (λ (a : Asked). a.lane < bound) (steps_in here phase lines)
steps_below bound here phase [] within = tt
steps_below bound here phase (line ∷ lines) within =
    let next : ℕ = lane_after here line.item in
    let rest = steps_below bound next phase lines (omega (arith, within, lanes_rest here line lines)) in
    elim (cases_Bool (is_step line.item)) [
      | inl t ↦ rw t (omega (arith, within, lanes_step here line lines t), rest)
      | inr f ↦ rw f rest
    ]

pub steps_lanes : (here phase : ℕ) (lines : List Line) → AllByRecursion (λ (a : Asked). a.lane < lanes_in here lines) (steps_in here phase lines)
steps_lanes here phase lines = steps_below (lanes_in here lines) here phase lines (omega arith)

-- the program's own lines and the lanes' are of this phase, and of these lanes
pub all_placed : (passes here phase : ℕ) (lines : List Line) → lanes_in here lines ≤ passes → AllByRecursion (λ (a : Asked). (a.phase ≡ phase) × (a.lane < passes)) (counts_in phase lines ++ steps_in here phase lines)
all_placed passes here phase lines within =
    let some : 1 ≤ passes = omega (arith, within, some_lane here lines) in
    all_join (λ (a : Asked). (a.phase ≡ phase) × (a.lane < passes)) (counts_in phase lines) (steps_in here phase lines)
    (every (λ (a : Asked). (a.phase ≡ phase) × (a.lane ≡ 0)) (λ (a : Asked). (a.phase ≡ phase) × (a.lane < passes)) (counts_in phase lines) (λ a own. (own.0, omega (arith, own.1, some))) (counts_placed phase lines))
    (both (λ (a : Asked). a.phase ≡ phase) (λ (a : Asked). a.lane < passes) (steps_in here phase lines) (steps_of_phase here phase lines) (steps_below passes here phase lines within))

-- ---- of a part of a log, and of a log that names its lanes

pub lanes_behind : (here : ℕ) (front lines : List Line) → lanes_in (lane_behind here front) lines ≤ lanes_in here (front ++ lines)
lanes_behind here [] lines = omega arith
lanes_behind here (line ∷ front) lines = omega (arith, lanes_behind (lane_after here line.item) front lines, lanes_rest here line (front ++ lines))

pub lanes_before : (here : ℕ) (lines rest : List Line) → lanes_in here lines ≤ lanes_in here (lines ++ rest)
lanes_before here [] rest = some_lane here rest
lanes_before here (line ∷ lines) rest =
    let more : lanes_in (lane_after here line.item) lines ≤ lanes_in (lane_after here line.item) (lines ++ rest) = lanes_before (lane_after here line.item) lines rest in
    elim (cases_Bool (is_step line.item)) [
      | inl t ↦ omega (arith, more, lanes_step here line lines t, lanes_step here line (lines ++ rest) t)
      | inr f ↦ omega (arith, more, lanes_other here line lines f, lanes_other here line (lines ++ rest) f)
    ]

pub few_lanes : (count here : ℕ) (lines : List Line) → AreNamedFrom count lines → here < most_lanes → lanes_in here lines ≤ most_lanes
few_lanes count here [] named below = omega arith
few_lanes count here (line ∷ lines) named below =
    let rest : lanes_in (lane_after here line.item) lines ≤ most_lanes = few_lanes (count_after count line.item) (lane_after here line.item) lines named.1 (next_lane count here line.item below named.0) in
    elim (cases_Bool (is_step line.item)) [
      | inl t ↦ omega (arith, rest, below, lanes_step here line lines t)
      | inr f ↦ omega (arith, rest, lanes_other here line lines f)
    ]
