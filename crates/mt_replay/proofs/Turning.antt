-- The turns of a phase's lanes, and of all phases of a log.
use Rattle.mt_replay.proofs.Prelude.{◌≡◌, ℕ, zero, suc, ◌+◌, ◌*◌, ◌-◌, ◌<◌, ◌≤◌, ◌==◌, ◌&&◌, true, false, List, [], ◌∷◌, ◌++◌, length, take, drop, max, get_or, slice_range, arith, refl, sym, ap, ◌∙◌, subst, inl, inr, cases_Bool, cases_lt, eq-eqb, false≢true, ne_eqb, drop_more, take-append-drop, Item, Join, Line, Entry, lane_after, some_at, Lane, LaneDesk, IsOnePhase, is_join, is_step, lanes_in, lines_of_lane, FromEach, AreLanesFor, IsLaneFor, room_before, NoJoinBetween, AllTurned, AreTurned, PhaseTurned, done_behind}
use Rattle.mt_replay.proofs.LogPhases.{join_is, no_joins}

-- ---- the lanes of a phase

-- a lane that is none of those of the lines does none of them
none_own : (lane here : ℕ) (lines : List Line) → lanes_in here lines ≤ lane → length (lines_of_lane lane here lines) ≡ 0
none_own lane here [] above = refl
none_own lane here (line ∷ lines) above = elim (cases_Bool (is_step line.item)) [
  | inl t ↦
      let high : lanes_in here (line ∷ lines) ≡ max (here + 1) (lanes_in (lane_after here line.item) lines) = rw t refl in
      let other : (here == lane) ≡ false = ne_eqb here lane (λ is. absurd (omega (arith, is, high, above))) in
      rw (t, other) (none_own lane (lane_after here line.item) lines (omega (arith, high, above)))
  | inr f ↦
      let same : lanes_in here (line ∷ lines) ≡ lanes_in (lane_after here line.item) lines = rw f refl in
      rw f (none_own lane (lane_after here line.item) lines (omega (arith, same, above)))
]

pub lanes_turned : {R P T : Type 0} (passed : ℕ → ℕ → Type 0) (lanes phase : ℕ) (lines : List Line) (trees : List T) (first : List Entry) (ls ks : List (Lane (LaneDesk R P T))) → lanes_in 0 lines ≤ lanes → length ls ≡ lanes → AreLanesFor trees phase lines first ls
    → FromEach (λ (lane : ℕ) (l k : Lane (LaneDesk R P T)). (number : ℕ) → number < 2 * l.steps → passed l.lane number) ls ks → PhaseTurned passed lines
lanes_turned {R} {P} {T} passed lanes phase lines trees first ls ks few count laid turns = λ lane number below. elim (cases_lt lane lanes) [
  | inl here ↦
      let within : lane < length ls = omega (arith, here, count) in
      let (l, l_is) = some_at ls lane within in
      let f : IsLaneFor trees phase (lines_of_lane lane 0 lines) (room_before first lane) lane (get_or ls lane l) = laid lane l within in
      subst (λ (n : ℕ). passed n number) f.number_is (turns lane l within number (omega (arith, below, f.steps)))
  | inr above ↦ absurd (omega (arith, below, none_own lane 0 lines (omega (arith, above, few))))
]

-- ---- the lines of a phase

one_less : (here : ℕ) (done : ℕ → ℕ) (line : Line) (lines : List Line) (lane : ℕ) → is_join line.item ≡ false
    → done_behind here done line.item lane + length (lines_of_lane lane (lane_after here line.item) lines) ≡ done lane + length (lines_of_lane lane here (line ∷ lines))
one_less here done line lines lane inside = elim (cases_Bool (is_step line.item && (here == lane))) [
  | inl t ↦ rw (inside, t) (omega arith)
  | inr f ↦ rw (inside, f) refl
]

some_own : (here : ℕ) (line : Line) (lines : List Line) → is_step line.item ≡ true → 1 ≤ length (lines_of_lane here here (line ∷ lines))
some_own here line lines step = rw (step, eq-eqb here here refl) (omega arith)

module _ (passed : ℕ → ℕ → Type 0) where
  -- both turns of a line that is the first of these, if it is a step
  both_turns : (here : ℕ) (done : ℕ → ℕ) (line : Line) (lines : List Line) → ((lane number : ℕ) → number < 2 * (done lane + length (lines_of_lane lane here (line ∷ lines))) → passed lane number)
      → is_step line.item ≡ true → passed here (2 * done here) × passed here (2 * done here + 1)
  both_turns here done line lines took step =
      let own : 1 ≤ length (lines_of_lane here here (line ∷ lines)) = some_own here line lines step in
      (took here (2 * done here) (omega (arith, own)), took here (2 * done here + 1) (omega (arith, own)))

  turned_on : (here : ℕ) (done : ℕ → ℕ) (lines rest : List Line) → IsOnePhase lines → ((lane number : ℕ) → number < 2 * (done lane + length (lines_of_lane lane here lines)) → passed lane number)
      → ((there : ℕ) (more : ℕ → ℕ) → AreTurned passed there more rest) → AreTurned passed here done (lines ++ rest)
  turned_on here done [] rest one took behind = behind here done
  turned_on here done (line ∷ lines) rest one took behind =
      let inside : is_join line.item ≡ false = one 0 line (omega arith) in
      let later = turned_on (lane_after here line.item) (done_behind here done line.item) lines rest (λ i d within. one (suc i) d (omega (arith, within)))
      (λ lane number below. took lane number (omega (arith, below, one_less here done line lines lane inside)))
      behind in
      (both_turns here done line lines took, later)

  phase_turned : (lines rest : List Line) → IsOnePhase lines → PhaseTurned passed lines → ((there : ℕ) (more : ℕ → ℕ) → AreTurned passed there more rest) → AllTurned passed (lines ++ rest)
  phase_turned lines rest one took behind = turned_on 0 (λ lane. 0) lines rest one (λ lane number below. took lane number (omega (arith, below))) behind

-- ---- a log from a place on

none_taken : (n : ℕ) → take {A = Line} n [] ≡ []
none_taken zero = refl
none_taken (suc n) = refl

all_gone : (log : List Line) (n : ℕ) → length log ≤ n → drop n log ≡ []
all_gone [] zero short = refl
all_gone [] (suc n) short = refl
all_gone (x ∷ log) zero short = absurd (omega (arith, short))
all_gone (x ∷ log) (suc n) short = all_gone log n (omega (arith, short))

cut_behind : (log : List Line) (from to : ℕ) → from ≤ to → drop from log ≡ slice_range log from to ++ drop to log
cut_behind log zero to low = let all : to - 0 ≡ to = omega arith in sym (ap (λ (n : ℕ). take n log ++ drop to log) all ∙ take-append-drop to log)
cut_behind [] (suc from) to low = rw (none_taken (to - suc from), all_gone [] to (omega arith)) refl
cut_behind (x ∷ log) (suc from) zero low = absurd (omega (arith, low))
cut_behind (x ∷ log) (suc from) (suc to) low = let same : to - from ≡ suc to - suc from = omega arith in cut_behind log from to (omega (arith, low)) ∙ ap (λ (n : ℕ). take n (drop from log) ++ drop to log) same

module _ (passed : ℕ → ℕ → Type 0) (log : List Line) (from to : ℕ) (low : from ≤ to) (high : to ≤ length log) (none : NoJoinBetween log from to) (took : PhaseTurned passed (slice_range log from to)) where
  behind_phase : ((there : ℕ) (more : ℕ → ℕ) → AreTurned passed there more (drop to log)) → AllTurned passed (drop from log)
  behind_phase behind =
      let one : IsOnePhase (slice_range log from to) = no_joins log from to high none in
      subst (λ (z : List Line). AllTurned passed z) (sym (cut_behind log from to low)) (phase_turned passed (slice_range log from to) (drop to log) one took behind)

  -- where a join ends the phase, what is behind it is turned anew
  pub next_turned : to < length log → ((line : Line) → is_join (get_or log to line).item ≡ true) → (AllTurned passed (drop from log) → AllTurned passed log) → AllTurned passed (drop (to + 1) log) → AllTurned passed log
  next_turned within join before next =
      let (line, line_is) = some_at log to within in
      let x : Line = get_or log to line in
      let item : x.item ≡ Join = join_is x.item (join line) in
      before (behind_phase (λ there more. subst (λ (z : List Line). AreTurned passed there more z) (sym (drop_more log to line within))
      (subst (λ (it : Item). AreTurned passed there more (record { number = x.number; item = it } ∷ drop (to + 1) log)) (sym item) ((λ step. absurd (false≢true step)), next))))

  -- and where none does, nothing is
  pub last_turned : to ≡ length log → (AllTurned passed (drop from log) → AllTurned passed log) → AllTurned passed log
  last_turned last before = before (behind_phase (λ there more. rw (all_gone log to (omega (arith, last))) tt))

pub none_left : (passed : ℕ → ℕ → Type 0) (log : List Line) (from : ℕ) → length log ≤ from → (AllTurned passed (drop from log) → AllTurned passed log) → AllTurned passed log
none_left passed log from short before = before (rw (all_gone log from short) tt)
