-- What the lanes were answered is told behind what was told before, in the order of the log.
use Rattle.mt_replay.proofs.Prelude.{◌≡◌, ◌≢◌, ℕ, zero, suc, ◌+◌, ◌<◌, List, [], ◌∷◌, ◌++◌, length, map, get_or, arith, refl, sym, ap, ◌∙◌, subst, AllByRecursion, get_or-map, length-map, Line, Entry, Asked, Step, entry_of, asked_of_lane, AreDoneEach, take_turns, lanes_of, answers_joined, Pairs, every, steps_in, in_turn, room_at, answers_told, room_before, in_order, all_its_own}

-- what stands in the rooms of several lanes before they start
empty_before : (lane : ℕ) → room_before [] lane ≡ []
empty_before zero = refl
empty_before (suc lane) = refl

pub room_behind : (first : List Entry) (lane : ℕ) → room_before first (lane + 1) ≡ []
room_behind first lane = let next : suc lane ≡ lane + 1 = omega arith in subst (λ (n : ℕ). room_before first n ≡ []) next refl

abbrev pub told_in_turn : ℕ → List Line → (ℕ → List (List Step)) → List Entry
told_in_turn phase lines answers = map entry_of (answers_joined (take_turns (lanes_of (steps_in 0 phase lines)) answers))

-- one lane: its room has been that of the program
pub told_alone : (phase : ℕ) (lines : List Line) (answers : ℕ → List (List Step)) (entries room : List Entry) → AllByRecursion (λ (a : Asked). a.lane < 1) (steps_in 0 phase lines)
    → ((lane : ℕ) → AreDoneEach (asked_of_lane lane (steps_in 0 phase lines)) (answers lane)) → room ≡ entries ++ map entry_of (answers_joined (answers 0)) → room ≡ entries ++ told_in_turn phase lines answers
told_alone phase lines answers entries room alone answered is =
    let asked : List Asked = steps_in 0 phase lines in
    is ∙ ap (λ (steps : List Step). entries ++ map entry_of steps) (sym (in_order asked answers alone (subst (λ (z : List Asked). AreDoneEach z (answers 0)) (all_its_own asked alone) (answered 0))))

-- several lanes, each with a room of its own
pub told_together : {L : Type 0} (room : L → List Entry) (lanes phase : ℕ) (lines : List Line) (answers : ℕ → List (List Step)) (entries entries' : List Entry) (ls : List L) → length ls ≡ lanes → AllByRecursion (λ (a : Asked). a.lane < lanes) (steps_in 0 phase lines) → Pairs (λ (a b : Line). b.number ≢ a.number) lines
    → ((lane : ℕ) → AreDoneEach (asked_of_lane lane (steps_in 0 phase lines)) (answers lane)) → ((lane : ℕ) (d : L) → lane < lanes → room (get_or ls lane d) ≡ room_before [] lane ++ map entry_of (answers_joined (answers lane)))
    → entries' ≡ entries ++ in_turn 0 lines (map room ls) → entries' ≡ entries ++ told_in_turn phase lines answers
told_together {L} room lanes phase lines answers entries entries' ls count within apart answered rooms is =
    let long : length (map room ls) ≡ lanes = length-map ls room ∙ count in
    is ∙ ap (λ (es : List Entry). entries ++ es) (answers_told phase lines (map room ls) answers
    (every (λ (a : Asked). a.lane < lanes) (λ (a : Asked). a.lane < length (map room ls)) (steps_in 0 phase lines) (λ a below. omega (arith, below, long)) within)
    apart answered (λ lane here. holds lane (omega (arith, here, long)) ls count))
  where
    holds : (lane : ℕ) → lane < lanes → (xs : List L) → length xs ≡ lanes → room_at (map room ls) lane ≡ map entry_of (answers_joined (answers lane))
    holds lane below [] none = absurd (omega (arith, below, none))
    holds lane below (x ∷ xs) some = get_or-map room ls lane x [] (omega (arith, below, count)) ∙ (rooms lane x below ∙ ap (λ (es : List Entry). es ++ map entry_of (answers_joined (answers lane))) (empty_before lane))
