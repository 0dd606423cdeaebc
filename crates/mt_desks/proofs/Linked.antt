-- The entries put back, line by line, are those of what came of the lines in the log's order.
use Rattle.mt_desks.proofs.Prelude.{◌≡◌, ◌≢◌, ◌⊎◌, ℕ, ◌==◌, ◌<◌, Bool, true, false, List, [], ◌∷◌, ◌++◌, length, map, take, drop, slice_set, arith, refl, sym, ap, ◌∙◌, subst, inl, inr, AllByRecursion, filter, cases_Bool, eqb-true, eqb-false, eq-eqb, ne_eqb, map-append, length-set, get_or-set_same, get_or-set_other, all_join, Line, Entry, Asked, Step, entry_of, lane_after, asked_of_lane, AreDoneEach, rooms_behind, take_turns, lanes_of, answers_joined, Pairs, done_each, every, is_step, steps_in, first_entries, front_len, in_turn, rest_of, room_at, RoomsHold}
use Rattle.mt_desks.proofs.Asking.{steps_numbered}

-- ---- the front of a room

front_is : (line : ℕ) (xs ys : List Entry) → AllByRecursion (λ (e : Entry). e.line ≡ line) xs → AllByRecursion (λ (e : Entry). e.line ≢ line) ys → front_len line (xs ++ ys) ≡ length xs
front_is line [] [] h k = refl
front_is line [] (y ∷ ys) h k = rw (ne_eqb y.line line k.0) refl
front_is line (x ∷ xs) ys h k = rw (eq-eqb x.line line h.0) (omega (arith, front_is line xs ys h.1 k))

take_front : {X : Type 0} (xs ys : List X) → take (length xs) (xs ++ ys) ≡ xs
take_front [] ys = refl
take_front (x ∷ xs) ys = ap (λ z. x ∷ z) (take_front xs ys)

drop_front : {X : Type 0} (xs ys : List X) → drop (length xs) (xs ++ ys) ≡ ys
drop_front [] ys = refl
drop_front (x ∷ xs) ys = drop_front xs ys

-- ---- what came of a line tells of it

abbrev IsInLine : ℕ → List Step → Type 0
IsInLine line steps = AllByRecursion (λ (s : Step). s.line ≡ line) steps

abbrev AreInLine : List Asked → List (List Step) → Type 0
AreInLine [] [] = Unit {0}
AreInLine (a ∷ asked) (steps ∷ answers) = IsInLine a.line steps × AreInLine asked answers
AreInLine asked answers = ⊥

answered_in_line : (asked : List Asked) (answers : List (List Step)) → AreDoneEach asked answers → AreInLine asked answers
answered_in_line [] [] h = tt
answered_in_line [] (s ∷ answers) h = absurd h
answered_in_line (a ∷ asked) [] h = absurd h
answered_in_line (a ∷ asked) (s ∷ answers) h = (done_each (λ (s : Step). s.line ≡ a.line) a a.item s (λ tree o on. refl) h.0, answered_in_line asked answers h.1)

told_line : (line : ℕ) (steps : List Step) → IsInLine line steps → AllByRecursion (λ (e : Entry). e.line ≡ line) (map entry_of steps)
told_line line [] h = tt
told_line line (s ∷ steps) h = (h.0, told_line line steps h.1)

-- none of them tells of a line that is not among these
others_told : (line : ℕ) (asked : List Asked) (answers : List (List Step)) → AllByRecursion (λ (a : Asked). a.line ≢ line) asked → AreInLine asked answers → AllByRecursion (λ (e : Entry). e.line ≢ line) (map entry_of (answers_joined answers))
others_told line [] [] apart h = tt
others_told line [] (s ∷ answers) apart h = absurd h
others_told line (a ∷ asked) [] apart h = absurd h
others_told line (a ∷ asked) (steps ∷ answers) apart h = rw (map-append entry_of steps (answers_joined answers)) (all_join (λ (e : Entry). e.line ≢ line) (map entry_of steps) (map entry_of (answers_joined answers))
    (every (λ (e : Entry). e.line ≡ a.line) (λ (e : Entry). e.line ≢ line) (map entry_of steps) (λ e same other. apart.0 (sym same ∙ other)) (told_line a.line steps h.0))
    (others_told line asked answers apart.1 h.1))

every_filter : {X : Type 0} (P : X → Type 0) (test : X → Bool) (xs : List X) → AllByRecursion P xs → AllByRecursion P (filter test xs)
every_filter P test [] h = tt
every_filter P test (x ∷ xs) h = elim (cases_Bool (test x)) [ inl t ↦ rw t (h.0, every_filter P test xs h.1) | inr f ↦ rw f (every_filter P test xs h.1) ]

-- ---- line by line

own_lines : (a : Asked) (asked : List Asked) → asked_of_lane a.lane (a ∷ asked) ≡ a ∷ asked_of_lane a.lane asked
own_lines a asked = rw (eq-eqb a.lane a.lane refl) refl

other_lines : (lane : ℕ) (a : Asked) (asked : List Asked) → a.lane ≢ lane → asked_of_lane lane (a ∷ asked) ≡ asked_of_lane lane asked
other_lines lane a asked apart = rw (ne_eqb a.lane lane apart) refl

-- the first of a room, and what is behind it
record First (a : Asked) (rest : List Asked) (answers : List (List Step)) : Type 0 where
  first : List Step
  others : List (List Step)
  is : answers ≡ first ∷ others
  in_line : IsInLine a.line first
  behind_it : AreInLine rest others

first_in : (a : Asked) (rest : List Asked) (answers : List (List Step)) → AreInLine (a ∷ rest) answers → First a rest answers
first_in a rest [] h = absurd h
first_in a rest (steps ∷ answers) h = record { first = steps; others = answers; is = refl; in_line = h.0; behind_it = h.1 }

-- what is put back for lines that are all answered
abbrev asked_in_turn : List Asked → List (List Entry) → List Entry
asked_in_turn [] rooms = []
asked_in_turn (a ∷ asked) rooms = first_entries a.line (room_at rooms a.lane) ++ asked_in_turn asked (slice_set rooms a.lane (rest_of a.line (room_at rooms a.lane)))

put_back_told : (asked : List Asked) (rooms : List (List Entry)) (answers : ℕ → List (List Step)) → AllByRecursion (λ (a : Asked). a.lane < length rooms) asked → Pairs (λ (a b : Asked). b.line ≢ a.line) asked → ((lane : ℕ) → AreInLine (asked_of_lane lane asked) (answers lane)) → RoomsHold rooms answers → asked_in_turn asked rooms ≡ map entry_of (answers_joined (take_turns (lanes_of asked) answers))
put_back_told [] rooms answers within apart in_line holds = refl
put_back_told (a ∷ asked) rooms answers within apart in_line holds =
    let o : First a (asked_of_lane a.lane asked) (answers a.lane) = first_in a (asked_of_lane a.lane asked) (answers a.lane) (subst (λ (z : List Asked). AreInLine z (answers a.lane)) (own_lines a asked) (in_line a.lane)) in
    let told : List Entry = map entry_of o.first in
    let more : List Entry = map entry_of (answers_joined o.others) in
    let room : room_at rooms a.lane ≡ told ++ more = holds a.lane within.0 ∙ (ap (λ (z : List (List Step)). map entry_of (answers_joined z)) o.is ∙ map-append entry_of o.first (answers_joined o.others)) in
    let len : front_len a.line (told ++ more) ≡ length told = front_is a.line told more (told_line a.line o.first o.in_line) (others_told a.line (asked_of_lane a.lane asked) o.others (every_filter (λ (b : Asked). b.line ≢ a.line) (λ b. b.lane == a.lane) asked apart.0) o.behind_it) in
    let taken : first_entries a.line (room_at rooms a.lane) ≡ told = rw (room, len) (take_front told more) in
    let left : rest_of a.line (room_at rooms a.lane) ≡ more = rw (room, len) (drop_front told more) in
    let first_taken : take 1 (answers a.lane) ≡ o.first ∷ [] = ap (take 1) o.is in
    let rest = put_back_told asked (slice_set rooms a.lane more) (rooms_behind a.lane answers)
    (every (λ (b : Asked). b.lane < length rooms) (λ (b : Asked). b.lane < length (slice_set rooms a.lane more)) asked (λ b l. omega (arith, length-set rooms a.lane more)) within.1)
    apart.1 (λ lane. still_in_line lane o (cases_Bool (lane == a.lane))) (λ lane l. still_holds lane more o refl (omega (arith, length-set rooms a.lane more)) (cases_Bool (lane == a.lane))) in
    let all : answers_joined (take_turns (lanes_of (a ∷ asked)) answers) ≡ o.first ++ answers_joined (take_turns (lanes_of asked) (rooms_behind a.lane answers)) = ap (λ (z : List (List Step)). answers_joined (z ++ take_turns (lanes_of asked) (rooms_behind a.lane answers))) first_taken in
    rw (taken, left) (ap (λ z. told ++ z) rest ∙ (sym (map-append entry_of o.first (answers_joined (take_turns (lanes_of asked) (rooms_behind a.lane answers)))) ∙ ap (map entry_of) (sym all)))
  where
    still_in_line : (lane : ℕ) → First a (asked_of_lane a.lane asked) (answers a.lane) → ((lane == a.lane) ≡ true) ⊎ ((lane == a.lane) ≡ false) → AreInLine (asked_of_lane lane asked) (rooms_behind a.lane answers lane)
    still_in_line lane o (inl t) = let same : lane ≡ a.lane = eqb-true lane a.lane t in rw (same, eq-eqb a.lane a.lane refl, o.is) o.behind_it
    still_in_line lane o (inr f) = rw f (subst (λ (z : List Asked). AreInLine z (answers lane)) (other_lines lane a asked (λ same. eqb-false lane a.lane f (sym same))) (in_line lane))

    still_holds : (lane : ℕ) (more : List Entry) → (o : First a (asked_of_lane a.lane asked) (answers a.lane)) → more ≡ map entry_of (answers_joined o.others) → lane < length rooms → ((lane == a.lane) ≡ true) ⊎ ((lane == a.lane) ≡ false) → room_at (slice_set rooms a.lane more) lane ≡ map entry_of (answers_joined (rooms_behind a.lane answers lane))
    still_holds lane more o is l (inl t) = let same : lane ≡ a.lane = eqb-true lane a.lane t in rw (same, eq-eqb a.lane a.lane refl, o.is, get_or-set_same rooms a.lane more [] within.0) is
    still_holds lane more o is l (inr f) = rw (f, get_or-set_other rooms a.lane lane more [] (eqb-false lane a.lane f)) (holds lane l)

lines_in_turn : (here phase : ℕ) (lines : List Line) (rooms : List (List Entry)) → in_turn here lines rooms ≡ asked_in_turn (steps_in here phase lines) rooms
lines_in_turn here phase [] rooms = refl
lines_in_turn here phase (line ∷ lines) rooms =
    let left : List (List Entry) = slice_set rooms here (rest_of line.number (room_at rooms here)) in
    elim (cases_Bool (is_step line.item)) [
      | inl t ↦ rw t (ap (λ z. first_entries line.number (room_at rooms here) ++ z) (lines_in_turn (lane_after here line.item) phase lines left))
      | inr f ↦ rw f (lines_in_turn (lane_after here line.item) phase lines rooms)
    ]

-- lines of different numbers
asked_apart : (here phase : ℕ) (lines : List Line) → Pairs (λ (a b : Line). b.number ≢ a.number) lines → Pairs (λ (a b : Asked). b.line ≢ a.line) (steps_in here phase lines)
asked_apart here phase [] apart = tt
asked_apart here phase (line ∷ lines) apart =
    let next : ℕ = lane_after here line.item in
    elim (cases_Bool (is_step line.item)) [
      | inl t ↦ rw t (steps_numbered line.number next phase lines apart.0, asked_apart next phase lines apart.1)
      | inr f ↦ rw f (asked_apart next phase lines apart.1)
    ]

pub answers_told : (phase : ℕ) (lines : List Line) (rooms : List (List Entry)) (answers : ℕ → List (List Step)) → AllByRecursion (λ (a : Asked). a.lane < length rooms) (steps_in 0 phase lines) → Pairs (λ (a b : Line). b.number ≢ a.number) lines
    → ((lane : ℕ) → AreDoneEach (asked_of_lane lane (steps_in 0 phase lines)) (answers lane)) → RoomsHold rooms answers → in_turn 0 lines rooms ≡ map entry_of (answers_joined (take_turns (lanes_of (steps_in 0 phase lines)) answers))
answers_told phase lines rooms answers within apart answered holds =
    lines_in_turn 0 phase lines rooms ∙ put_back_told (steps_in 0 phase lines) rooms answers within (asked_apart 0 phase lines apart) (λ lane. answered_in_line (asked_of_lane lane (steps_in 0 phase lines)) (answers lane) (answered lane)) holds
