-- One lane's answers stand in the order of the log as they are.
use Rattle.mt_desks.proofs.Prelude.{◌≡◌, ℕ, ◌<◌, List, [], ◌∷◌, ◌++◌, take, drop, arith, refl, sym, ap, ◌∙◌, subst, AllByRecursion, eq-eqb, Asked, Step, asked_of_lane, AreDoneEach, rooms_behind, take_turns, lanes_of, answers_joined}

-- the first of a room, and what is behind it
record First (a : Asked) (rest : List Asked) (answers : List (List Step)) : Type 0 where
  first : List Step
  others : List (List Step)
  is : answers ≡ first ∷ others
  answered : AreDoneEach rest others

first_in : (a : Asked) (rest : List Asked) (answers : List (List Step)) → AreDoneEach (a ∷ rest) answers → First a rest answers
first_in a rest [] h = absurd h
first_in a rest (steps ∷ answers) h = record { first = steps; others = answers; is = refl; answered = h.1 }

none_answered : (answers : List (List Step)) → AreDoneEach [] answers → answers ≡ []
none_answered [] h = refl
none_answered (steps ∷ answers) h = absurd h

pub in_order : (asked : List Asked) (answers : ℕ → List (List Step)) → AllByRecursion (λ (a : Asked). a.lane < 1) asked → AreDoneEach asked (answers 0) → answers_joined (take_turns (lanes_of asked) answers) ≡ answers_joined (answers 0)
in_order [] answers alone answered = sym (ap answers_joined (none_answered (answers 0) answered))
in_order (a ∷ asked) answers alone answered =
    let o : First a asked (answers 0) = first_in a asked (answers 0) answered in
    let first_lane : a.lane ≡ 0 = omega (arith, alone.0) in
    let left : rooms_behind a.lane answers 0 ≡ o.others = rw (eq-eqb 0 a.lane (sym first_lane)) (ap (drop 1) o.is) in
    let taken : take 1 (answers a.lane) ≡ o.first ∷ [] = ap (λ (z : ℕ). take 1 (answers z)) first_lane ∙ ap (take 1) o.is in
    let rest : answers_joined (take_turns (lanes_of asked) (rooms_behind a.lane answers)) ≡ answers_joined (rooms_behind a.lane answers 0) = in_order asked (rooms_behind a.lane answers) alone.1 (subst (AreDoneEach asked) (sym left) o.answered) in
    ap (λ (z : List (List Step)). answers_joined (z ++ take_turns (lanes_of asked) (rooms_behind a.lane answers))) taken ∙ (ap (λ z. o.first ++ z) (rest ∙ ap answers_joined left) ∙ sym (ap answers_joined o.is))

pub all_its_own : (asked : List Asked) → AllByRecursion (λ (a : Asked). a.lane < 1) asked → asked_of_lane 0 asked ≡ asked
all_its_own [] alone = refl
all_its_own (a ∷ asked) alone = rw (eq-eqb a.lane 0 (omega (arith, alone.0))) (ap (λ z. a ∷ z) (all_its_own asked alone.1))
