-- What is put back is what came of the lines in the log's order, and in each lane what came of it there.
use Rattle.mt_linearize.proofs.Prelude.{◌≡◌, ◌≢◌, ◌⊎◌, ℕ, ◌==◌, true, false, List, [], ◌∷◌, ◌++◌, take, refl, sym, ap, ◌∙◌, subst, inl, inr, AllByRecursion, cases_Bool, eqb-true, eqb-false, eq-eqb, ne_eqb, filter_map-append, Item, Asked, Step, IsDone, AreDone, by_lane_on, outcomes_of, asked_of_lane, AreDoneEach, rooms_behind, take_turns, lanes_of, answers_joined}
use Rattle.mt_linearize.proofs.LineSteps.{done_each}

-- ---- what came of a line is of its lane

abbrev OfLane : ℕ → List Step → Type 0
OfLane lane steps = AllByRecursion (λ (s : Step). s.lane ≡ lane) steps

done_of_lane : (a : Asked) (item : Item) (steps : List Step) → IsDone a item steps → OfLane a.lane steps
done_of_lane a item steps d = done_each (λ (s : Step). s.lane ≡ a.lane) a item steps (λ tree o on. refl) d

other_of_lane : (tree lane other : ℕ) (steps : List Step) → other ≢ lane → OfLane other steps → outcomes_of tree lane steps ≡ []
other_of_lane tree lane other [] apart h = refl
other_of_lane tree lane other (s ∷ steps) apart h = elim (cases_Bool (s.tree == tree)) [
  | inl t ↦ rw (t, ne_eqb s.lane lane (λ same. apart (sym h.0 ∙ same))) (other_of_lane tree lane other steps apart h.1)
  | inr f ↦ rw f (other_of_lane tree lane other steps apart h.1)
]

-- ---- putting back

-- what is put back, from so many rooms
pub record PutBack (asked : List Asked) (rooms : ℕ → List (List Step)) (steps : List Step) : Type 0 where
  pub done : AreDone asked steps
  pub lanes : (tree lane : ℕ) → outcomes_of tree lane steps ≡ outcomes_of tree lane (answers_joined (rooms lane))

-- the first of a room, and what is behind it
pub record Opened (a : Asked) (rest : List Asked) (answers : List (List Step)) : Type 0 where
  first : List Step
  others : List (List Step)
  is : answers ≡ first ∷ others
  done : IsDone a a.item first
  answered : AreDoneEach rest others

pub opened : (a : Asked) (rest : List Asked) (answers : List (List Step)) → AreDoneEach (a ∷ rest) answers → Opened a rest answers
opened a rest [] h = absurd h
opened a rest (steps ∷ answers) h = record { first = steps; others = answers; is = refl; done = h.0; answered = h.1 }

none_left : (answers : List (List Step)) → AreDoneEach [] answers → answers ≡ []
none_left [] h = refl
none_left (steps ∷ answers) h = absurd h

own_lines : (a : Asked) (asked : List Asked) → asked_of_lane a.lane (a ∷ asked) ≡ a ∷ asked_of_lane a.lane asked
own_lines a asked = rw (eq-eqb a.lane a.lane refl) refl

other_lines : (lane : ℕ) (a : Asked) (asked : List Asked) → a.lane ≢ lane → asked_of_lane lane (a ∷ asked) ≡ asked_of_lane lane asked
other_lines lane a asked apart = rw (ne_eqb a.lane lane apart) refl

put_back : (asked : List Asked) (rooms : ℕ → List (List Step)) → ((lane : ℕ) → AreDoneEach (asked_of_lane lane asked) (rooms lane)) → PutBack asked rooms (answers_joined (take_turns (lanes_of asked) rooms))
put_back [] rooms answered = record { done = refl; lanes = λ tree lane. sym (ap (λ z. outcomes_of tree lane (answers_joined z)) (none_left (rooms lane) (answered lane))) }
put_back (a ∷ asked) rooms answered =
    let o : Opened a (asked_of_lane a.lane asked) (rooms a.lane) = opened a (asked_of_lane a.lane asked) (rooms a.lane) (subst (λ (z : List Asked). AreDoneEach z (rooms a.lane)) (own_lines a asked) (answered a.lane)) in
    let rest : PutBack asked (rooms_behind a.lane rooms) (answers_joined (take_turns (lanes_of asked) (rooms_behind a.lane rooms))) = put_back asked (rooms_behind a.lane rooms) (λ lane. still_answered lane o (cases_Bool (lane == a.lane))) in
    let taken : take 1 (rooms a.lane) ≡ o.first ∷ [] = ap (take 1) o.is in
    let all : answers_joined (take_turns (lanes_of (a ∷ asked)) rooms) ≡ o.first ++ answers_joined (take_turns (lanes_of asked) (rooms_behind a.lane rooms)) = ap (λ (z : List (List Step)). answers_joined (z ++ take_turns (lanes_of asked) (rooms_behind a.lane rooms))) taken in
    subst (PutBack (a ∷ asked) rooms) (sym all) (record {
      done = (o.first, answers_joined (take_turns (lanes_of asked) (rooms_behind a.lane rooms)), refl, o.done, rest.done);
      lanes = λ tree lane. filter_map-append (by_lane_on tree lane) o.first (answers_joined (take_turns (lanes_of asked) (rooms_behind a.lane rooms))) ∙ (ap (λ z. outcomes_of tree lane o.first ++ z) (rest.lanes tree lane) ∙ lane_back tree lane o (cases_Bool (lane == a.lane)));
    })
  where
    still_answered : (lane : ℕ) → Opened a (asked_of_lane a.lane asked) (rooms a.lane) → ((lane == a.lane) ≡ true) ⊎ ((lane == a.lane) ≡ false) → AreDoneEach (asked_of_lane lane asked) (rooms_behind a.lane rooms lane)
    still_answered lane o (inl t) = let same : lane ≡ a.lane = eqb-true lane a.lane t in rw (same, eq-eqb a.lane a.lane refl, o.is) o.answered
    still_answered lane o (inr f) = rw f (subst (λ (z : List Asked). AreDoneEach z (rooms lane)) (other_lines lane a asked (λ same. eqb-false lane a.lane f (sym same))) (answered lane))

    lane_back : (tree lane : ℕ) → (o : Opened a (asked_of_lane a.lane asked) (rooms a.lane)) → ((lane == a.lane) ≡ true) ⊎ ((lane == a.lane) ≡ false) → outcomes_of tree lane o.first ++ outcomes_of tree lane (answers_joined (rooms_behind a.lane rooms lane)) ≡ outcomes_of tree lane (answers_joined (rooms lane))
    lane_back tree lane o (inl t) = let same : lane ≡ a.lane = eqb-true lane a.lane t in rw (same, eq-eqb a.lane a.lane refl, o.is) (sym (filter_map-append (by_lane_on tree a.lane) o.first (answers_joined o.others)))
    lane_back tree lane o (inr f) = let apart : a.lane ≢ lane = λ same. eqb-false lane a.lane f (sym same) in rw (f, other_of_lane tree lane a.lane o.first apart (done_of_lane a a.item o.first o.done)) refl

pub back_done : (asked : List Asked) (rooms : ℕ → List (List Step)) → ((lane : ℕ) → AreDoneEach (asked_of_lane lane asked) (rooms lane)) → AreDone asked (answers_joined (take_turns (lanes_of asked) rooms))
back_done asked rooms answered = (put_back asked rooms answered).done

pub back_in_lanes : (asked : List Asked) (rooms : ℕ → List (List Step)) → ((lane : ℕ) → AreDoneEach (asked_of_lane lane asked) (rooms lane)) → (tree lane : ℕ) → outcomes_of tree lane (answers_joined (take_turns (lanes_of asked) rooms)) ≡ outcomes_of tree lane (answers_joined (rooms lane))
back_in_lanes asked rooms answered = (put_back asked rooms answered).lanes
