-- One lane more is at its desk.
use Rattle.mt_replay.proofs.Prelude.{◌≡◌, ℕ, zero, suc, ◌<◌, List, [], ◌∷◌, ◌++◌, length, get_or, arith, refl, subst, inl, inr, length-append, cases_eq, Line, Entry, Lane, LaneDesk, lines_of_lane, AtEach, AreLanesFor, IsLaneFor, room_before}

-- one more at the end
first_ones : {X : Type 0} (xs : List X) (x d : X) (i : ℕ) → i < length xs → get_or (xs ++ x ∷ []) i d ≡ get_or xs i d
first_ones [] x d i below = absurd (omega (arith, below))
first_ones (y ∷ xs) x d zero below = refl
first_ones (y ∷ xs) x d (suc i) below = first_ones xs x d i (omega (arith, below))

last_one : {X : Type 0} (xs : List X) (x d : X) → get_or (xs ++ x ∷ []) (length xs) d ≡ x
last_one [] x d = refl
last_one (y ∷ xs) x d = last_one xs x d

pub at_each_more : {X : Type 0} (P : ℕ → X → Type 0) (xs : List X) (x : X) → AtEach P xs → P (length xs) x → AtEach P (xs ++ x ∷ [])
at_each_more P xs x each one = λ place d below. elim (cases_eq place (length xs)) [
  | inl same ↦ rw (same, last_one xs x d) one
  | inr apart ↦
      let here : place < length xs = omega (arith, below, apart, length-append xs (x ∷ [])) in
      rw (first_ones xs x d place here) (each place d here)
]

pub lane_more : {R P T : Type 0} (trees : List T) (phase : ℕ) (lines : List Line) (first room : List Entry) (ls : List (Lane (LaneDesk R P T))) (l : Lane (LaneDesk R P T)) (lane : ℕ)
    → length ls ≡ lane → room ≡ room_before first lane → IsLaneFor trees phase (lines_of_lane lane 0 lines) room lane l → AreLanesFor trees phase lines first ls → AreLanesFor trees phase lines first (ls ++ l ∷ [])
lane_more {R} {P} {T} trees phase lines first room ls l lane count room_is for all =
    at_each_more (λ number l. IsLaneFor trees phase (lines_of_lane number 0 lines) (room_before first number) number l) ls l all
    (rw count (subst (λ (z : List Entry). IsLaneFor trees phase (lines_of_lane lane 0 lines) z lane l) room_is for))
