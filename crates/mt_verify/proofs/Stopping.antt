-- Stops are passed at the numbers of calls at which they are.
use Rattle.mt_verify.proofs.Prelude.{◌≡◌, ℕ, ◌+◌, ◌≤◌, true, false, List, Option, Some, None, slice_get, refl, sym, ap, ◌∙◌, subst, inl, inr, arith, cases_lt, eq-eqb, eqb-true, slice_get_within, same_Some, Range, Stop, Passing, HasToldCount, is_at, HasStopped, AreCounted, AreStopped, SomeMiscounted}
use Rattle.mt_verify.proofs.Runs.{some_at}

module _ (m : ℕ → List Range) (number : ℕ) (p : Passing) where
  module _ (c : List Range) (s : Stop) (is : slice_get p.stops p.next ≡ Some s) (here : s.at ≡ number) (at : m number ≡ c) where
    -- the map at hand is the one after so many calls
    map_is : m s.at ≡ c
    map_is = ap m here ∙ at

    counted_more : HasToldCount c s → AreStopped m number p → AreCounted m p.stops (p.next + 1)
    counted_more counted on i t below there = elim (cases_lt i p.next) [
      | inl lower ↦ on.counted i t lower there
      | inr above ↦
          (let place : i ≡ p.next = omega arith in
          let same : t ≡ s = same_Some t s (sym there ∙ (ap (slice_get p.stops) place ∙ is)) in
          subst (λ (x : Stop). HasToldCount (m x.at) x) (sym same) (subst (λ (x : List Range). HasToldCount x s) (sym map_is) counted))
    ]

    pub stopped_more : (q : Passing) → HasStopped c s p q true → AreStopped m number p → AreStopped m number q
    stopped_more q stopped on = subst (AreStopped m number) (sym stopped.1) (record {
      few = omega (arith, slice_get_within p.stops p.next s is);
      rise = on.rise;
      counted = counted_more stopped.0 on;
      rest = λ i t above there. on.rest i t (omega arith) there;
    })

    pub stopped_wrong : (q : Passing) → q.stops ≡ p.stops → HasStopped c s p q false → SomeMiscounted m q.stops
    stopped_wrong q same wrong = record {
      place = p.next;
      stop = s;
      is = ap (λ (x : List Stop). slice_get x p.next) same ∙ is;
      wrong = λ counted. wrong (subst (λ (x : List Range). HasToldCount x s) map_is counted);
    }

  -- no stop is left at this number
  pub stopped_all : is_at number (slice_get p.stops p.next) ≡ false → AreStopped m number p → AreStopped m (number + 1) p
  stopped_all none on = record { few = on.few; rise = on.rise; counted = on.counted; rest = rest }
    where
      later : (t : Stop) → slice_get p.stops p.next ≡ Some t → number + 1 ≤ t.at
      later t there = elim (cases_lt number t.at) [
        | inl less ↦ omega arith
        | inr le ↦
            (let same : t.at ≡ number = omega (arith, on.rest p.next t (omega arith) there) in
            let yes : is_at number (slice_get p.stops p.next) ≡ true = ap (is_at number) there ∙ eq-eqb t.at number same in
            absurd (cc))
      ]

      rest : (i : ℕ) (s : Stop) → p.next ≤ i → slice_get p.stops i ≡ Some s → number + 1 ≤ s.at
      rest i s above there =
          let t = some_at p.stops p.next (omega (arith, slice_get_within p.stops i s there)) in
          elim (cases_lt p.next i) [
            | inl behind ↦ omega (arith, later t.0 t.1, on.rise p.next i t.0 s behind t.1 there)
            | inr here ↦ (let place : i ≡ p.next = omega arith in later s (ap (slice_get p.stops) (sym place) ∙ there))
          ]

-- ---- the loop

-- the stops at this number were passed so far
pub record PassesOn (number : ℕ) (map : List Range) (before after : Passing) : Type 0 where
  pub stops : after.stops ≡ before.stops
  pub on : (m : ℕ → List Range) → m number ≡ map → AreStopped m number before → AreStopped m number after

-- the stop that is at this number
pub stop_here : (number : ℕ) (o : Option Stop) → is_at number o ≡ true → (s : Stop) × (o ≡ Some s) × (s.at ≡ number)
stop_here number None is = absurd (cc)
stop_here number (Some s) is = (s, refl, eqb-true s.at number is)

-- one stop more
pub pass_more : (number : ℕ) (map : List Range) (before after after' : Passing) (s : Stop) → slice_get after.stops after.next ≡ Some s → s.at ≡ number → HasStopped map s after after' true → PassesOn number map before after → PassesOn number map before after'
pass_more number map before after after' s is here stopped goes = record {
  stops = ap (λ (x : Passing). x.stops) stopped.1 ∙ goes.stops;
  on = λ m at on. stopped_more m number after map s is here at after' stopped (goes.on m at on);
}
