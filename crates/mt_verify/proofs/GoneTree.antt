-- What a tree comes to that was gone through, put together.
use Rattle.mt_verify.proofs.Prelude.{◌≡◌, ◌⊎◌, ℕ, zero, suc, List, [], ◌∷◌, ◌++◌, length, take, false, true, refl, sym, ap, ◌∙◌, subst, inr, arith, enumerate_from, length-enumerate_from, length_permutation, Contents, ToldLine, Numbered, Noted, Stop, AreAnswered, AllStopped, IsGone, IsLastMap, Lane, SomeHasNone, looks_of, CannotGo, GoneTree, IsGoneFrom, lane_looks, AreNotedOf, map_of_noted, lines_on, stops_told, Passing, SomeMiscounted, AreCallsOf, calls_told}
use Rattle.mt_verify.proofs.OwnStops.{as_many_noted}

pub many_noted : (told : List ToldLine) (tree : ℕ) (calls : List Numbered) (noted : List Noted) → AreCallsOf tree told calls → AreNotedOf told tree calls noted → length noted ≡ length (calls_told tree told)
many_noted told tree calls noted are heard = omega (arith, as_many_noted told tree calls noted heard, length-enumerate_from 1 calls, length_permutation (enumerate_from 1 calls) (calls_told tree told) are)

module _ (version rows : ℕ) (told : List ToldLine) (tree : ℕ) (from to : Contents) (calls : List Numbered) (noted : List Noted) (before lanes : List Lane) (old new : Passing)
    (are : AreCallsOf tree told calls) (heard : AreNotedOf told tree calls noted) (given : looks_of before ≡ lane_looks tree told) (same : looks_of lanes ≡ looks_of before)
    (told_stops : old.stops ≡ stops_told (lines_on tree told)) (same_stops : new.stops ≡ old.stops) where
  pub hindered_by : IsGone from.kind version rows from.ranges noted lanes new false → CannotGo version rows told tree from.kind from.ranges
  hindered_by gone = inr (inr (record {
    calls = calls;
    are = are;
    noted = noted;
    heard = heard;
    lanes = lanes;
    looks = same ∙ given;
    why = subst (λ (l : List Stop). (AreAnswered from.kind version rows from.ranges noted (length noted) → ⊥) ⊎ (SomeHasNone (map_of_noted from.kind from.ranges noted) lanes ⊎ SomeMiscounted (map_of_noted from.kind from.ranges noted) l)) (same_stops ∙ told_stops) gone;
  }))

  pub gone_from : (g : GoneTree) → g ≡ record { kind = from.kind; opening = from.ranges; noted = noted; lanes = lanes } → IsGone from.kind version rows from.ranges noted lanes new true → IsLastMap from.kind from.ranges noted to → IsGoneFrom version rows told tree from g to
  gone_from g is gone last = subst (λ (x : GoneTree). IsGoneFrom version rows told tree from x to) (sym is) (record {
    gone = record {
      calls = calls;
      are = are;
      heard = heard;
      answered = gone.0;
      looks = same ∙ given;
      least = gone.1;
      counted = subst (λ (l : List Stop). AllStopped (map_of_noted from.kind from.ranges noted) l) (same_stops ∙ told_stops) gone.2;
    };
    of_kind = refl;
    opening = refl;
    last = last;
  })

-- the front of a list that was put before others
pub front_is : {X : Type 0} (xs ys : List X) (n : ℕ) → length xs ≡ n → take n (xs ++ ys) ≡ xs
front_is [] ys zero many = refl
front_is [] ys (suc n) many = absurd (omega (arith, many))
front_is (x ∷ xs) ys zero many = absurd (omega (arith, many))
front_is (x ∷ xs) ys (suc n) many = ap (λ l. x ∷ l) (front_is xs ys n (omega (arith, many)))
