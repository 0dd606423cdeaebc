-- The lanes and the stops of a tree go through its whole history.
use Rattle.mt_verify.proofs.Prelude.{◌≡◌, ◌⊎◌, ℕ, ◌+◌, ◌≤◌, Bool, true, false, List, [], ◌∷◌, Some, length, map, slice_get, take, refl, sym, ap, ◌∙◌, subst, inl, inr, arith, fold, cases_lt, Kind, Range, acted, IsMap, acted_is_map, Contents, Heard, Short, Noted, Lane, opened_of, IsAnsweredAt, AreAnswered, AreOn, looks_of, SomeStuck, SomeHasNone, AllStopped, IsGone, AreWithin, AreLanesDone, AreFresh, AreFreshStops, AreStopsWithin, AreAt, HavePassedAll, map_after_noted, map_of_noted, map_heard, Passing, AreCounted, AreStopped, HavePassedStops, SomeMiscounted}
use Rattle.mt_verify.specs.declared.noted.Heard.TheVariants.{Reply as Printed}
use Rattle.mt_verify.proofs.Laning.{map_more, answered_more, not_answered, fresh_is_on, stuck_is_none, waits_is_none, done_is_least, within_still}
use Rattle.mt_verify.proofs.Runs.{some_at}

-- The first so many calls were answered as the maps before them answer, and all have gone through the numbers up to
-- theirs.
pub record HaveGone (kind : Kind) (version rows : ℕ) (opening : List Range) (noted : List Noted) (count : ℕ)
    (lanes : List Lane) (p : Passing) : Type 0 where
  pub answered : AreAnswered kind version rows opening noted count
  pub at : AreAt (map_of_noted kind opening noted) (count + 1) lanes p

-- a tree while its history is gone through
pub record Going : Type 0 where
  pub map : Contents
  pub lanes : List Lane
  pub stops : Passing

-- so many calls were made, and all have gone through the maps so far
pub record AllGo (version rows : ℕ) (noted : List Noted) (before : Going) (count : ℕ) (now : Going) : Type 0 where
  pub kind : now.map.kind ≡ before.map.kind
  pub ranges : now.map.ranges ≡ map_of_noted before.map.kind before.map.ranges noted count
  pub looks : looks_of now.lanes ≡ looks_of before.lanes
  pub stops : now.stops.stops ≡ before.stops.stops
  pub gone : HaveGone before.map.kind version rows before.map.ranges noted count now.lanes now.stops

-- what all come to at a number, from a map
abbrev pub Pass : ℕ → Contents → Going → Going → Bool → Type 0
Pass number map from to fine = (m : ℕ → List Range) → m number ≡ map.ranges → AreAt m number from.lanes from.stops → HavePassedAll m number to.lanes to.stops fine

-- ---- before the first call

fresh_stops : (m : ℕ → List Range) (p : Passing) → AreFreshStops p → AreStopped m 0 p
fresh_stops m p fresh = record {
  few = omega (arith, fresh.next);
  rise = fresh.rise;
  counted = λ i s below at. absurd (omega (arith, fresh.next, below));
  rest = λ i s above at. omega arith;
}

-- what is in the way of a run
abbrev pub Hinders : (ℕ → List Range) → Going → Type 0
Hinders m t = SomeHasNone m t.lanes ⊎ SomeMiscounted m t.stops.stops

module _ (version rows : ℕ) (noted : List Noted) (before : Going) where
  abbrev ms : ℕ → List Range
  ms = map_of_noted before.map.kind before.map.ranges noted

  hindered : (t : Going) → SomeStuck ms t.lanes ⊎ SomeMiscounted ms t.stops.stops → Hinders ms t
  hindered t (inl stuck) = inl (stuck_is_none before.map.kind version rows before.map.ranges noted t.lanes stuck)
  hindered t (inr wrong) = inr wrong

  module _ (fresh : AreFresh before.lanes) (fresh_too : AreFreshStops before.stops) where
    begins : AreAt ms 0 before.lanes before.stops
    begins = (fresh_is_on before.map.kind version rows before.map.ranges noted before.lanes fresh, fresh_stops ms before.stops fresh_too)

    pub go_begins : (first : Going) → first.map ≡ before.map → looks_of first.lanes ≡ looks_of before.lanes → first.stops.stops ≡ before.stops.stops → Pass 0 before.map before first true → AllGo version rows noted before 0 first
    go_begins first same looks stops passed = record {
      kind = ap (λ (c : Contents). c.kind) same;
      ranges = ap (λ (c : Contents). c.ranges) same;
      looks = looks;
      stops = stops;
      gone = record { answered = λ i n below is. absurd (omega arith); at = passed ms refl begins };
    }

    pub go_hindered_first : (first : Going) → Pass 0 before.map before first false → Hinders ms first
    go_hindered_first first passed = hindered first (passed ms refl begins)

  -- ---- a call

  -- a call of its number, and what all come to behind it
  module _ (i : ℕ) (n : Noted) (is : slice_get noted i ≡ Some n) (now : Going) (go : AllGo version rows noted before i now) where
    abbrev Answers : Kind → List Range → Type 0
    Answers kind m = IsAnsweredAt kind version rows (opened_of before.map.ranges) i m n

    -- the map at hand is the one at the call's number
    ranges_are : map_after_noted now.map.kind now.map.ranges n ≡ ms (i + 1)
    ranges_are = (λ k. map_after_noted (go.kind k) (go.ranges k) n) ∙ sym (map_more before.map.kind before.map.ranges noted i n is)

    pub go_refused : (Answers now.map.kind now.map.ranges → ⊥) → AreAnswered before.map.kind version rows before.map.ranges noted (length noted) → ⊥
    go_refused other =
        not_answered before.map.kind version rows before.map.ranges noted i n is (λ answer. other (subst (λ (x : Kind × List Range). Answers x.0 x.1) (λ k. (sym go.kind k, sym go.ranges k)) answer))

    module _ (after : Contents) (then : Going) (kind : after.kind ≡ now.map.kind) (made : after.ranges ≡ map_after_noted now.map.kind now.map.ranges n) where
      at_next : ms (i + 1) ≡ after.ranges
      at_next = sym (made ∙ ranges_are)

      pub go_on : then.map ≡ after → Answers now.map.kind now.map.ranges → looks_of then.lanes ≡ looks_of now.lanes → then.stops.stops ≡ now.stops.stops → Pass (i + 1) after now then true → AllGo version rows noted before (i + 1) then
      go_on still answer looks stops passed = record {
        kind = ap (λ (c : Contents). c.kind) still ∙ (kind ∙ go.kind);
        ranges = ap (λ (c : Contents). c.ranges) still ∙ sym at_next;
        looks = looks ∙ go.looks;
        stops = stops ∙ go.stops;
        gone = record {
          answered = answered_more before.map.kind version rows before.map.ranges noted i n is (subst (λ (x : Kind × List Range). Answers x.0 x.1) (λ k. (go.kind k, go.ranges k)) answer) go.gone.answered;
          at = passed ms at_next go.gone.at;
        };
      }

      pub go_hindered : Pass (i + 1) after now then false → Hinders ms then
      go_hindered passed = hindered then (passed ms at_next go.gone.at)

  -- ---- behind the last call

  stopped_whole : (number : ℕ) (p : Passing) → AreStopsWithin number p.stops → AreStopped ms (number + 1) p → AllStopped ms p.stops
  stopped_whole number p within on = elim (cases_lt p.next (length p.stops)) [
    | inl less ↦
        (let t = some_at p.stops p.next less in
        absurd (omega (arith, within p.next t.0 t.1, on.rest p.next t.0 (omega arith) t.1)))
    | inr le ↦
        (let all : p.next ≡ length p.stops = omega (arith, on.few) in
        subst (λ (k : ℕ). AreCounted ms p.stops k) all on.counted)
  ]

  pub go_ends : (i : ℕ) (now : Going) (done : Bool) → length noted ≤ i → i ≤ length noted → AllGo version rows noted before i now → AreWithin (length noted) before.lanes → AreStopsWithin (length noted) before.stops.stops → AreLanesDone now.lanes done
      → IsGone before.map.kind version rows before.map.ranges noted now.lanes now.stops done
  go_ends i now true past below go within stops_within are =
      let all : i ≡ length noted = omega arith in (
        subst (AreAnswered before.map.kind version rows before.map.ranges noted) all go.gone.answered,
        done_is_least before.map.kind version rows before.map.ranges noted now.lanes (i + 1) go.gone.at.0 are,
        stopped_whole (length noted) now.stops (subst (AreStopsWithin (length noted)) (sym go.stops) stops_within) (subst (λ (k : ℕ). AreStopped ms (k + 1) now.stops) all go.gone.at.1),
      )
  go_ends i now false past below go within stops_within waits =
      let all : i ≡ length noted = omega arith in
      inr (inl (waits_is_none before.map.kind version rows before.map.ranges noted now.lanes (length noted) (within_still (length noted) before.lanes now.lanes go.looks within)
      (subst (λ (k : ℕ). AreOn ms (k + 1) now.lanes) all go.gone.at.0) waits))

-- ---- maps stay maps

after_is_map : (kind : Kind) (m : List Range) (n : Noted) → IsMap kind m → IsMap kind (map_after_noted kind m n)
after_is_map kind m n is = either n.heard
  where
    either : (h : Heard) → IsMap kind (map_heard h m (acted kind m n.call).0)
    either (Printed bytes) = acted_is_map kind m n.call is
    either (Short s) = is

pub all_are_maps : (kind : Kind) (m : List Range) (noted : List Noted) → IsMap kind m → IsMap kind (fold (map_after_noted kind) m noted)
all_are_maps kind m [] is = is
all_are_maps kind m (n ∷ noted) is = all_are_maps kind (map_after_noted kind m n) noted (after_is_map kind m n is)

pub map_by_is_map : (version rows : ℕ) (noted : List Noted) (before : Going) (i : ℕ) (now : Going) → IsMap before.map.kind before.map.ranges → AllGo version rows noted before i now → IsMap now.map.kind now.map.ranges
map_by_is_map version rows noted before i now is go =
    subst (λ (x : Kind × List Range). IsMap x.0 x.1) (λ k. (sym go.kind k, sym go.ranges k)) (all_are_maps before.map.kind before.map.ranges (take i noted) is)

-- ---- one number

-- what the lanes and the stops come to at a number, where no lane is stuck there
pub pass_both : (m : ℕ → List Range) (number : ℕ) (lanes : List Lane) (p : Passing) (fine : Bool) → AreOn m (number + 1) lanes → HavePassedStops m number p fine → HavePassedAll m number lanes p fine
pass_both m number lanes p true on passed = (on, passed)
pass_both m number lanes p false on passed = inr passed
