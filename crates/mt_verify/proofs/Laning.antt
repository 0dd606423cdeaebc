-- All lanes go through the maps of a tree.
use Rattle.mt_verify.proofs.Prelude.{◌≡◌, ◌≢◌, ℕ, zero, suc, ◌+◌, ◌<◌, ◌≤◌, true, List, [], ◌∷◌, Option, Some, None, length, slice_get, slice_set, refl, sym, ap, ◌∙◌, subst, inl, inr, arith, option_map, cases_lt, fold_more, slice_get_within, slice_get-map, none-some, same_Some, get_or_from_slice_get, Kind, Range, Contents, ToldRead, Noted, map_after_noted, map_of_noted, ArePickedBelow, IsStuck, Lane, opened_of, IsAnsweredAt, AreAnswered, AreOn, SomeStuck, looks_of, AllLeast, SomeHasNone, AreWithin, SomeWaits, AreLanesDone, AreFresh}
use Rattle.mt_log.proofs.PlacesSet.{set_here, set_there}
use Rattle.mt_verify.proofs.LeastNumbers.{picked_is_least, stuck_has_none}

-- of these lanes the first so many have gone through this number as well
pub record AreGoing (m : ℕ → List Range) (number count : ℕ) (lanes : List Lane) : Type 0 where
  pub gone : (j : ℕ) (t : Lane) → j < count → slice_get lanes j ≡ Some t
      → ArePickedBelow m (number + 1) (number + 1) t.looks t.points
  pub rest : (j : ℕ) (t : Lane) → count ≤ j → slice_get lanes j ≡ Some t → ArePickedBelow m number number t.looks t.points

pub looks_stay : (lanes : List Lane) (i : ℕ) (t t' : Lane) → slice_get lanes i ≡ Some t → t'.looks ≡ t.looks → looks_of (slice_set lanes i t') ≡ looks_of lanes
looks_stay [] i t t' is same = refl
looks_stay (u ∷ lanes) zero t t' is same =
    let one : u ≡ t = same_Some u t is in
    ap (λ (ls : List ToldRead). ls ∷ looks_of lanes) (same ∙ ap (λ (x : Lane). x.looks) (sym one))
looks_stay (u ∷ lanes) (suc i) t t' is same = ap (λ (rest : List (List ToldRead)). u.looks ∷ rest) (looks_stay lanes i t t' is same)

-- ---- all lanes go through a number

pub none_gone : (m : ℕ → List Range) (number : ℕ) (lanes : List Lane) → AreOn m number lanes → AreGoing m number 0 lanes
none_gone m number lanes on = record { gone = λ j t below is. absurd (omega arith); rest = λ j t above is. on j t is }

pub all_gone : (m : ℕ → List Range) (number count : ℕ) (lanes : List Lane) → length lanes ≤ count → AreGoing m number count lanes → AreOn m (number + 1) lanes
all_gone m number count lanes all going j t is = going.gone j t (omega (arith, slice_get_within lanes j t is)) is

module _ (m : ℕ → List Range) (number i : ℕ) (lanes : List Lane) (t t' : Lane) (is : slice_get lanes i ≡ Some t) (same : t'.looks ≡ t.looks) where
  pub gone_more : AreGoing m number i lanes → ArePickedBelow m (number + 1) (number + 1) t.looks t'.points → AreGoing m number (i + 1) (slice_set lanes i t')
  gone_more going on = record { gone = gone; rest = rest }
    where
      gone : (j : ℕ) (u : Lane) → j < i + 1 → slice_get (slice_set lanes i t') j ≡ Some u → ArePickedBelow m (number + 1) (number + 1) u.looks u.points
      gone j u below at = elim (cases_lt j i) [
        | inl lower ↦ (let apart : j ≢ i = omega arith in going.gone j u lower (sym (set_there lanes i j t' apart) ∙ at))
        | inr above ↦
            (let here : j ≡ i = omega arith in
            let one : u ≡ t' = same_Some u t' (sym at ∙ (ap (slice_get (slice_set lanes i t')) here ∙ set_here lanes i t t' is)) in
            subst (λ (x : Lane). ArePickedBelow m (number + 1) (number + 1) x.looks x.points) (sym one) (subst (λ (ls : List ToldRead). ArePickedBelow m (number + 1) (number + 1) ls t'.points) (sym same) on))
      ]

      rest : (j : ℕ) (u : Lane) → i + 1 ≤ j → slice_get (slice_set lanes i t') j ≡ Some u → ArePickedBelow m number number u.looks u.points
      rest j u above at = let apart : j ≢ i = omega arith in going.rest j u (omega arith) (sym (set_there lanes i j t' apart) ∙ at)

  pub stuck_there : IsStuck m t.looks t'.points → SomeStuck m (slice_set lanes i t')
  stuck_there stuck = record { place = i; lane = t'; is = set_here lanes i t t' is; stuck = subst (λ (ls : List ToldRead). IsStuck m ls t'.points) (sym same) stuck }

-- ---- the maps of a tree

pub map_more : (kind : Kind) (opening : List Range) (noted : List Noted) (i : ℕ) (n : Noted) → slice_get noted i ≡ Some n → map_of_noted kind opening noted (i + 1) ≡ map_after_noted kind (map_of_noted kind opening noted i) n
map_more kind opening noted i n is =
    fold_more (map_after_noted kind) opening noted i n (slice_get_within noted i n is)
    ∙ ap (map_after_noted kind (map_of_noted kind opening noted i)) (get_or_from_slice_get noted i n n is)

module _ (kind : Kind) (version rows : ℕ) (opening : List Range) (noted : List Noted) where
  abbrev m : ℕ → List Range
  m = map_of_noted kind opening noted

  pub answered_more : (i : ℕ) (n : Noted) → slice_get noted i ≡ Some n → IsAnsweredAt kind version rows (opened_of opening) i (m i) n → AreAnswered kind version rows opening noted i → AreAnswered kind version rows opening noted (i + 1)
  answered_more i n is answer answered j o below at = elim (cases_lt j i) [
    | inl lower ↦ answered j o lower at
    | inr above ↦
        (let here : j ≡ i = omega arith in
        let one : o ≡ n = same_Some o n (sym at ∙ (ap (slice_get noted) here ∙ is)) in
        subst (λ (x : Noted × ℕ). IsAnsweredAt kind version rows (opened_of opening) x.1 (m x.1) x.0) (λ k. (sym one k, sym here k)) answer)
  ]

  -- a call that was not answered so
  pub not_answered : (i : ℕ) (n : Noted) → slice_get noted i ≡ Some n → (IsAnsweredAt kind version rows (opened_of opening) i (m i) n → ⊥) → AreAnswered kind version rows opening noted (length noted) → ⊥
  not_answered i n is other answered = other (answered i n (slice_get_within noted i n is) is)

  -- ---- where lanes begin, and where they end

  pub fresh_is_on : (lanes : List Lane) → AreFresh lanes → AreOn m 0 lanes
  fresh_is_on lanes fresh j t is = subst (λ (points : List ℕ). ArePickedBelow m 0 0 t.looks points) (sym (fresh j t is)) (record {
    picked = record { few = omega arith; each = λ i l below at. absurd (omega arith) };
    below = λ i below. absurd (omega arith);
    room = λ l at. omega arith;
    waits = λ l i at floor from below holds. absurd (omega arith);
  })

  pub stuck_is_none : (lanes : List Lane) → SomeStuck m lanes → SomeHasNone m lanes
  stuck_is_none lanes s = record { place = s.place; lane = s.lane; is = s.is; none = stuck_has_none m s.lane.looks s.lane.points s.stuck }

  -- a look that waits behind the last call can have no number
  pub waits_is_none : (lanes : List Lane) (count : ℕ) → AreWithin count lanes → AreOn m (count + 1) lanes → SomeWaits lanes → SomeHasNone m lanes
  waits_is_none lanes count within on w =
      let t = w.lane in
      let o : ArePickedBelow m (count + 1) (count + 1) t.looks t.points = on w.place t w.is in
      let few = o.picked.few in
      let next = some_look t.looks (length t.points) (less few w.waits) in
      record {
        place = w.place;
        lane = t;
        is = w.is;
        none = stuck_has_none m t.looks t.points (record {
          picked = o.picked;
          look = next.0;
          next = next.1;
          why = inr (λ j floor from to holds. o.waits next.0 j next.1 floor from (omega (arith, to, within w.place t (length t.points) next.0 w.is next.1)) holds);
        });
      }
    where
      less : {a b : ℕ} → a ≤ b → (a ≡ b → ⊥) → a < b
      less le apart = omega arith

      some_look : (looks : List ToldRead) (i : ℕ) → i < length looks → (l : ToldRead) × (slice_get looks i ≡ Some l)
      some_look [] i below = absurd (omega arith)
      some_look (l ∷ looks) zero below = (l, refl)
      some_look (l ∷ looks) (suc i) below = some_look looks i (omega arith)

  pub done_is_least : (lanes : List Lane) (number : ℕ) → AreOn m number lanes → AreLanesDone lanes true → AllLeast m lanes
  done_is_least lanes number on done j t is = picked_is_least m t.looks t.points (on j t is).picked (done j t is)

-- ---- the loop over the lanes

-- of these lanes the first so many have gone through this number
pub record AllGoOn (number : ℕ) (map : Contents) (before : List Lane) (map' : Contents) (count : ℕ) (lanes : List Lane) : Type 0 where
  pub same : map' ≡ map
  pub looks : looks_of lanes ≡ looks_of before
  pub going : (m : ℕ → List Range) → m number ≡ map.ranges → AreOn m number before → AreGoing m number count lanes

-- windows are those of the looks
pub within_still : (count : ℕ) (before lanes : List Lane) → looks_of lanes ≡ looks_of before → AreWithin count before → AreWithin count lanes
within_still count before lanes same within j t i l is at =
    let told : slice_get (looks_of before) j ≡ Some t.looks = ap (λ (xs : List (List ToldRead)). slice_get xs j) (sym same) ∙ (slice_get-map (λ (x : Lane). x.looks) lanes j ∙ ap (option_map (λ (x : Lane). x.looks)) is) in
    found (slice_get before j) refl (sym (slice_get-map (λ (x : Lane). x.looks) before j) ∙ told)
  where
    found : (o : Option Lane) → slice_get before j ≡ o → option_map (λ (x : Lane). x.looks) (slice_get before j) ≡ Some t.looks → l.hi ≤ count
    found None was told = absurd (none-some t.looks (sym (ap (option_map (λ (x : Lane). x.looks)) was) ∙ told))
    found (Some u) was told =
        let same_looks : u.looks ≡ t.looks = same_Some u.looks t.looks (sym (ap (option_map (λ (x : Lane). x.looks)) was) ∙ told) in
        within j u i l was (ap (λ (ls : List ToldRead). slice_get ls i) same_looks ∙ at)
