-- What a map has at an index answers the queries: the range in the slot of the index, or the one right behind the hole
-- there, or right before it.
use Rattle.mt_engine.proofs.Prelude.{◌≡◌, ◌≢◌, ℕ, ◌+◌, ◌-◌, ◌<◌, ◌≤◌, ◌==◌, false, List, [], ◌∷◌, Option, Some, None, take, arith, nat_le, refl, sym, ap, ◌∙◌, subst, inl, inr, IsSome, AllByRecursion, slice_get, cases_Bool, eqb-true, eqb-false, and_left, and_right, lt-leb, Range, IsMapFrom, holding, holds, Span, place_below, place_above, last_of, range_of, IsSpanAt, nearest_from, nearest_up_to, Outside, outside_hole}
use Rattle.mt_engine.proofs.MapPlaces.{Beside, beside_hole, beside_held, next_place, prev_place, first_place, last_place, first_held, last_held, none_before, none_before_hole, none_behind}

-- a hole holds nothing
outside_holds_none : (m : List Range) (a b index : ℕ) → a ≤ index → index ≤ b → AllByRecursion (Outside a b) m → holding m index ≡ None
outside_holds_none [] a b index from to each = refl
outside_holds_none (r ∷ m) a b index from to each = rw (holds_not r each.0) (outside_holds_none m a b index from to each.1)
  where
    holds_not : (r : Range) → Outside a b r → holds index r ≡ false
    holds_not r (order, inl below) = and_right (nat_le r.first index) (nat_le index r.last) (lt-leb index r.last (omega arith))
    holds_not r (order, inr above) = and_left (nat_le r.first index) (nat_le index r.last) (lt-leb r.first index (omega arith))

-- what stands at an index that is held is no hole
some_held : (m : List Range) (top index : ℕ) (x : Span) → IsMapFrom 0 m → IsSpanAt m top index x → IsSome (holding m index) → holding m index ≡ Some (range_of x)
some_held m top index x rise at some = at.held (λ hole. let none = outside_holds_none m x.first x.last index at.from at.to (outside_hole m 0 x.first x.last rise (at.hole hole)) in absurd (no_some (holding m index) none some))
  where
    no_some : (o : Option Range) → o ≡ None → IsSome o → ⊥
    no_some None none some = absurd (cc)
    no_some (Some r) none some = absurd (cc)

module _ (m : List Range) (top index : ℕ) (x : Span) (rise : IsMapFrom 0 m) (at : IsSpanAt m top index x) where
  beside : AllByRecursion (Beside x.first x.last) m
  beside = elim (cases_Bool (x.word == 0)) [
    | inl hole ↦ beside_hole m x.first x.last (outside_hole m 0 x.first x.last rise (at.hole (eqb-true x.word 0 hole)))
    | inr held ↦ beside_held m 0 index (range_of x) rise (at.held (eqb-false x.word 0 held))
  ]

  outside : x.word ≡ 0 → AllByRecursion (Outside x.first x.last) m
  outside hole = outside_hole m 0 x.first x.last rise (at.hole hole)

  -- ---- load

  pub load_held : x.word ≢ 0 → Some (range_of x) ≡ holding m index
  load_held held = sym (at.held held)

  pub load_hole : x.word ≡ 0 → None ≡ holding m index
  load_hole hole = sym (outside_holds_none m x.first x.last index at.from at.to (outside hole))

  -- ---- the first range that ends at the index or above

  pub first_here : x.word ≢ 0 → Some (range_of x) ≡ nearest_from m index
  first_here held = sym (first_held m index (range_of x) rise (at.held held))

  pub first_none : x.word ≡ 0 → x.last ≡ top → AllByRecursion (λ (r : Range). r.last ≤ top) m → None ≡ nearest_from m index
  first_none hole end within = sym (ap (slice_get m) (first_place m x.first x.last index at.from at.to (outside hole) ∙ ap (λ (n : ℕ). place_below m (n + 1)) end) ∙ none_behind m top within)

  pub first_behind : (y : Span) → IsSpanAt m top (x.last + 1) y → x.word ≡ 0 → x.last < top → Some (range_of y) ≡ nearest_from m index
  first_behind y behind hole more = sym (ap (slice_get m) (first_place m x.first x.last index at.from at.to (outside hole)) ∙ first_held m (x.last + 1) (range_of y) rise (some_held m top (x.last + 1) y rise behind (at.behind hole more)))

  -- ---- the first range behind the index

  pub next_from : slice_get m (place_above m index) ≡ nearest_from m (x.last + 1)
  next_from = ap (slice_get m) (next_place m x.first x.last index at.from at.to beside)

  pub next_none : x.last ≡ top → AllByRecursion (λ (r : Range). r.last ≤ top) m → None ≡ slice_get m (place_above m index)
  next_none end within = sym (next_from ∙ ap (λ (n : ℕ). nearest_from m (n + 1)) end ∙ none_behind m top within)

  -- ---- the last range that begins at the index or below

  pub last_here : x.word ≢ 0 → Some (range_of x) ≡ nearest_up_to m index
  last_here held = sym (last_held m index (range_of x) rise (at.held held))

  pub last_none : x.word ≡ 0 → x.first ≡ 0 → None ≡ nearest_up_to m index
  last_none hole begin = sym (ap (λ (n : ℕ). last_of (take n m)) (none_before_hole m x.last index at.to (subst (λ (a : ℕ). AllByRecursion (Outside a x.last) m) begin (outside hole))))

  pub last_before : (y : Span) → IsSpanAt m top (x.first - 1) y → x.word ≡ 0 → 0 < x.first → Some (range_of y) ≡ nearest_up_to m index
  last_before y before hole some = sym (ap (λ (n : ℕ). last_of (take n m)) (last_place m x.first x.last index at.from at.to some (outside hole)) ∙ last_held m (x.first - 1) (range_of y) rise (some_held m top (x.first - 1) y rise before (at.before hole some)))

  -- ---- the last range before the index

  pub prev_up_to : 0 < x.first → last_of (take (place_below m index) m) ≡ nearest_up_to m (x.first - 1)
  prev_up_to some = ap (λ (n : ℕ). last_of (take n m)) (prev_place m x.first x.last index at.from at.to some beside)

  pub prev_none : x.first ≡ 0 → None ≡ last_of (take (place_below m index) m)
  prev_none begin = sym (ap (λ (n : ℕ). last_of (take n m)) (none_before m x.last index at.to (subst (λ (a : ℕ). AllByRecursion (Beside a x.last) m) begin beside)))
