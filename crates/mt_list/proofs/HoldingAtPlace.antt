-- The range that holds an index stands at the index's place.
use Rattle.mt_list.proofs.Prelude.{◌≡◌, ℕ, ◌+◌, ◌<◌, ◌≤◌, suc, List, [], ◌∷◌, None, arith, nat_lt, nat_le, refl, inl, inr, slice_get, cond_both, cases_Bool, ltb-true, ltb-false, lt-leb, le-leb, Range, IsMapFrom, holding, place_below, up_to}

-- no range of a map from above the index holds it
none_holds : (m : List Range) (low index : ℕ) → index < low → IsMapFrom low m → holding m index ≡ None
none_holds [] low index above ordered = refl
none_holds (r ∷ m) low index above ordered = rw (lt-leb r.first index (omega (arith, ordered.0))) (none_holds m (r.last + 1) index (omega (arith, ordered.0, ordered.1)) ordered.3)

holding_from : (m : List Range) (low index : ℕ) → IsMapFrom low m → holding m index ≡ up_to index (slice_get m (place_below m index))
holding_from [] low index ordered = refl
holding_from (r ∷ m) low index ordered =
    cond_both (nat_lt r.last index) (1 + place_below m index) 0 (λ n. holding (r ∷ m) index ≡ up_to index (slice_get (r ∷ m) n))
    (λ yes.
    let ends : r.last < index = ltb-true r.last index yes in
    let next : 1 + place_below m index ≡ suc (place_below m index) = omega arith in
    rw (next, le-leb r.first index (omega (arith, ordered.1)), lt-leb index r.last ends) (holding_from m (r.last + 1) index ordered.3))
    (λ no.
    let reaches : index ≤ r.last = ltb-false r.last index no in
    elim (cases_Bool (nat_le r.first index)) [
      | inl begins ↦ rw (begins, le-leb index r.last reaches) refl
      | inr above ↦ rw above (none_holds m (r.last + 1) index (omega arith) ordered.3)
    ])

-- the range at the index's place, if it begins at the index or below, is the one that holds it
pub holding_at_place : (m : List Range) (index : ℕ) → IsMapFrom 0 m → holding m index ≡ up_to index (slice_get m (place_below m index))
holding_at_place m index ordered = holding_from m 0 index ordered
