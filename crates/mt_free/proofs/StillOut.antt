-- A row that is out stays out until it is retired.
use Rattle.mt_free.proofs.Prelude.{◌≢◌, ℕ, Bool, List, [], ◌∷◌, ◌++◌, map, arith, refl, sym, nat_le, nat_lt, ◌∙◌, subst, inl, inr, All, Contains, filter, length-map, get_or-map, map_push, All-filter, All-map, All-contains, Contains-append_left, Contains-append_cases, Contains-push, Contains-push_cases, StampedRow, Book, held_rows, IsOut, after_retire, reclaimable, after_reclaim}

pub out_after_take : (b : Book) (taken row : ℕ) → IsOut (record b { free = b.free ++ taken ∷ [] }) row → IsOut b row × (row ≢ taken)
out_after_take b taken row out = (
  record { here = out.here; not_free = λ in_free. out.not_free (Contains-append_left b.free (taken ∷ []) row in_free); not_held = out.not_held },
  λ is. out.not_free (subst (λ (r : ℕ). Contains (b.free ++ taken ∷ []) r) (sym is) (Contains-push b.free taken)),
)

pub out_after_retire : (b : Book) (retired stamp row : ℕ) → row ≢ retired → IsOut b row → IsOut (after_retire b retired stamp) row
out_after_retire b retired stamp row apart out = record {
  here = out.here;
  not_free = out.not_free;
  not_held = λ in_held.
      (let cases = Contains-push_cases (held_rows b) retired row (rw map_push at in_held) in
      elim cases [ inl before ↦ out.not_held before | inr is ↦ apart (sym is) ]);
}

-- a row that no held row is, is none of those that a test keeps
not_among : (held : List StampedRow) (row : ℕ) (p : StampedRow → Bool) → ¬ Contains (map (λ h. h.row) held) row → ¬ Contains (map (λ h. h.row) (filter p held)) row
not_among held row p not_held among =
    let row_of : StampedRow → ℕ = λ h. h.row in
    let others : All (λ h. h.row ≢ row) held = λ k d within is. not_held (k, omega (arith, length-map held row_of, within), get_or-map row_of held k d row within ∙ is) in
    All-contains (λ r. r ≢ row) (map row_of (filter p held)) row (All-map (λ r. r ≢ row) row_of (filter p held) (All-filter p (λ h. h.row ≢ row) held others)) among refl

pub out_after_reclaim : (b : Book) (least row : ℕ) → IsOut b row → IsOut (after_reclaim b least) row
out_after_reclaim b least row out = record {
  here = out.here;
  not_free = λ in_free.
      (elim (Contains-append_cases b.free (map (λ h. h.row) (reclaimable least b.held)) row in_free) [
        | inl before ↦ out.not_free before
        | inr freed ↦ not_among b.held row (λ h. nat_le h.stamp least) out.not_held freed
      ]);
  not_held = not_among b.held row (λ h. nat_lt least h.stamp) out.not_held;
}
