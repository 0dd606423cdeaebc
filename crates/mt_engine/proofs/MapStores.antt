-- What a store makes of the range that it covers exactly.
use Rattle.mt_engine.proofs.Prelude.{◌≡◌, ℕ, ◌+◌, ◌≤◌, List, [], ◌∷◌, ◌++◌, Some, refl, sym, ap, ◌∙◌, subst, inl, inr, arith, AllByRecursion, cases_Bool, le-ltb, Range, IsMapFrom, holds, holding, over, without, part_stored, no_part_below, all_parts_above, without_above, store_behind}
use Rattle.mt_engine.proofs.MapPlaces.{held_from, holds_is}

-- ---- the range that holds an index

pub held_each : (P : Range → Type 0) (m : List Range) (index : ℕ) (r : Range) → AllByRecursion P m → holding m index ≡ Some r → P r × (r.first ≤ index) × (index ≤ r.last)
held_each P [] index r each held = absurd (cc)
held_each P (s ∷ m) index r each held = elim (cases_Bool (holds index s)) [
  | inl here ↦
      (let same : s ≡ r = (let at = rw here at held in cc) in
      let is = holds_is s index here in
      subst (λ (x : Range). P x × (x.first ≤ index) × (index ≤ x.last)) same (each.0, is.0, is.1))
  | inr behind ↦ held_each P m index r each.1 (rw behind at held)
]

-- ---- a store over exactly one range

store_exact : (r : Range) (m : List Range) (low entry : ℕ) → IsMapFrom low (r ∷ m) → over (r ∷ m) r.first r.last entry ≡ part_stored r.first r.last entry ++ m
store_exact r m low entry ordered =
    let ends = ordered.1 in
    let below = no_part_below m (r.last + 1) r.first (omega arith) ordered.3 in
    let above = all_parts_above m (r.last + 1) r.last (omega arith) ordered.3 in
    rw (le-ltb r.first r.first (omega arith), le-ltb r.last r.last (omega arith)) (λ i. below i ++ (part_stored r.first r.last entry ++ above i))

-- what is left without a range is what a store of no entry over it leaves
pub without_is_store : (m : List Range) (low index : ℕ) (r : Range) → IsMapFrom low m → holding m index ≡ Some r → without m index ≡ over m r.first r.last 0
without_is_store [] low index r ordered held = absurd (cc)
without_is_store (s ∷ m) low index r ordered held = elim (cases_Bool (holds index s)) [
  | inl here ↦
      (let same : s ≡ r = (let at = rw here at held in cc) in
      let is = holds_is s index here in
      let to = is.1 in
      let whole : without (s ∷ m) index ≡ m = rw here (without_above m (s.last + 1) index (omega arith) ordered.3) in
      subst (λ (x : Range). without (s ∷ m) index ≡ over (s ∷ m) x.first x.last 0) same (whole ∙ sym (store_exact s m low 0 ordered)))
  | inr behind ↦
      (let at = rw behind at held in
      let begins = held_from m (s.last + 1) index r ordered.3 at in
      let lies = held_each (λ (x : Range). Unit {0}) m index r (any m) at in
      let from = lies.1 in let to = lies.2 in
      let less : without (s ∷ m) index ≡ s ∷ without m index = rw behind refl in
      less ∙ (ap (λ (l : List Range). s ∷ l) (without_is_store m (s.last + 1) index r ordered.3 at) ∙ sym (store_behind s m r.first r.last 0 ordered.1 (omega arith) (omega arith))))
]
  where
    any : (l : List Range) → AllByRecursion (λ (x : Range). Unit {0}) l
    any [] = tt
    any (x ∷ l) = (tt, any l)
