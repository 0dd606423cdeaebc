-- What stands in a slot of a row, by the row's items.
use Rattle.mt_check.proofs.Prelude.{◌≡◌, ◌≢◌, ℕ, zero, suc, ◌+◌, ◌-◌, ◌<◌, List, [], ◌∷◌, Some, length, get_or, refl, subst, arith, slice_get, Item, RiseFrom, spans_from}

pub first_span : (first : ℕ) (items : List Item) (d : Item) → 0 < length items → Some (record { first = first; last = (get_or items 0 d).last; word = (get_or items 0 d).word }) ≡ slice_get (spans_from first items) 0
first_span first [] d some = absurd (omega arith)
first_span first (x ∷ items) d some = refl

pub next_span : (first k : ℕ) (items : List Item) (d : Item) → suc k < length items
    → Some (record { first = (get_or items k d).last + 1; last = (get_or items (suc k) d).last; word = (get_or items (suc k) d).word }) ≡ slice_get (spans_from first items) (suc k)
next_span first k [] d within = absurd (omega arith)
next_span first zero (x ∷ []) d within = absurd (omega arith)
next_span first zero (x ∷ y ∷ items) d within = refl
next_span first (suc k) (x ∷ items) d within = next_span (x.last + 1) k items d (omega arith)

pub next_above : (first k : ℕ) (items : List Item) (d : Item) → RiseFrom first items → suc k < length items → (get_or items k d).last < (get_or items (suc k) d).last
next_above first k [] d rise within = absurd (omega arith)
next_above first zero (x ∷ []) d rise within = absurd (omega arith)
next_above first zero (x ∷ y ∷ items) d rise within = let next = rise.1.0 in omega arith
next_above first (suc k) (x ∷ items) d rise within = next_above (x.last + 1) k items d rise.1 (omega arith)

-- in any slot but the first
pub slot_span : (first slot : ℕ) (items : List Item) (d : Item) → slot ≢ 0 → slot < length items
    → Some (record { first = (get_or items (slot - 1) d).last + 1; last = (get_or items slot d).last; word = (get_or items slot d).word }) ≡ slice_get (spans_from first items) slot
slot_span first zero items d some within = absurd (some refl)
slot_span first (suc k) items d some within =
    let before : k ≡ suc k - 1 = omega arith in
    subst (λ (n : ℕ). Some (record { first = (get_or items n d).last + 1; last = (get_or items (suc k) d).last; word = (get_or items (suc k) d).word }) ≡ slice_get (spans_from first items) (suc k)) before (next_span first k items d within)

pub span_fits : (first slot : ℕ) (items : List Item) (d : Item) → RiseFrom first items → slot ≢ 0 → slot < length items → (get_or items (slot - 1) d).last < (get_or items slot d).last
span_fits first zero items d rise some within = absurd (some refl)
span_fits first (suc k) items d rise some within =
    let before : k ≡ suc k - 1 = omega arith in
    subst (λ (n : ℕ). (get_or items n d).last < (get_or items (suc k) d).last) before (next_above first k items d rise within)
