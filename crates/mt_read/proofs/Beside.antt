-- The place behind another, as the code finds it.
use Rattle.mt_read.proofs.Prelude.{◌≡◌, ◌≢◌, ℕ, suc, ◌+◌, ◌<◌, List, [], ◌∷◌, ◌++◌, true, false, length, nat_lt, Some, refl, sym, ap, ◌∙◌, subst, arith, lt-ltb, le-ltb, slice_index, slice_get, slice_get_within, get_or_from_slice_get, get_parts, Span, pivot_column, items_at, slots_of, gaps_of, Fills, length-spans_from, Held, copy_of, span_in_slot, span_at, no_span, StandsIn, stands_in, base_of, PassPart, here, kind_of, spans_here, Row, SlotPlace, IsOnRow, IsPlaceIn}

get_seam : (front : List Span) (x y : Span) (back : List Span) (i : ℕ) → length front ≡ i → slice_get (front ++ (x ∷ y ∷ back)) (i + 1) ≡ Some y
get_seam [] x y back i at = let one : i + 1 ≡ suc 0 = omega arith in ap (slice_get (x ∷ y ∷ back)) one
get_seam (z ∷ front) x y back i at = let more : i + 1 ≡ suc (length front + 1) = omega arith in ap (slice_get (z ∷ (front ++ (x ∷ y ∷ back)))) more ∙ get_seam front x y back (length front) refl

some_behind : (hi : ℕ) (x : Span) (back : List Span) → Fills (x.last + 1) (hi + 1) back → x.last ≢ hi → (y : Span) × (rest : List Span) × (back ≡ y ∷ rest) × (y.first ≡ x.last + 1)
some_behind hi x [] fills more = absurd (more (omega arith))
some_behind hi x (y ∷ rest) fills more = (y, rest, refl, fills.0)

fills_back : (lo hi : ℕ) (front : List Span) (x : Span) (back : List Span) → Fills lo hi (front ++ (x ∷ back)) → Fills (x.last + 1) hi back
fills_back lo hi [] x back fills = fills.2
fills_back lo hi (y ∷ front) x back fills = fills_back (y.last + 1) hi front x back fills.2

-- spans that fill the indexes: what stands behind one
next_span : (lo hi i : ℕ) (xs : List Span) (x : Span) → Fills lo (hi + 1) xs → slice_get xs i ≡ Some x → x.last ≢ hi → (y : Span) × (slice_get xs (i + 1) ≡ Some y) × (y.first ≡ x.last + 1)
next_span lo hi i xs x fills at more =
    let parts = get_parts xs i x at in
    let behind = some_behind hi x parts.1 (fills_back lo (hi + 1) parts.0 x parts.1 (subst (Fills lo (hi + 1)) parts.2 fills)) more in
    (behind.0, ap (λ (l : List Span). slice_get l (i + 1)) (parts.2 ∙ ap (λ (l : List Span). parts.0 ++ (x ∷ l)) behind.2) ∙ get_seam parts.0 x behind.0 behind.1 i parts.3, behind.3)

module _ (q : PassPart) (row : Row) (place : SlotPlace) (on : IsOnRow q row) (is : IsPlaceIn q place) (more : place.last ≢ (here q).extent.last) where
  abbrev x : Held
  x = here q

  abbrev slots : ℕ
  slots = slots_of x.width (kind_of q x)

  next : (y : Span) × (slice_get (spans_here q x) (place.slot + 1) ≡ Some y) × (y.first ≡ place.last + 1)
  next = next_span x.extent.first x.extent.last place.slot (spans_here q x) _ on.shape.fills is.stands more

  pub used : place.slot + 1 < slots
  used = (span_in_slot q.shape.kind (copy_of x) x.row (place.slot + 1) x.extent next.0 next.1).0

  stands : StandsIn slots (gaps_of x.width (kind_of q x)) x.copy (base_of (copy_of x) x.row) x.extent.last (place.slot + 1) next.0
  stands =
      let gaps = gaps_of x.width (kind_of q x) in
      let items = items_at slots gaps x.copy (base_of (copy_of x) x.row) x.extent.last in
      let inside = slice_get_within (spans_here q x) (place.slot + 1) next.0 next.1 in
      let long = length-spans_from x.extent.first items in
      let there : span_at (spans_here q x) (place.slot + 1) ≡ next.0 = get_or_from_slice_get (spans_here q x) (place.slot + 1) next.0 no_span next.1 in
      subst (StandsIn slots gaps x.copy (base_of (copy_of x) x.row) x.extent.last (place.slot + 1)) there
      (stands_in slots gaps x.copy (base_of (copy_of x) x.row) x.extent.last slots 0 x.extent.first (place.slot + 1) (place.slot + 1) (omega arith) (omega arith) (omega arith))

  behind : (slot first last : ℕ) → slot ≡ place.slot + 1 → first ≡ place.last + 1 → last ≡ next.0.last → IsPlaceIn q (record { slot = slot; first = first; last = last })
  behind slot first last is_slot is_first is_last = record {
    word = next.0.word;
    stands = (λ i. slice_get (spans_here q x) (is_slot i)) ∙ (next.1 ∙ (λ i. Some (record { first = (next.2 ∙ sym is_first) i; last = sym is_last i; word = next.0.word })));
  }

  -- the last slot has no pivot
  pub last_behind : (slot first last : ℕ) → slot ≡ place.slot + 1 → first ≡ place.last + 1 → slot + 1 ≡ slots → last ≡ x.extent.last → IsPlaceIn q (record { slot = slot; first = first; last = last })
  last_behind slot first last is_slot is_first end is_last =
      let test : nat_lt (place.slot + 1 + 1) slots ≡ false = le-ltb (place.slot + 1 + 1) slots (omega arith) in
      behind slot first last is_slot is_first (is_last ∙ sym (stands.last ∙ (rw test refl)))

  pub pivot_behind : (slot first last : ℕ) → slot ≡ place.slot + 1 → first ≡ place.last + 1 → slot + 1 < slots → last ≡ slice_index x.copy (base_of (copy_of x) x.row + pivot_column slot) → IsPlaceIn q (record { slot = slot; first = first; last = last })
  pivot_behind slot first last is_slot is_first inner is_last =
      let test : nat_lt (place.slot + 1 + 1) slots ≡ true = lt-ltb (place.slot + 1 + 1) slots (omega arith) in
      behind slot first last is_slot is_first (is_last ∙ (ap (λ (n : ℕ). slice_index x.copy (base_of (copy_of x) x.row + pivot_column n)) is_slot ∙ sym (stands.last ∙ (rw test refl))))
