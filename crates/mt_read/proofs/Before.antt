-- The place before another, and what a leaf tells of the last range before an index.
use Rattle.mt_read.proofs.Prelude.{◌≡◌, ◌≢◌, ℕ, suc, ◌+◌, ◌-◌, ◌<◌, true, List, length, nat_lt, Some, sym, ap, ◌∙◌, arith, lt-ltb, slice_index, get_or_from_slice_get, slice_get-get_or, slice_get_within, Span, pivot_column, items_at, slots_of, gaps_of, length-spans_from, Held, copy_of, span_in_slot, span_at, no_span, StandsIn, fills_first, fills_next, stands_in, base_of, PassPart, here, kind_of, spans_here, Row, SlotPlace, IsOnRow, IsPlaceIn}

-- ---- the first place

pub first_place : (q : PassPart) (row : Row) (place : SlotPlace) → IsOnRow q row → IsPlaceIn q place → place.slot ≡ 0 → place.first ≡ row.min
first_place q row place on is zero =
    let spans = spans_here q (here q) in
    let at : span_at spans place.slot ≡ record { first = place.first; last = place.last; word = is.word } = get_or_from_slice_get spans place.slot _ no_span is.stands in
    let inside = slice_get_within spans place.slot _ is.stands in
    sym (ap (λ (y : Span). y.first) at) ∙ (ap (λ (n : ℕ). (span_at spans n).first) zero ∙ (fills_first (here q).extent.first ((here q).extent.last + 1) spans on.shape.fills (omega arith) ∙ sym on.min))

-- ---- the place before

module _ (q : PassPart) (row : Row) (place : SlotPlace) (on : IsOnRow q row) (is : IsPlaceIn q place) (more : place.slot ≢ 0) where
  abbrev x : Held
  x = here q

  abbrev spans : List Span
  spans = spans_here q x

  abbrev slots : ℕ
  slots = slots_of x.width (kind_of q x)

  abbrev gaps : ℕ
  gaps = gaps_of x.width (kind_of q x)

  inside : place.slot < length spans
  inside = slice_get_within spans place.slot _ is.stands

  pub used : place.slot < slots
  used = (span_in_slot q.shape.kind (copy_of x) x.row place.slot x.extent _ is.stands).0

  there : (slot : ℕ) → slot + 1 ≡ place.slot → (span_at spans slot).last + 1 ≡ place.first
  there slot next =
      let at : suc slot ≡ place.slot = omega arith in
      let deep = inside in
      let same : span_at spans place.slot ≡ record { first = place.first; last = place.last; word = is.word } = get_or_from_slice_get spans place.slot _ no_span is.stands in
      sym (fills_next x.extent.first (x.extent.last + 1) spans slot on.shape.fills (omega arith)) ∙ (ap (λ (n : ℕ). (span_at spans n).first) at ∙ ap (λ (y : Span). y.first) same)

  pub first_some : place.first ≢ 0
  first_some none = let e = there (place.slot - 1) (omega arith) in absurd (omega arith)

  before : (slot first last : ℕ) → slot + 1 ≡ place.slot → last + 1 ≡ place.first → first ≡ (span_at spans slot).first → IsPlaceIn q (record { slot = slot; first = first; last = last })
  before slot first last next end start =
      let e = there slot next in let deep = inside in
      let last_is : (span_at spans slot).last ≡ last = omega arith in
      record {
        word = (span_at spans slot).word;
        stands = slice_get-get_or spans slot no_span (omega arith) ∙ (λ i. Some (record { first = sym start i; last = last_is i; word = (span_at spans slot).word }));
      }

  pub first_before : (slot last : ℕ) → slot + 1 ≡ place.slot → last + 1 ≡ place.first → slot ≡ 0 → IsPlaceIn q (record { slot = slot; first = row.min; last = last })
  first_before slot last next end zero =
      let deep = inside in
      before slot row.min last next end (on.min ∙ (sym (fills_first x.extent.first (x.extent.last + 1) spans on.shape.fills (omega arith)) ∙ ap (λ (n : ℕ). (span_at spans n).first) (sym zero)))

  pub pivot_before : (slot last pivot : ℕ) → slot + 1 ≡ place.slot → last + 1 ≡ place.first → slot ≢ 0 → pivot ≡ slice_index x.copy (base_of (copy_of x) x.row + slot) → IsPlaceIn q (record { slot = slot; first = pivot + 1; last = last })
  pivot_before slot last pivot next end some found =
      let low = used in let deep = inside in
      let s = slot - 1 in
      let items = items_at slots gaps x.copy (base_of (copy_of x) x.row) x.extent.last in
      let long = length-spans_from x.extent.first items in
      let stands : StandsIn slots gaps x.copy (base_of (copy_of x) x.row) x.extent.last s (span_at spans s) =
      stands_in slots gaps x.copy (base_of (copy_of x) x.row) x.extent.last slots 0 x.extent.first s s (omega arith) (omega arith) (omega arith) in
      let test : nat_lt (s + 1) slots ≡ true = lt-ltb (s + 1) slots (omega arith) in
      let column : pivot_column s ≡ slot = omega arith in
      let ends : (span_at spans s).last ≡ pivot = stands.last ∙ (rw test (ap (λ (n : ℕ). slice_index x.copy (base_of (copy_of x) x.row + n)) column) ∙ sym found) in
      let at : suc s ≡ slot = omega arith in
      before slot (pivot + 1) last next end
      (ap (λ (n : ℕ). n + 1) (sym ends) ∙ (sym (fills_next x.extent.first (x.extent.last + 1) spans s on.shape.fills (omega arith)) ∙ ap (λ (n : ℕ). (span_at spans n).first) at))
