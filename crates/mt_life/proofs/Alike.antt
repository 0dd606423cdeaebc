-- What stands in a row of an extent, by its pivots and slots alone.
use Rattle.mt_life.proofs.Prelude.{◌≡◌, ℕ, zero, suc, ◌+◌, ◌*◌, ◌<◌, ◌≤◌, ◌∙◌, List, [], ◌∷◌, length, ap, subst, sym, refl, Some, Option, arith, nat_le, inl, inr, slice_index, cases_Bool, Kind, Width, columns, greatest, RowKind, row_in, named_kind, slots_of, gaps_of, pivot_column, slot_column, items_from, Span, spans_from, Fills, Apart, EndsFull, slots_of-columns, Table, column, spans_by, spans_in, kind_at, Extent, extent_at, spans_at, Shape}

-- a row that is named as one of its level has the spans of its extent
pub spans_named : (kind : Kind) (t : Table) (level : ℕ) (x : Span) → named_kind x.word ≡ Some (kind_at kind level) → spans_at kind t (row_in x.word) (extent_at x level) ≡ spans_in t x
spans_named kind t level x named = subst (λ (o : Option RowKind). spans_at kind t (row_in x.word) (extent_at x level) ≡ spans_by t o x) (sym named) refl

-- the two agree on the pivots and slots of a row of this kind
abbrev pub SameSlots : Table → Table → RowKind → ℕ → Type 0
SameSlots t t' kind row = (c : ℕ) → 0 < c → c < 2 * slots_of t.width kind → column t' row c ≡ column t row c

pub two_slots : (width : Width) (kind : RowKind) (c : ℕ) → c < 2 * slots_of width kind → c < columns width
two_slots width kind c low = omega (arith, slots_of-columns width kind)

module _ (slots gaps base : ℕ) (w w' : List ℕ) (same : (c : ℕ) → 0 < c → c < 2 * slots → slice_index w' (base + c) ≡ slice_index w (base + c)) where
  from : (first max left i : ℕ) → left + i ≡ slots → spans_from first (items_from slots gaps w' base max left i) ≡ spans_from first (items_from slots gaps w base max left i)
  from first max zero i s = refl
  from first max (suc zero) i s = ap (λ (n : ℕ). record { first = first; last = max; word = n } ∷ []) (same (slot_column slots i) (omega arith) (omega arith))
  from first max (suc (suc left)) i s =
      let pivot = same (pivot_column i) (omega arith) (omega arith) in
      let slot = same (slot_column slots i) (omega arith) (omega arith) in
      rw pivot (elim (cases_Bool (nat_le max (slice_index w (base + pivot_column i)))) [
        | inl ends ↦ rw ends (ap (λ (n : ℕ). record { first = first; last = slice_index w (base + pivot_column i); word = n } ∷ []) slot)
        | inr more ↦ rw more (
            let behind = from (slice_index w (base + pivot_column i) + 1) max (suc left) (i + 1) (omega arith) in
            λ j. record { first = first; last = slice_index w (base + pivot_column i); word = slot j } ∷ behind j)
      ])

-- tables of one width that agree on a row's pivots and slots have the same spans in it
pub same_spans_at : (kind : Kind) (width width' : Width) (w w' : List ℕ) (row : ℕ) (e : Extent) → width' ≡ width
    → SameSlots (record { width = width; words = w }) (record { width = width'; words = w' }) (kind_at kind e.level) row
    → spans_at kind (record { width = width'; words = w' }) row e ≡ spans_at kind (record { width = width; words = w }) row e
same_spans_at kind width width' w w' row e one =
    subst (λ (v : Width). SameSlots (record { width = width; words = w }) (record { width = v; words = w' }) (kind_at kind e.level) row
    → spans_at kind (record { width = v; words = w' }) row e ≡ spans_at kind (record { width = width; words = w }) row e) (sym one)
    (λ same. let slots : ℕ = slots_of width (kind_at kind e.level) in from slots (gaps_of width (kind_at kind e.level)) (columns width * row) w w' same e.first e.last slots 0 (omega arith))

pub shape_moves : (kind : Kind) (t t' : Table) (row : ℕ) (e : Extent) → t'.width ≡ t.width → spans_at kind t' row e ≡ spans_at kind t row e → SameSlots t t' (kind_at kind e.level) row → Shape kind t row e → Shape kind t' row e
shape_moves kind t t' row e width same slots shape = record {
  fills = subst (Fills e.first (e.last + 1)) (sym same) shape.fills;
  apart = λ leaf. subst Apart (sym same) (shape.apart leaf);
  ends = λ leaf low. subst EndsFull (sym same) (shape.ends leaf (subst (λ (w : Width). e.last < greatest w) width low));
  unused = λ i inner behind.
      let inner' : i + 1 < slots_of t.width (kind_at kind e.level) = subst (λ (w : Width). i + 1 < slots_of w (kind_at kind e.level)) width inner in
      slots (pivot_column i) (omega arith) (omega arith) ∙ shape.unused i inner' (subst (λ (xs : List Span). length xs ≤ i) same behind);
}
