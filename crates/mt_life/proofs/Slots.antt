-- Rows of the same form have the same slots, with their own words.
use Rattle.mt_life.proofs.Prelude.{◌≡◌, ℕ, zero, suc, ◌+◌, ◌<◌, ◌==◌, List, [], ◌∷◌, nat_le, Some, None, refl, sym, ap, ◌∙◌, subst, inl, inr, arith, slice_index, slice_get, cases_Bool, slice_get_within, Kind, Width, slots_of, gaps_of, pivot_column, slot_column, items_from, items_at, Span, spans_from, few_items, length-spans_from, Table, base_of, column, kind_at, Extent, spans_at, SameForm}

-- the spans with these words from the i-th on
abbrev reword : (ℕ → ℕ) → ℕ → List Span → List Span
reword f i [] = []
reword f i (x ∷ xs) = record { first = x.first; last = x.last; word = f i } ∷ reword f (i + 1) xs

get_reworded : (f : ℕ → ℕ) (i k : ℕ) (xs : List Span) (x : Span) → slice_get xs k ≡ Some x → slice_get (reword f i xs) k ≡ Some (record { first = x.first; last = x.last; word = f (i + k) })
get_reworded f i k [] x at = let none : None ≡ Some x = at in absurd cc
get_reworded f i zero (y ∷ xs) x at =
    let same : y ≡ x = cc in
    let here : i ≡ i + 0 = omega arith in
    λ j. Some (record { first = (same j).first; last = (same j).last; word = f (here j) })
get_reworded f i (suc k) (y ∷ xs) x at =
    let next : (i + 1) + k ≡ i + suc k = omega arith in
    subst (λ (n : ℕ). slice_get (reword f (i + 1) xs) k ≡ Some (record { first = x.first; last = x.last; word = f n })) next (get_reworded f (i + 1) k xs x at)

module _ (slots gaps base : ℕ) (w w' : List ℕ) (same : (c : ℕ) → 0 < c → c < slots → slice_index w' (base + c) ≡ slice_index w (base + c)) where
  abbrev words : ℕ → ℕ
  words i = slice_index w' (base + slot_column slots i)

  reworded : (first max left i : ℕ) → left + i ≡ slots → spans_from first (items_from slots gaps w' base max left i) ≡ reword words i (spans_from first (items_from slots gaps w base max left i))
  reworded first max zero i sum = refl
  reworded first max (suc zero) i sum = refl
  reworded first max (suc (suc left)) i sum =
      let pivot = same (pivot_column i) (omega arith) (omega arith) in
      rw pivot (elim (cases_Bool (nat_le max (slice_index w (base + pivot_column i)))) [
        | inl ends ↦ rw ends refl
        | inr more ↦ rw more (
            ap (λ (xs : List Span). record { first = first; last = slice_index w (base + pivot_column i); word = words i } ∷ xs)
            (reworded (slice_index w (base + pivot_column i) + 1) max (suc left) (i + 1) (omega arith)))
      ])

-- tables that agree on a row's pivots have the same slots in it
same_slots : (kind : Kind) (width : Width) (w w' : List ℕ) (row i : ℕ) (e : Extent) (x : Span)
    → let t : Table = record { width = width; words = w } in let t' : Table = record { width = width; words = w' } in
    ((c : ℕ) → 0 < c → c < slots_of width (kind_at kind e.level) → column t' row c ≡ column t row c) → slice_get (spans_at kind t row e) i ≡ Some x
    → slice_get (spans_at kind t' row e) i ≡ Some (record { first = x.first; last = x.last; word = column t' row (slot_column (slots_of width (kind_at kind e.level)) i) })
same_slots kind width w w' row i e x pivots at =
    let t : Table = record { width = width; words = w } in
    let t' : Table = record { width = width; words = w' } in
    let slots = slots_of width (kind_at kind e.level) in
    let gaps = gaps_of width (kind_at kind e.level) in
    let word : ℕ → ℕ = λ n. column t' row (slot_column slots n) in
    let all : spans_at kind t' row e ≡ reword word 0 (spans_at kind t row e) = reworded slots gaps (base_of t row) w w' pivots e.first e.last slots 0 (omega arith) in
    let here : 0 + i ≡ i = omega arith in
    ap (λ (xs : List Span). slice_get xs i) all ∙ (get_reworded word 0 i (spans_at kind t row e) x at ∙ ap (λ (n : ℕ). Some (record { first = x.first; last = x.last; word = word n })) here)

-- a span of a row stands in one of the row's slots, and has the slot's word
pub span_in_slot : (kind : Kind) (t : Table) (row i : ℕ) (e : Extent) (x : Span) → slice_get (spans_at kind t row e) i ≡ Some x
    → (i < slots_of t.width (kind_at kind e.level)) × (x.word ≡ column t row (slot_column (slots_of t.width (kind_at kind e.level)) i))
span_in_slot kind t row i e x at =
    let slots = slots_of t.width (kind_at kind e.level) in
    let gaps = gaps_of t.width (kind_at kind e.level) in
    let again = same_slots kind t.width t.words t.words row i e x (λ c above low. refl) at in
    let same : Some x ≡ Some (record { first = x.first; last = x.last; word = column t row (slot_column slots i) }) = sym at ∙ again in
    let one : x ≡ record { first = x.first; last = x.last; word = column t row (slot_column slots i) } = cc in (
      (let inside = slice_get_within (spans_at kind t row e) i x at in
          let long = length-spans_from e.first (items_at slots gaps t.words (base_of t row) e.last) in
          let few = few_items slots gaps t.words (base_of t row) e.last slots 0 in omega arith),
      ap (λ (y : Span). y.word) one,
    )

-- rows of the same form have the same slots
pub slot_of_form : (kind : Kind) (t t' : Table) (row i : ℕ) (e : Extent) (x : Span) → t'.width ≡ t.width → SameForm t t' (kind_at kind e.level) row → slice_get (spans_at kind t row e) i ≡ Some x
    → slice_get (spans_at kind t' row e) i ≡ Some (record { first = x.first; last = x.last; word = column t' row (slot_column (slots_of t'.width (kind_at kind e.level)) i) })
slot_of_form kind t t' row i e x wide form at =
    subst (λ (w : Width). let t' : Table = record { width = w; words = t'.words } in
    slice_get (spans_at kind t' row e) i ≡ Some (record { first = x.first; last = x.last; word = column t' row (slot_column (slots_of w (kind_at kind e.level)) i) })) (sym wide)
    (same_slots kind t.width t.words t'.words row i e x
    (λ c above low. subst (λ (w : Width). column (record { width = w; words = t'.words }) row c ≡ column t row c) wide ((form c above (omega arith)).0 low)) at)

-- and holes in the same of them
pub hole_of_form : (kind : Kind) (t t' : Table) (row i : ℕ) (e : Extent) (x x' : Span) → t'.width ≡ t.width → SameForm t t' (kind_at kind e.level) row
    → slice_get (spans_at kind t row e) i ≡ Some x → slice_get (spans_at kind t' row e) i ≡ Some x' → (x'.word == 0) ≡ (x.word == 0)
hole_of_form kind t t' row i e x x' wide form at at' =
    let kind_here = kind_at kind e.level in
    let old = span_in_slot kind t row i e x at in
    let new = span_in_slot kind t' row i e x' at' in
    let slots : slots_of t'.width kind_here ≡ slots_of t.width kind_here = ap (λ (w : Width). slots_of w kind_here) wide in
    let word : x'.word ≡ column t' row (slot_column (slots_of t.width kind_here) i) = new.1 ∙ ap (λ (n : ℕ). column t' row (slot_column n i)) slots in
    let low = old.0 in
    ap (λ (n : ℕ). n == 0) word ∙ ((form (slot_column (slots_of t.width kind_here) i) (omega arith) (omega arith)).1 ∙ ap (λ (n : ℕ). n == 0) (sym old.1))
