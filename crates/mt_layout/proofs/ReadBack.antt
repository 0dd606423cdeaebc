-- The words of a row, read back, give its items.
use Rattle.mt_layout.proofs.Prelude.{◌≡◌, ℕ, zero, suc, ◌+◌, ◌<◌, ◌≤◌, true, false, List, [], ◌∷◌, drop, length, get_or, refl, sym, ap, ◌∙◌, ⊎_elim, arith, zero-add, lt-ltb, le-ltb, ◌-◌, cases_lt, cases_eq, drop_more, drop_all, nat_lt, Item, IsLayout, pivot_column, slot_column, gap_column, gap_at, items_from, items_at, row_words, RiseFrom, end_of, FitRow}
use Rattle.mt_layout.proofs.Reading.{gap_at-none, gap_at-some, IsItem, ends, goes_on}
use Rattle.mt_layout.proofs.RowWords.{item_or, used, used-pivot, used-slot, used-gap, get_or-padded, get_or-zeros, get_or-field}
use Rattle.mt_layout.proofs.RowSizes.{all_gaps}
use Rattle.mt_layout.proofs.SpanLists.{last_ends}

-- ---- where items end

-- the last of them ends where they end
end_of-last : (items : List Item) (d k : ℕ) → k + 1 ≡ length items → end_of d items ≡ (item_or items k).last
end_of-last items d k h = sym (last_ends (record { last = 0; word = 0; gap = 0 }) k d items h)

min_le-end_of : (items : List Item) (d min : ℕ) → 0 < length items → RiseFrom min items → min ≤ end_of d items
min_le-end_of [] d min h rise = absurd (omega arith)
min_le-end_of (x ∷ []) d min h rise = rise.0
min_le-end_of (x ∷ y ∷ items) d min h rise = omega (arith, rise.0, min_le-end_of (y ∷ items) x.last (x.last + 1) (omega arith) rise.1)

-- each other ends below
last_lt-end_of : (items : List Item) (d min k : ℕ) → RiseFrom min items → k + 1 < length items → (item_or items k).last < end_of d items
last_lt-end_of [] d min k rise h = absurd (omega arith)
last_lt-end_of (x ∷ items) d min zero rise h = omega (arith, min_le-end_of items x.last (x.last + 1) (omega arith) rise.1)
last_lt-end_of (x ∷ items) d min (suc k) rise h = last_lt-end_of items x.last (x.last + 1) k rise.1 (omega arith)

-- ---- the items, read back

-- the columns of a row hold these items
pub record Holds (slots gaps : ℕ) (w : List ℕ) (base : ℕ) (items : List Item) : Type 0 where
  pub pivots : (k : ℕ) → k + 1 < slots → get_or w (base + pivot_column k) 0 ≡ (item_or items k).last
  pub words : (k : ℕ) → k < slots → get_or w (base + slot_column slots k) 0 ≡ (item_or items k).word
  pub holes : (k : ℕ) → k < slots → gap_at slots gaps w base k ≡ (item_or items k).gap

module _ (slots gaps : ℕ) (w : List ℕ) (base : ℕ) (items : List Item) (fit : length items ≤ slots) (rise : RiseFrom 0 items) (holds : Holds slots gaps w base items) where
  abbrev max : ℕ
  max = end_of 0 items

  is_item : (i : ℕ) → i < length items → IsItem slots gaps w base max i (item_or items i)
  is_item i h =
      let x = item_or items i in (
        rw (holds.words i (omega arith), holds.holes i (omega arith)) refl,
        ⊎_elim
            (λ (inner : i + 1 < slots). let test : nat_lt (i + 1) slots ≡ true = lt-ltb (i + 1) slots inner in rw test (sym (holds.pivots i inner)))
            (λ (last : slots ≤ i + 1). let test : nat_lt (i + 1) slots ≡ false = le-ltb (i + 1) slots last in rw test (sym (end_of-last items 0 i (omega arith))))
            (cases_lt (i + 1) slots),
      )

  reads_back_from : (left i : ℕ) → left + i ≡ slots → i < length items → items_from slots gaps w base max left i ≡ drop i items
  reads_back_from zero i s h = absurd (omega arith)
  reads_back_from (suc left) i s h =
      ⊎_elim
      (λ (more : i + 1 < length items).
      goes_on slots gaps w base max left i (item_or items i) s (is_item i h) (last_lt-end_of items 0 0 i rise more)
      ∙ (ap (λ (rest : List Item). item_or items i ∷ rest) (reads_back_from left (i + 1) (omega arith) more)
      ∙ sym (drop_more items i _ h)))
      (λ (last : length items ≤ i + 1).
      ends slots gaps w base max (suc left) i (item_or items i) s (omega arith) (is_item i h) (omega (arith, end_of-last items 0 i (omega arith)))
      ∙ (ap (λ (rest : List Item). item_or items i ∷ rest) (sym (drop_all (i + 1) items last))
      ∙ sym (drop_more items i _ h)))
      (cases_lt (i + 1) (length items))

  pub reads_back : 0 < length items → items_at slots gaps w base max ≡ items
  reads_back h = reads_back_from slots 0 (omega arith) h

-- no item of a row without gaps has one
no_gap : (slots gaps : ℕ) (items : List Item) → FitRow slots gaps items → gaps ≡ 0 → (k : ℕ) → (item_or items k).gap ≡ 0
no_gap slots gaps items fits none k =
    sym (get_or-field (λ x. x.gap) refl items k)
    ∙ (ap (λ (xs : List ℕ). get_or xs k 0) (fits.no_gaps none) ∙ get_or-zeros (length items) k)

pub row_words-hold : (all slots gaps parent : ℕ) (items : List Item) → IsLayout all slots gaps → FitRow slots gaps items → Holds slots gaps (row_words all slots gaps parent items) 0 items
row_words-hold all slots gaps parent items layout fits =
    let column = λ (c : ℕ). ap (λ (n : ℕ). get_or (row_words all slots gaps parent items) n 0) (zero-add c) ∙ get_or-padded (used all slots gaps parent items layout fits.fit) (all - length (used all slots gaps parent items layout fits.fit)) c in
    record {
      pivots = λ k h. column (pivot_column k) ∙ used-pivot all slots gaps parent items layout fits.fit k h;
      words = λ k h. column (slot_column slots k) ∙ used-slot all slots gaps parent items layout fits.fit k h;
      holes = λ k h. ⊎_elim
          (λ (none : gaps ≡ 0). gap_at-none slots gaps (row_words all slots gaps parent items) 0 k none ∙ sym (no_gap slots gaps items fits none k))
          (λ (some : gaps ≡ 0 → ⊥).
          gap_at-some slots gaps (row_words all slots gaps parent items) 0 k some
          ∙ (column (gap_column slots k)
          ∙ used-gap all slots gaps parent items layout fits.fit k (omega (arith, all_gaps all slots gaps layout))))
          (cases_eq gaps 0);
    }
