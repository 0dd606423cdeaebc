-- The items of a row are in its own columns.
use Rattle.mt_layout.proofs.Prelude.{◌≡◌, ℕ, zero, suc, ◌+◌, ◌<◌, List, [], ◌∷◌, refl, sym, ap, ◌∙◌, ⊎_elim, arith, cases_eq, slice_index, Item, IsLayout, pivot_column, slot_column, gap_column, gap_at, item_at, items_from, items_at}
use Rattle.mt_layout.proofs.Reading.{gap_at-none, gap_at-some}
use Rattle.mt_layout.proofs.RowSizes.{slots-fit, all_gaps}

module _ (words slots gaps base base' : ℕ) (w w' : List ℕ) (layout : IsLayout words slots gaps)
    (same : (c : ℕ) → 0 < c → c < words → slice_index w (base + c) ≡ slice_index w' (base' + c)) where
  same_pivot : (i : ℕ) → i + 1 < slots → slice_index w (base + pivot_column i) ≡ slice_index w' (base' + pivot_column i)
  same_pivot i h = same (pivot_column i) (omega arith) (omega (arith, slots-fit words slots gaps layout))

  same_slot : (i : ℕ) → i < slots → slice_index w (base + slot_column slots i) ≡ slice_index w' (base' + slot_column slots i)
  same_slot i h = same (slot_column slots i) (omega arith) (omega (arith, slots-fit words slots gaps layout))

  same_gap : (i : ℕ) → i < slots → gap_at slots gaps w base i ≡ gap_at slots gaps w' base' i
  same_gap i h =
      ⊎_elim
      (λ (none : gaps ≡ 0). gap_at-none slots gaps w base i none ∙ sym (gap_at-none slots gaps w' base' i none))
      (λ (some : gaps ≡ 0 → ⊥).
      gap_at-some slots gaps w base i some
      ∙ (same (gap_column slots i) (omega arith) (omega (arith, slots-fit words slots gaps layout, all_gaps words slots gaps layout))
      ∙ sym (gap_at-some slots gaps w' base' i some)))
      (cases_eq gaps 0)

  same_item : (i last : ℕ) → i < slots → item_at slots gaps w base i last ≡ item_at slots gaps w' base' i last
  same_item i last h = rw (same_slot i h, same_gap i h) refl

  same_items_from : (max left i : ℕ) → left + i ≡ slots → items_from slots gaps w base max left i ≡ items_from slots gaps w' base' max left i
  same_items_from max zero i s = refl
  same_items_from max (suc zero) i s = ap (λ (x : Item). x ∷ []) (same_item i max (omega arith))
  same_items_from max (suc (suc left)) i s = rw (same_pivot i (omega arith), same_item i _ (omega arith), same_items_from max (suc left) (i + 1) (omega arith)) refl

  pub same_items : (max : ℕ) → items_at slots gaps w base max ≡ items_at slots gaps w' base' max
  same_items max = same_items_from max slots 0 (omega arith)
