-- The gap words of a row, those of slots in which nothing stands among them.
use Rattle.mt_gap.proofs.Prelude.{◌≡◌, ℕ, zero, suc, ◌+◌, ◌-◌, ◌<◌, ◌≤◌, List, [], ◌∷◌, length, max, refl, sym, ◌∙◌, arith, slice_index, columns, Item, Gapped, gap_column, items_at, row_words, slots_of, gaps_of, few_items, gap_at-some, layout_of, all_gaps_of, some_gaps_of, gap_within, item_or, get_or-padded, used, used-gap, PathStep, Table, base_of, column, children_from, row_children, longest_gap, most_gap, told_by, MayTell, gap_in}

-- ---- of items, and behind them

abbrev most_item : List Item → ℕ → ℕ
most_item items zero = 0
most_item items (suc n) = max (most_item items n) (item_or items n).gap

none_most : (n : ℕ) → most_item [] n ≡ 0
none_most zero = refl
none_most (suc n) = let rest = none_most n in omega arith

more_most : (x : Item) (items : List Item) (n : ℕ) → most_item (x ∷ items) (suc n) ≡ max x.gap (most_item items n)
more_most x items zero = omega arith
more_most x items (suc n) = let rest = more_most x items n in omega arith

longest_most : (first : ℕ) (items : List Item) (n : ℕ) → length items ≤ n → longest_gap (children_from first items) ≡ most_item items n
longest_most first [] n few = sym (none_most n)
longest_most first (x ∷ items) zero few = absurd (omega arith)
longest_most first (x ∷ items) (suc n) few =
    let rest = longest_most (x.last + 1) items n (omega arith) in let more = more_most x items n in omega arith

-- ---- of a row

module _ (t : Table) (row max : ℕ) where
  abbrev slots : ℕ
  slots = slots_of t.width Gapped

  abbrev gaps : ℕ
  gaps = gaps_of t.width Gapped

  abbrev items : List Item
  items = items_at slots gaps t.words (base_of t row) max

  module _ (unused : (c : ℕ) → c < columns t.width → column t row c ≡ slice_index (row_words (columns t.width) slots gaps (column t row 0) items) c) where
    fit : length items ≤ slots
    fit = few_items slots gaps t.words (base_of t row) max slots 0

    gap_is : (k : ℕ) → k < slots → gap_in t Gapped row k ≡ (item_or items k).gap
    gap_is k low =
        let words = used (columns t.width) slots gaps (column t row 0) items (layout_of t.width Gapped) fit in
        gap_at-some slots gaps t.words (base_of t row) k (some_gaps_of t.width)
        ∙ (unused (gap_column slots k) (gap_within t.width k low)
        ∙ (get_or-padded words (columns t.width - length words) (gap_column slots k) ∙ used-gap (columns t.width) slots gaps (column t row 0) items (layout_of t.width Gapped) fit k (omega (arith, low, all_gaps_of t.width))))

    most_is : (n : ℕ) → n ≤ slots → most_gap t row n ≡ most_item items n
    most_is zero low = refl
    most_is (suc n) low = let rest = most_is n (omega arith) in let here = gap_is n (omega arith) in omega arith

    pub tells_all : (first : ℕ) → longest_gap (row_children t row Gapped first max) ≡ most_gap t row slots
    tells_all first = longest_most first items slots fit ∙ sym (most_is slots (omega arith))

pub gapped_tells : (t : Table) (s : PathStep) (n : ℕ) → MayTell Gapped t s → n ≡ most_gap t s.row (slots_of t.width Gapped) → n ≡ told_by Gapped t s
gapped_tells t s n tells is = is ∙ sym tells
