-- Zeros serve as the words of a tree of which nothing was used.
use Rattle.mt_tree.proofs.Prelude.{◌≡◌, ℕ, ◌+◌, ◌*◌, ◌<◌, ◌≤◌, List, length, get_or, take, ⊎_elim, sym, ◌∙◌, refl, arith, All, slice_index, cases_eq, cases_lt, get_or_past, length-take-le, All-from_get_or, All-more, All-replicate, All-take, All-weaker, Kind, Width, columns, first_row, kind_width, new_sheet, AreOpening, root_at, first_row_column, table_size, AreZero}

zero_anywhere : (words : List ℕ) → AreZero words → (i : ℕ) → slice_index words i ≡ 0
zero_anywhere words zero i =
    ⊎_elim
    (λ (low : i < length words). zero i 0 low)
    (λ (past : length words ≤ i). get_or_past words i 0 past)
    (cases_lt i (length words))

module _ (width : Width) (rows : ℕ) where
  none_used : (i : ℕ) → slice_index (new_sheet width rows).tree.table.words i ≡ 0
  none_used = zero_anywhere (new_sheet width rows).tree.table.words (All-replicate (λ (word : ℕ). word ≡ 0) (columns width * (first_row + rows)) 0 refl)

  -- the words of an empty tree are zeros
  pub opened_zero : (words : List ℕ) → AreOpening (new_sheet width rows).tree words → AreZero words
  opened_zero words opening = All-from_get_or (λ (word : ℕ). word ≡ 0) words 0 (λ i low. each i)
    where
      each : (i : ℕ) → slice_index words i ≡ 0
      each i =
          ⊎_elim
          (λ (at : i ≡ root_at). rw at opening.root)
          (λ (other : i ≡ root_at → ⊥).
          ⊎_elim
          (λ (low : i < first_row_column width). opening.none i other low)
          (λ (high : first_row_column width ≤ i). opening.columns i high ∙ none_used i)
          (cases_lt i (first_row_column width)))
          (cases_eq i root_at)

  -- and so many zeros are the words of an empty tree
  pub zeros_open : (words : List ℕ) → AreZero words → table_size width rows ≤ length words → AreOpening (new_sheet width rows).tree (take (table_size width rows) words)
  zeros_open words zero enough =
      let first : List ℕ = take (table_size width rows) words in
      let each = zero_anywhere first (All-take (λ (word : ℕ). word ≡ 0) (table_size width rows) words zero) in
      record {
        size = length-take-le (table_size width rows) words enough;
        none = λ i other low. each i;
        root = each root_at;
        columns = λ i high. each i ∙ sym (none_used i);
      }

-- so many kinds have rows no longer than those of a width, and one more
pub one_more_within : (kinds : List Kind) (i : ℕ) (d : Kind) (width width' : Width) → i < length kinds → All (λ k. columns (kind_width k) ≤ columns width) (take i kinds)
    → columns width ≤ columns width' → columns (kind_width (get_or kinds i d)) ≤ columns width' → All (λ k. columns (kind_width k) ≤ columns width') (take (i + 1) kinds)
one_more_within kinds i d width width' low all more here =
    All-more (λ (k : Kind). columns (kind_width k) ≤ columns width') kinds i d low
    (All-weaker (λ (k : Kind). columns (kind_width k) ≤ columns width) (λ (k : Kind). columns (kind_width k) ≤ columns width') (λ k within. omega (arith, within, more)) (take i kinds) all)
    here
