-- The columns of a row that no item takes.
use Rattle.mt_check.proofs.Prelude.{◌≡◌, ◌≢◌, ℕ, zero, suc, ◌+◌, ◌-◌, ◌*◌, ◌<◌, ◌≤◌, ◌==◌, ◌&&◌, List, true, subst, false, min, length, get_or, refl, sym, ap, ◌∙◌, inl, inr, ⊎_elim, arith, zero-add, nat_eq, nat_le, slice_index, pointwise, same_from_decides, cases_Bool, cases_lt, cases_eq, and_parts, and_from, eqb-true, eq-eqb, ne_eqb, get_or_past, min-le_left, min-le_right, min-eq_left, columns, Item, RowKind, pivot_column, slot_column, gap_column, gap_at, item_at, items_from, slots_of, gaps_of, gap_at-some, layout_of, slots-fit, all_gaps, item_or, used, length-used, used-pivot, used-slot, used-gap, get_or-padded, Table, base_of, column, Sheet, Rooted, OnlyReads, words_of, row_items, are_zero, holds_no_more, words_of_parts, reads_on, same_tree}
use Rattle.mt_check.proofs.OneRow.{few_of, Unused, same_unused, unused_same}

-- ---- columns that are 0

module _ (t : Table) (row : ℕ) where
  zero_more : (col end : ℕ) → col < end → column t row col ≡ 0 → are_zero t row col (end - col) ≡ are_zero t row (col + 1) (end - (col + 1))
  zero_more col end below is =
      let left : end - col ≡ suc (end - (col + 1)) = omega arith in
      let test : (column t row col == 0) ≡ true = eq-eqb (column t row col) 0 is in
      rw (left, test) refl

  zero_not : (col end : ℕ) → col < end → column t row col ≢ 0 → are_zero t row col (end - col) ≡ false
  zero_not col end below is =
      let left : end - col ≡ suc (end - (col + 1)) = omega arith in
      let test : (column t row col == 0) ≡ false = ne_eqb (column t row col) 0 is in
      rw (left, test) refl

  zero_past : (col end : ℕ) → end ≤ col → are_zero t row col (end - col) ≡ true
  zero_past col end past = let left : end - col ≡ 0 = omega arith in rw left refl

  zeros_at : (n from c : ℕ) → are_zero t row from n ≡ true → from ≤ c → c < from + n → column t row c ≡ 0
  zeros_at zero from c zeros low high = absurd (omega arith)
  zeros_at (suc n) from c zeros low high =
      let parts = and_parts (column t row from == 0) (are_zero t row (from + 1) n) zeros in
      ⊎_elim
      (λ (at : c ≡ from). rw at (eqb-true (column t row from) 0 parts.0))
      (λ (other : c ≡ from → ⊥). zeros_at n (from + 1) c parts.1 (omega arith) (omega arith))
      (cases_eq c from)

  zeros_all : (n from : ℕ) → ((c : ℕ) → from ≤ c → c < from + n → column t row c ≡ 0) → are_zero t row from n ≡ true
  zeros_all zero from zeros = refl
  zeros_all (suc n) from zeros =
      and_from (column t row from == 0) (are_zero t row (from + 1) n) (eq-eqb (column t row from) 0 (zeros from (omega arith) (omega arith))) (zeros_all n (from + 1) (λ c low high. zeros c (omega arith) (omega arith)))

-- the columns from `from` up to, but without, `col` were loaded, and each was 0
pub record AreZeroUpTo (s s' : Sheet) (row from end col : ℕ) : Type 0 where
  pub rest : OnlyReads s s'
  pub zeros : are_zero s.tree.table row col (end - col) ≡ are_zero s.tree.table row from (end - from)

module _ (s t u : Sheet) (row from end col : ℕ) (done : AreZeroUpTo s t row from end col) (within : col < end) where
  pub one_more_zero : OnlyReads t u → column t.tree.table row col ≡ 0 → AreZeroUpTo s u row from end (col + 1)
  one_more_zero reads is = record {
    rest = reads_on s t u done.rest reads;
    zeros = sym (zero_more s.tree.table row col end within (sym (ap (λ (x : Rooted). column x.table row col) (same_tree s t done.rest)) ∙ is)) ∙ done.zeros;
  }

  pub one_not_zero : column t.tree.table row col ≢ 0 → false ≡ are_zero s.tree.table row from (end - from)
  one_not_zero is = sym (zero_not s.tree.table row col end within (λ zero. is (ap (λ (x : Rooted). column x.table row col) (same_tree s t done.rest) ∙ zero))) ∙ done.zeros

pub all_zero : (s t : Sheet) (row from end col : ℕ) → AreZeroUpTo s t row from end col → end ≤ col → true ≡ are_zero s.tree.table row from (end - from)
all_zero s t row from end col done past = sym (zero_past s.tree.table row col end past) ∙ done.zeros

-- ---- the columns that the items take

module _ (t : Table) (kind : RowKind) (row last : ℕ) where
  abbrev slots : ℕ
  slots = slots_of t.width kind

  abbrev gaps : ℕ
  gaps = gaps_of t.width kind

  abbrev items : List Item
  items = row_items t kind row last

  abbrev made : List ℕ
  made = words_of_parts t kind row last

  abbrev from_slot : ℕ → ℕ → List Item
  from_slot left i = items_from slots gaps t.words (base_of t row) last left i

  -- the columns of a slot hold this item
  record Holds (i : ℕ) (x : Item) : Type 0 where
    pub pivot : i + 1 < slots → column t row (pivot_column i) ≡ x.last
    pub word : column t row (slot_column slots i) ≡ x.word
    pub gap : gap_at slots gaps t.words (base_of t row) i ≡ x.gap

  here : (i end : ℕ) → (i + 1 < slots → column t row (pivot_column i) ≡ end) → Holds (i + 0) (item_at slots gaps t.words (base_of t row) i end)
  here i end ends =
      let at : i ≡ i + 0 = omega arith in
      subst (λ (j : ℕ). Holds j (item_at slots gaps t.words (base_of t row) i end)) at (record { pivot = ends; word = refl; gap = refl })

  read_at : (left i k : ℕ) → left + i ≡ slots → k < length (from_slot left i) → Holds (i + k) (item_or (from_slot left i) k)
  read_at zero i k all = λ within. absurd (omega arith)
  read_at (suc zero) i zero all = λ _. here i last (λ more. absurd (omega arith))
  read_at (suc zero) i (suc k) all = λ within. absurd (omega arith)
  read_at (suc (suc left)) i zero all = elim (cases_Bool (nat_le last (column t row (pivot_column i)))) [
    | inl ends ↦ rw ends (λ _. here i (column t row (pivot_column i)) (λ _. refl))
    | inr more ↦ rw more (λ _. here i (column t row (pivot_column i)) (λ _. refl))
  ]
  read_at (suc (suc left)) i (suc k) all = elim (cases_Bool (nat_le last (column t row (pivot_column i)))) [
    | inl ends ↦ rw ends (λ within. absurd (omega arith))
    | inr more ↦ rw more (λ within. let at : i + 1 + k ≡ i + suc k = omega arith in subst (λ (j : ℕ). Holds j (item_or (from_slot (suc left) (i + 1)) k)) at (read_at (suc left) (i + 1) k (omega arith) (omega arith)))
  ]

  fit : length items ≤ slots
  fit = few_of t kind row last

  taken : (k : ℕ) → k < length items → Holds k (item_or items k)
  taken k within = subst (λ (j : ℕ). Holds j (item_or items k)) (zero-add k) (read_at slots 0 k (omega arith) within)

  none : (k : ℕ) → length items ≤ k → item_or items k ≡ record { last = 0; word = 0; gap = 0 }
  none k past = get_or_past items k (record { last = 0; word = 0; gap = 0 }) past

  -- ---- the columns that the items make

  abbrev in_use : List ℕ
  in_use = used (columns t.width) slots gaps (column t row 0) items (layout_of t.width kind) fit

  made_at : (c : ℕ) → slice_index made c ≡ get_or in_use c 0
  made_at c = get_or-padded in_use _ c

  at_pivot : (k : ℕ) → k + 1 < slots → slice_index made (pivot_column k) ≡ (item_or items k).last
  at_pivot k within = made_at (pivot_column k) ∙ used-pivot (columns t.width) slots gaps (column t row 0) items (layout_of t.width kind) fit k within

  at_slot : (k : ℕ) → k < slots → slice_index made (slot_column slots k) ≡ (item_or items k).word
  at_slot k within = made_at (slot_column slots k) ∙ used-slot (columns t.width) slots gaps (column t row 0) items (layout_of t.width kind) fit k within

  at_gap : (k : ℕ) → k < gaps → slice_index made (gap_column slots k) ≡ (item_or items k).gap
  at_gap k within = made_at (gap_column slots k) ∙ used-gap (columns t.width) slots gaps (column t row 0) items (layout_of t.width kind) fit k within

  at_rest : (c : ℕ) → 2 * slots + gaps ≤ c → slice_index made c ≡ 0
  at_rest c past = made_at c ∙ get_or_past in_use c 0 (omega (arith, length-used (columns t.width) slots gaps (column t row 0) items (layout_of t.width kind) fit))

  -- ---- all other columns are 0 just where the row has the words that its items make

  record Zeros : Type 0 where
    pub pivots : (c : ℕ) → 1 + length items ≤ c → c < slots → column t row c ≡ 0
    pub words : (c : ℕ) → slots + length items ≤ c → c < 2 * slots → column t row c ≡ 0
    pub behind : (c : ℕ) → 2 * slots + min (length items) gaps ≤ c → c < columns t.width → column t row c ≡ 0

  abbrev behind : ℕ
  behind = 2 * slots + min (length items) gaps

  zeros_of : holds_no_more t kind row (length items) ≡ true → Zeros
  zeros_of holds =
      let first = and_parts (are_zero t row (1 + length items) (slots - (1 + length items))) (are_zero t row (slots + length items) (2 * slots - (slots + length items)) && are_zero t row behind (columns t.width - behind)) holds in
      let more = and_parts (are_zero t row (slots + length items) (2 * slots - (slots + length items))) (are_zero t row behind (columns t.width - behind)) first.1 in
      record {
        pivots = λ c low high. zeros_at t row (slots - (1 + length items)) (1 + length items) c first.0 low (omega arith);
        words = λ c low high. zeros_at t row (2 * slots - (slots + length items)) (slots + length items) c more.0 low (omega arith);
        behind = λ c low high. zeros_at t row (columns t.width - behind) behind c more.1 low (omega arith);
      }

  of_zeros : Zeros → holds_no_more t kind row (length items) ≡ true
  of_zeros zeros =
      and_from (are_zero t row (1 + length items) (slots - (1 + length items))) (are_zero t row (slots + length items) (2 * slots - (slots + length items)) && are_zero t row behind (columns t.width - behind))
      (zeros_all t row (slots - (1 + length items)) (1 + length items) (λ c low high. zeros.pivots c low (omega arith)))
      (and_from (are_zero t row (slots + length items) (2 * slots - (slots + length items))) (are_zero t row behind (columns t.width - behind))
      (zeros_all t row (2 * slots - (slots + length items)) (slots + length items) (λ c low high. zeros.words c low (omega arith)))
      (zeros_all t row (columns t.width - behind) behind (λ c low high. zeros.behind c low (omega arith))))

  room : 2 * slots + gaps ≤ columns t.width
  room = slots-fit (columns t.width) slots gaps (layout_of t.width kind)

  same_pivot : Zeros → (k : ℕ) → k + 1 < slots → column t row (pivot_column k) ≡ slice_index made (pivot_column k)
  same_pivot zeros k within =
      ⊎_elim
      (λ (has : k < length items). (taken k has).pivot within ∙ sym (at_pivot k within))
      (λ (past : length items ≤ k). zeros.pivots (pivot_column k) (omega arith) (omega arith) ∙ sym (at_pivot k within ∙ ap (λ (x : Item). x.last) (none k past)))
      (cases_lt k (length items))

  same_word : Zeros → (k : ℕ) → k < slots → column t row (slot_column slots k) ≡ slice_index made (slot_column slots k)
  same_word zeros k within =
      ⊎_elim
      (λ (has : k < length items). (taken k has).word ∙ sym (at_slot k within))
      (λ (past : length items ≤ k). zeros.words (slot_column slots k) (omega arith) (omega arith) ∙ sym (at_slot k within ∙ ap (λ (x : Item). x.word) (none k past)))
      (cases_lt k (length items))

  same_gap : Zeros → (k : ℕ) → k < gaps → column t row (gap_column slots k) ≡ slice_index made (gap_column slots k)
  same_gap zeros k within =
      ⊎_elim
      (λ (has : k < length items). sym (gap_at-some slots gaps t.words (base_of t row) k (λ e. omega (arith, e))) ∙ ((taken k has).gap ∙ sym (at_gap k within)))
      (λ (past : length items ≤ k). zeros.behind (gap_column slots k) (omega (arith, min-le_left (length items) gaps)) (omega (arith, room)) ∙ sym (at_gap k within ∙ ap (λ (x : Item). x.gap) (none k past)))
      (cases_lt k (length items))

  unused_of : Zeros → Unused t kind row last
  unused_of zeros c within =
      ⊎_elim (λ (low : c < slots).
      ⊎_elim (λ (at : c ≡ 0). rw at refl)
      (λ (inner : c ≡ 0 → ⊥). let e : pivot_column (c - 1) ≡ c = omega arith in subst (λ (c : ℕ). column t row c ≡ slice_index made c) e (same_pivot zeros (c - 1) (omega arith)))
      (cases_eq c 0))
      (λ (high : slots ≤ c).
      ⊎_elim (λ (low : c < 2 * slots). let e : slot_column slots (c - slots) ≡ c = omega arith in subst (λ (c : ℕ). column t row c ≡ slice_index made c) e (same_word zeros (c - slots) (omega arith)))
      (λ (end : 2 * slots ≤ c).
      ⊎_elim (λ (low : c < 2 * slots + gaps). let e : gap_column slots (c - 2 * slots) ≡ c = omega arith in subst (λ (c : ℕ). column t row c ≡ slice_index made c) e (same_gap zeros (c - 2 * slots) (omega arith)))
      (λ (past : 2 * slots + gaps ≤ c). zeros.behind c (omega (arith, min-le_right (length items) gaps)) within ∙ sym (at_rest c past))
      (cases_lt c (2 * slots + gaps)))
      (cases_lt c (2 * slots)))
      (cases_lt c slots)

  zeros_by : Unused t kind row last → Zeros
  zeros_by unused = record {
    pivots = λ c low high.
        let e : pivot_column (c - 1) ≡ c = omega arith in
        unused c (omega (arith, room)) ∙ subst (λ (c : ℕ). slice_index made c ≡ 0) e (at_pivot (c - 1) (omega arith) ∙ ap (λ (x : Item). x.last) (none (c - 1) (omega arith)));
    words = λ c low high.
        let e : slot_column slots (c - slots) ≡ c = omega arith in
        unused c (omega (arith, room)) ∙ subst (λ (c : ℕ). slice_index made c ≡ 0) e (at_slot (c - slots) (omega arith) ∙ ap (λ (x : Item). x.word) (none (c - slots) (omega arith)));
    behind = λ c low high. unused c high ∙
        ⊎_elim
        (λ (inner : c < 2 * slots + gaps).
        let e : gap_column slots (c - 2 * slots) ≡ c = omega (arith, low) in
        let all : gaps ≡ slots = all_gaps (columns t.width) slots gaps (layout_of t.width kind) (omega (arith, low)) in
        let past : length items ≤ c - 2 * slots = omega (arith, low, min-eq_left {n = length items} {m = gaps} (omega (arith, fit))) in
        subst (λ (c : ℕ). slice_index made c ≡ 0) e (at_gap (c - 2 * slots) (omega (arith, low)) ∙ ap (λ (x : Item). x.gap) (none (c - 2 * slots) past)))
        (λ (past : 2 * slots + gaps ≤ c). at_rest c past)
        (cases_lt c (2 * slots + gaps));
  }

  pub no_more : holds_no_more t kind row (length items) ≡ pointwise nat_eq (words_of t row) made
  no_more =
      same_from_decides (holds_no_more t kind row (length items)) (pointwise nat_eq (words_of t row) made) ((λ holds. unused_of (zeros_of holds)), (λ unused. of_zeros (zeros_by unused)))
      (same_unused t kind row last, unused_same t kind row last)
