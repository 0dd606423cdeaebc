-- A book whose rows are taken one by one.
use Rattle.mt_dup.proofs.Prelude.{◌≡◌, ◌≢◌, ℕ, zero, suc, ◌+◌, ◌<◌, ◌≤◌, List, [], ◌∷◌, ◌++◌, length, map, refl, sym, ap, ◌∙◌, subst, arith, length-append, append-nil, All, AllPairs, same_from_push, All-nil, All-cons, All-weaker, AllPairs-cons, most_rows, StampedRow, Book, IsBook, IsRowOf, rows_above, next_row, IsFilling, HasTaken}

-- the least of the rows is the last
lowest_last : (low n : ℕ) → rows_above low (suc n) ≡ rows_above (low + 1) n ++ (low ∷ [])
lowest_last low zero = let same : low + 0 ≡ low = omega arith in ap (λ (r : ℕ). r ∷ []) same
lowest_last low (suc n) = let same : low + suc n ≡ low + 1 + n = omega arith in (λ i. same i ∷ lowest_last low n i)

pub length-rows_above : (low n : ℕ) → length (rows_above low n) ≡ n
length-rows_above low zero = refl
length-rows_above low (suc n) = ap suc (length-rows_above low n)

module _ (b b' : Book) (row : ℕ) (filling : IsFilling b) (taken : b ≡ record b' { free = b'.free ++ (row ∷ []) }) where
  rows_same : b.rows ≡ b'.rows
  rows_same = ap (λ (x : Book). x.rows) taken

  free_is : b.free ≡ b'.free ++ (row ∷ [])
  free_is = ap (λ (x : Book). x.free) taken

  one_less : length b.free ≡ length b'.free + 1
  one_less = omega (arith, ap length free_is, length-append b'.free (row ∷ []))

  parts : (b'.free ≡ rows_above (next_row b + 1) (length b'.free)) × (row ≡ next_row b)
  parts =
      let count : length b.free ≡ suc (length b'.free) = omega (arith, one_less) in
      same_from_push b'.free (rows_above (next_row b + 1) (length b'.free)) row (next_row b) (sym free_is ∙ (filling.free ∙ (ap (rows_above (next_row b)) count ∙ lowest_last (next_row b) (length b'.free))))

  next_is : next_row b' ≡ next_row b + 1
  next_is = let fit = filling.fit in omega (arith, rows_same, one_less, fit)

  pub taken_row : row ≡ next_row b
  taken_row = parts.1

  pub taken_one : HasTaken 1 b b'
  taken_one = record {
    filling = record {
      fit = let fit = filling.fit in omega (arith, rows_same, one_less, fit);
      free = parts.0 ∙ ap (λ (n : ℕ). rows_above n (length b'.free)) (sym next_is);
      held = sym (ap (λ (x : Book). x.held) taken) ∙ filling.held;
    };
    rows = sym rows_same;
    taken = one_less;
  }

-- ---- such a book is one

rows_within : (low n : ℕ) → All (λ r. (low ≤ r) × (r < low + n)) (rows_above low n)
rows_within low zero = All-nil (λ r. (low ≤ r) × (r < low + zero))
rows_within low (suc n) =
    All-cons (λ r. (low ≤ r) × (r < low + suc n)) (low + n) (rows_above low n) (omega arith, omega arith)
    (All-weaker (λ r. (low ≤ r) × (r < low + n)) (λ r. (low ≤ r) × (r < low + suc n)) (λ r within. (within.0, omega (arith, within.1))) (rows_above low n) (rows_within low n))

rows_apart : (low n : ℕ) → AllPairs (λ r s. r ≢ s) (rows_above low n)
rows_apart low zero = λ i j d lt within. absurd (omega arith)
rows_apart low (suc n) =
    AllPairs-cons (λ r s. r ≢ s) (low + n) (rows_above low n) (All-weaker (λ r. (low ≤ r) × (r < low + n)) (λ r. low + n ≢ r) (λ r within is. omega (arith, within.1, is)) (rows_above low n) (rows_within low n)) (rows_apart low n)

pub filling_is_book : (b : Book) → b.rows ≤ most_rows → IsFilling b → IsBook b
filling_is_book b few filling = record {
  few = few;
  counted = let none = ap (λ (l : List StampedRow). length l) filling.held in let fit = filling.fit in omega arith;
  free_rows =
      subst (All (IsRowOf b)) (sym filling.free)
      (All-weaker (λ r. (next_row b ≤ r) × (r < next_row b + length b.free)) (IsRowOf b) (λ r within. (omega (arith, within.0), let fit = filling.fit in omega (arith, within.1))) (rows_above (next_row b) (length b.free)) (rows_within (next_row b) (length b.free)));
  waiting_rows = subst (All (λ (h : StampedRow). IsRowOf b h.row)) (sym filling.held) (All-nil (λ (h : StampedRow). IsRowOf b h.row));
  once =
      subst (AllPairs (λ (r s : ℕ). r ≢ s)) (sym (ap (λ (l : List StampedRow). b.free ++ map (λ (h : StampedRow). h.row) l) filling.held ∙ (append-nil b.free ∙ filling.free)))
      (rows_apart (next_row b) (length b.free));
  in_order = subst (AllPairs (λ (g h : StampedRow). g.stamp ≤ h.stamp)) (sym filling.held) (λ i j d lt within. absurd (omega arith));
}
