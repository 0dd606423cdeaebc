-- The rows that a book counts as live are those that are reached.
use Rattle.mt_splice.proofs.Prelude.{◌≡◌, ℕ, zero, suc, ◌+◌, ◌<◌, ◌≤◌, ◌==◌, List, ◌++◌, length, refl, ap, inl, inr, arith, length-append, All, Contains, ltb-true, lt-ltb, length-map, All-map, All-append, All-contains, Contains-append_left, Contains-append_right, Contains-append_cases, Kind, first_row, Book, StampedRow, IsOut, IsRowOf, held_rows, live_count, reached_in, Life, Rooted, tree_as, IsTreeOf, IsReached, tally-append, once_in, IsBookOf}
use Rattle.mt_splice.proofs.Counting.{times_of, contains_times, times_contains, apart_once, span_length}

-- no row is reached twice, also where the tree is empty
reached_once : (t : Rooted) (kind : Kind) → IsTreeOf t kind → (row : ℕ) → times_of row (reached_in t.table t.root) ≤ 1
reached_once t kind tree row = elim tree.words [
  | inl empty ↦ let none : times_of row (reached_in t.table t.root) ≡ 0 = ap (λ (root : ℕ). times_of row (reached_in t.table root)) empty in omega arith
  | inr stands ↦ once_in (tree_as kind t) stands.0 row stands.1
]

module _ (t : Rooted) (lives : List Life) (cleared : ℕ) (kind : Kind) (book : Book) (number : ℕ) (tree : IsTreeOf t kind) (of : IsBookOf t lives cleared book number) where
  abbrev reached : List ℕ
  reached = reached_in t.table t.root

  -- the rows that are not out
  abbrev inside : List ℕ
  inside = book.free ++ held_rows book

  reached_times : (row : ℕ) → IsReached t row → 1 ≤ times_of row reached
  reached_times row is = let some = ltb-true 0 (times_of row reached) is in omega arith

  times_reached : (row : ℕ) → 1 ≤ times_of row reached → IsReached t row
  times_reached row some = lt-ltb 0 (times_of row reached) (omega arith)

  inside_rows : All (IsRowOf book) inside
  inside_rows = All-append (IsRowOf book) book.free (held_rows book) of.sound.free_rows (All-map (IsRowOf book) (λ (h : StampedRow). h.row) book.held of.sound.waiting_rows)

  not_both : (row : ℕ) → Contains inside row → IsOut book row → ⊥
  not_both row has out = elim (Contains-append_cases book.free (held_rows book) row has) [ inl free ↦ out.not_free free | inr held ↦ out.not_held held ]

  -- a row that is inside is not reached
  inside_unreached : (row : ℕ) → 1 ≤ times_of row inside → times_of row reached ≡ 0
  inside_unreached row some = none (times_of row reached) (λ found. not_both row (times_contains inside row some) (of.reached row (times_reached row found)))
    where
      none : (n : ℕ) → (1 ≤ n → ⊥) → n ≡ 0
      none zero not = refl
      none (suc n) not = absurd (not (omega arith))

  -- and every other one is
  others_reached : (row : ℕ) → first_row ≤ row → row < first_row + book.rows → times_of row inside ≡ 0 → 1 ≤ times_of row reached
  others_reached row from below none = reached_times row (of.out row from (let same = of.rows in omega arith) record {
    here = (from, below);
    not_free = λ free. (let some = contains_times inside row (Contains-append_left book.free (held_rows book) row free) in omega arith);
    not_held = λ held. (let some = contains_times inside row (Contains-append_right book.free (held_rows book) row held) in omega arith);
  })

  all_inside : (row : ℕ) → 1 ≤ times_of row (inside ++ reached) → (first_row ≤ row) × (row < first_row + book.rows)
  all_inside row some = either (times_of row inside) refl
    where
      either : (n : ℕ) → times_of row inside ≡ n → (first_row ≤ row) × (row < first_row + book.rows)
      either zero none = (of.reached row (times_reached row (let parts = tally-append (λ (r : ℕ). r == row) inside reached in omega arith))).here
      either (suc n) some = All-contains (IsRowOf book) inside row inside_rows (times_contains inside row (omega arith))

  each_once : (row : ℕ) → first_row ≤ row → row < first_row + book.rows → times_of row (inside ++ reached) ≡ 1
  each_once row from below = either (times_of row inside) refl
    where
      either : (n : ℕ) → times_of row inside ≡ n → times_of row (inside ++ reached) ≡ 1
      either zero none =
          let parts = tally-append (λ (r : ℕ). r == row) inside reached in
          let some = others_reached row from below none in
          let most = reached_once t kind tree row in
          omega arith
      either (suc n) some =
          let parts = tally-append (λ (r : ℕ). r == row) inside reached in
          let none = inside_unreached row (omega arith) in
          let most = apart_once inside row of.sound.once in
          omega arith

  pub live_is_reached : live_count book ≡ length reached
  live_is_reached =
      let all = span_length first_row book.rows (inside ++ reached) all_inside each_once in
      let outer = length-append inside reached in
      let inner = length-append book.free (held_rows book) in
      let held = length-map book.held (λ (h : StampedRow). h.row) in
      omega arith
