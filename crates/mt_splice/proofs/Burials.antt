-- Rows buried one by one: what may still be buried, and what was.
use Rattle.mt_splice.proofs.Prelude.{[], ◌≡◌, ℕ, List, ◌∷◌, ◌++◌, Option, refl, sym, ap, ◌∙◌, subst, Book, after_retire, Sheet, OnlyReads, after_bury, after_burials, after_retirals, EachInTurn, MayBeBuriedInTurn}

-- ---- what may be buried

front : (s : Sheet) (book : Book) (xs ys : List ℕ) (number : ℕ) → EachInTurn s book (xs ++ ys) number → EachInTurn s book xs number
front s book [] ys number may = tt
front s book (x ∷ xs) ys number may = (may.0, front (after_bury s x) (after_retire book x number) xs ys number may.1)

pub may_front : {s : Sheet} {book : Book} (xs ys : List ℕ) {number : ℕ} → MayBeBuriedInTurn s book (xs ++ ys) number → MayBeBuriedInTurn s book xs number
may_front {s} {book} xs ys {number} may = record { each = front s book xs ys number may.each }

after : (s : Sheet) (book : Book) (xs ys : List ℕ) (number : ℕ) → EachInTurn s book (xs ++ ys) number → EachInTurn (after_burials s xs) (after_retirals book xs number) ys number
after s book [] ys number may = may
after s book (x ∷ xs) ys number may = after (after_bury s x) (after_retire book x number) xs ys number may.1

-- words may be loaded between
read_may : (s : Sheet) (book : Book) (rows : List ℕ) (number : ℕ) (reads : Option ℕ) → EachInTurn s book rows number → EachInTurn (record s { reads = reads }) book rows number
read_may s book [] number reads may = tt
read_may s book (row ∷ rows) number reads may = (
  record { live = record { in_flight = may.0.live.in_flight; before = may.0.live.before; at = may.0.live.at; live = may.0.live.live }; out = may.0.out; in_order = may.0.in_order },
  read_may (after_bury s row) (after_retire book row number) rows number reads may.1,
)

pub may_then : {s s' : Sheet} {book : Book} {rows : List ℕ} {number : ℕ} → OnlyReads s s' → MayBeBuriedInTurn s book rows number → MayBeBuriedInTurn s' book rows number
may_then {s} {s'} {book} {rows} {number} reads may = subst (λ (x : Sheet). MayBeBuriedInTurn x book rows number) (sym reads) (record { each = read_may s book rows number s'.reads may.each })

-- ---- what was buried

-- these rows were, in their order; beside that words were loaded
pub record AreBuried (s s' : Sheet) (book book' : Book) (rows : List ℕ) (number : ℕ) : Type 0 where
  pub rows_are : OnlyReads (after_burials s rows) s'
  pub book_is : book' ≡ after_retirals book rows number

pub buried : {s s' : Sheet} {book book' : Book} {rows : List ℕ} {number : ℕ} → OnlyReads (after_burials s rows) s' × (book' ≡ after_retirals book rows number) → AreBuried s s' book book' rows number
buried done = record { rows_are = done.0; book_is = done.1 }

pub as_done : {s s' : Sheet} {book book' : Book} {rows : List ℕ} {number : ℕ} → AreBuried s s' book book' rows number → OnlyReads (after_burials s rows) s' × (book' ≡ after_retirals book rows number)
as_done b = (b.rows_are, b.book_is)

burials_read : (s : Sheet) (reads : Option ℕ) (rows : List ℕ) → after_burials (record s { reads = reads }) rows ≡ record (after_burials s rows) { reads = reads }
burials_read s reads [] = refl
burials_read s reads (row ∷ rows) = burials_read (after_bury s row) reads rows

burials_more : (s : Sheet) (xs ys : List ℕ) → after_burials s (xs ++ ys) ≡ after_burials (after_burials s xs) ys
burials_more s [] ys = refl
burials_more s (x ∷ xs) ys = burials_more (after_bury s x) xs ys

retirals_more : (book : Book) (xs ys : List ℕ) (number : ℕ) → after_retirals book (xs ++ ys) number ≡ after_retirals (after_retirals book xs number) ys number
retirals_more book [] ys number = refl
retirals_more book (x ∷ xs) ys number = retirals_more (after_retire book x number) xs ys number

pub one_buried : {s s' : Sheet} {book book' : Book} {row number : ℕ} → s' ≡ after_bury s row → book' ≡ after_retire book row number → AreBuried s s' book book' (row ∷ []) number
one_buried {s} {s'} {book} {book'} {row} {number} sheet_is book_is = record { rows_are = sheet_is ∙ ap (λ (r : Option ℕ). record (after_bury s row) { reads = r }) (sym (ap (λ (x : Sheet). x.reads) sheet_is)); book_is = book_is }

pub reads_buried : {s s' : Sheet} {book : Book} {number : ℕ} → OnlyReads s s' → AreBuried s s' book book [] number
reads_buried reads = record { rows_are = reads; book_is = refl }

pub more_buried : {s s₁ s₂ : Sheet} {book book₁ book₂ : Book} (xs ys : List ℕ) {number : ℕ} → AreBuried s s₁ book book₁ xs number → AreBuried s₁ s₂ book₁ book₂ ys number → AreBuried s s₂ book book₂ (xs ++ ys) number
more_buried {s} {s₁} {s₂} {book} {book₁} {book₂} xs ys {number} one other = record {
  rows_are = other.rows_are
      ∙ (ap (λ (x : Sheet). record (after_burials x ys) { reads = s₂.reads }) one.rows_are
      ∙ (ap (λ (x : Sheet). record x { reads = s₂.reads }) (burials_read (after_burials s xs) s₁.reads ys) ∙ ap (λ (x : Sheet). record x { reads = s₂.reads }) (sym (burials_more s xs ys))));
  book_is = other.book_is ∙ (ap (λ (b : Book). after_retirals b ys number) one.book_is ∙ sym (retirals_more book xs ys number));
}

-- when some are buried, the others may be
pub may_later : {s s' : Sheet} {book book' : Book} (xs ys : List ℕ) {number : ℕ} → MayBeBuriedInTurn s book (xs ++ ys) number → AreBuried s s' book book' xs number → MayBeBuriedInTurn s' book' ys number
may_later {s} {s'} {book} {book'} xs ys {number} may done =
    subst (λ (b : Book). MayBeBuriedInTurn s' b ys number) (sym done.book_is) (may_then done.rows_are (record { each = after s book xs ys number may.each }))

-- and no free row is taken
pub retirals_free : (book : Book) (rows : List ℕ) (number : ℕ) → (after_retirals book rows number).free ≡ book.free
retirals_free book [] number = refl
retirals_free book (row ∷ rows) number = retirals_free (after_retire book row number) rows number
