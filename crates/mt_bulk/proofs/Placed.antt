-- The words of rows, one row after another, stand where the rows' columns are.
use Rattle.mt_bulk.proofs.Prelude.{◌≡◌, ℕ, ◌+◌, ◌-◌, ◌*◌, ◌<◌, List, [], ◌∷◌, ◌++◌, length, get_or, refl, sym, ap, ◌∙◌, subst, arith, length-append, append_assoc, slice_index, get_or_append_left, get_or-append_right, Width, Long, Short, columns, Item, RowKind, row_words, slots_of, gaps_of, layout_of, length-row_words, Table, words_of}
use Rattle.mt_bulk.proofs.Facts.{AreFit, AreWritten}

-- a row more is its words more
pub next_row : (width : Width) (n : ℕ) → columns width * (n + 1) ≡ columns width * n + columns width
next_row Long n = omega arith
next_row Short n = omega arith

-- a place in the middle of three lists
pub in_middle : (front middle back : List ℕ) (c : ℕ) → c < length middle → get_or (front ++ (middle ++ back)) (length front + c) 0 ≡ get_or middle c 0
in_middle front middle back c within =
    let place : length front + c - length front ≡ c = omega arith in
    get_or-append_right front (middle ++ back) (length front) (length front + c) 0 refl (omega arith)
    ∙ (ap (λ (n : ℕ). get_or (middle ++ back) n 0) place ∙ get_or_append_left middle back 0 c within)

module _ (width : Width) (kind : RowKind) where
  abbrev table : List ℕ → Table
  table words = record { width = width; words = words }

  pub are_written : (number : ℕ) (parents : List ℕ) (rows : List (List Item)) (front back : List ℕ) → length parents ≡ length rows → AreFit (table []) kind rows → length front ≡ columns width * number
      → AreWritten (table (front ++ (words_of width kind parents rows ++ back))) kind number rows
  are_written number [] [] front back same fit at = tt
  are_written number [] (row ∷ rows) front back same fit at = absurd (omega arith)
  are_written number (parent ∷ parents) [] front back same fit at = tt
  are_written number (parent ∷ parents) (row ∷ rows) front back same fit at =
      let here = row_words (columns width) (slots_of width kind) (gaps_of width kind) parent row in
      let others = words_of width kind parents rows in
      let long = length-row_words (columns width) (slots_of width kind) (gaps_of width kind) parent row (layout_of width kind) fit.0.fit in
      let moved : front ++ ((here ++ others) ++ back) ≡ (front ++ here) ++ (others ++ back) = ap (λ (l : List ℕ). front ++ l) (append_assoc here others back) ∙ sym (append_assoc front here (others ++ back)) in
      let next = are_written (number + 1) parents rows (front ++ here) back (omega arith) fit.1 (omega (arith, length-append front here, long, next_row width number)) in (
        (
          parent,
          λ c within.
              ap (λ (l : List ℕ). slice_index (front ++ l) (columns width * number + c)) (append_assoc here others back)
              ∙ (ap (λ (n : ℕ). slice_index (front ++ (here ++ (others ++ back))) (n + c)) (sym at) ∙ in_middle front here (others ++ back) c (omega (arith, long))),
        ),
        subst (λ (w : List ℕ). AreWritten (table w) kind (number + 1) rows) (sym moved) next,
      )
