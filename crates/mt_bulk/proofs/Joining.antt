-- Rows that are written in chunks are written as one list.
use Rattle.mt_bulk.proofs.Prelude.{◌≡◌, ℕ, zero, suc, ◌+◌, Bool, List, [], ◌∷◌, ◌++◌, length, refl, sym, ap, ◌∙◌, arith, append_assoc, Width, columns, Item, RowKind, end_of, row_words, slots_of, gaps_of, name_at, gap_below, heads, words_of}

-- the first index behind rows, the first of which begins at `first`
abbrev pub behind_rows : ℕ → List (List Item) → ℕ
behind_rows first [] = first
behind_rows first (row ∷ rows) = behind_rows (end_of first row + 1) rows

pub words_in_chunks : (width : Width) (kind : RowKind) (ps qs : List ℕ) (xs ys : List (List Item)) → length ps ≡ length xs → words_of width kind (ps ++ qs) (xs ++ ys) ≡ words_of width kind ps xs ++ words_of width kind qs ys
words_in_chunks width kind [] qs [] ys same = refl
words_in_chunks width kind [] qs (x ∷ xs) ys same = absurd (omega arith)
words_in_chunks width kind (p ∷ ps) qs [] ys same = absurd (omega arith)
words_in_chunks width kind (p ∷ ps) qs (x ∷ xs) ys same =
    let here = row_words (columns width) (slots_of width kind) (gaps_of width kind) p x in
    ap (λ (l : List ℕ). here ++ l) (words_in_chunks width kind ps qs xs ys (omega arith)) ∙ sym (append_assoc here (words_of width kind ps xs) (words_of width kind qs ys))

pub heads_in_chunks : (gapped : Bool) (kind : RowKind) (first number : ℕ) (xs ys : List (List Item)) → heads gapped kind first number (xs ++ ys) ≡ heads gapped kind first number xs ++ heads gapped kind (behind_rows first xs) (number + length xs) ys
heads_in_chunks gapped kind first number [] ys = let same : number ≡ number + zero = omega arith in ap (λ (n : ℕ). heads gapped kind first n ys) same
heads_in_chunks gapped kind first number (x ∷ xs) ys =
    let same : number + 1 + length xs ≡ number + suc (length xs) = omega arith in
    let behind = heads_in_chunks gapped kind (end_of first x + 1) (number + 1) xs ys ∙ ap (λ (n : ℕ). heads gapped kind (end_of first x + 1) (number + 1) xs ++ heads gapped kind (behind_rows (end_of first x + 1) xs) n ys) same in
    ap (λ (l : List Item). record { last = end_of first x; word = name_at number kind; gap = gap_below gapped kind first x } ∷ l) behind
