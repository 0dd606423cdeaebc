-- The law of gaps by other words: where each leaf has as long a hole as before, and the rows above are the same.
use Rattle.mt_engine.proofs.Prelude.{◌≡◌, ℕ, zero, suc, ◌+◌, ◌<◌, ◌≤◌, List, [], ◌∷◌, Bool, false, true, length, max, refl, sym, ap, ◌∙◌, subst, arith, AllByRecursion, Width, all_map, Gapped, Span, gap_column, row_in, slots_of, longest_in, Table, column, inner_of, spans_in, Levels, SameSpans, expand, Tree, GapLaw, GapLawBy, GapsFrom, longest_below, expand_shared, levels_front, levels_back, longest_in-append}

-- a row above the leaves has the same spans, and the same gap words where it has some
pub record SameRow (gapped : Bool) (t t' : Table) (x : Span) : Type 0 where
  pub spans : SameSpans t t' x
  pub gaps : gapped ≡ true → (slot : ℕ) → slot < length (spans_in t x) → column t' (row_in x.word) (gap_column (slots_of t.width Gapped) slot) ≡ column t (row_in x.word) (gap_column (slots_of t.width Gapped) slot)

abbrev pub SameGaps : Bool → Table → Table → ℕ → Span → Type 0
SameGaps gapped t t' zero x = longest_in (spans_in t' x) ≡ longest_in (spans_in t x)
SameGaps gapped t t' (suc h) x = SameRow gapped t t' x

module _ (gapped : Bool) (width : Width) (words words' : List ℕ) where
  abbrev t : Table
  t = record { width = width; words = words }

  abbrev t' : Table
  t' = record { width = width; words = words' }

  leaves_same : (xs : List Span) → AllByRecursion (SameGaps gapped t t' zero) xs → longest_in (expand t' xs) ≡ longest_in (expand t xs)
  leaves_same [] same = refl
  leaves_same (x ∷ xs) same =
      longest_in-append (spans_in t' x) (expand t' xs)
      ∙ ((λ i. max (same.0 i) (leaves_same xs same.1 i)) ∙ sym (longest_in-append (spans_in t x) (expand t xs)))

  longest_same : (h : ℕ) (xs : List Span) → Levels (SameGaps gapped t t') t h xs → longest_below t' h xs ≡ longest_below t h xs
  longest_same zero xs same = leaves_same xs same
  longest_same (suc h) xs same =
      ap (longest_below t' h) (expand_shared t t' xs (all_map (SameRow gapped t t') (SameSpans t t') (λ x row. row.spans) xs same.0)) ∙ longest_same h (expand t xs) same.1

  gaps_from : (h row slot many : ℕ) (xs : List Span) → slot + length xs ≤ many → ((c : ℕ) → c < many → column t' row (gap_column (slots_of width Gapped) c) ≡ column t row (gap_column (slots_of width Gapped) c))
      → Levels (SameGaps gapped t t') t h xs → GapsFrom t h row slot xs → GapsFrom t' h row slot xs
  gaps_from h row slot many [] few words same gaps = tt
  gaps_from h row slot many (x ∷ xs) few words same gaps = (
    words slot (omega arith) ∙ (gaps.0 ∙ sym (longest_same h (x ∷ []) (levels_front (SameGaps gapped t t') t h (x ∷ []) xs same))),
    gaps_from h row (slot + 1) many xs (omega arith) words (levels_back (SameGaps gapped t t') t h (x ∷ []) xs same) gaps.1,
  )

  row_gaps : (g : Bool) → gapped ≡ g → (h : ℕ) (x : Span) → SameRow gapped t t' x → Levels (SameGaps gapped t t') t h (spans_in t x) → GapLawBy (inner_of g) t h x → GapLawBy (inner_of g) t' h x
  row_gaps false is h x row same gaps = tt
  row_gaps true is h x row same gaps =
      subst (GapsFrom t' h (row_in x.word) 0) (sym row.spans) (gaps_from h (row_in x.word) 0 (length (spans_in t x)) (spans_in t x) (omega arith) (row.gaps is) same gaps)

  module _ (rows root : ℕ) where
    abbrev tree : Tree
    tree = record { rows = rows; gapped = gapped; table = t; root = root }

    abbrev tree' : Tree
    tree' = record { rows = rows; gapped = gapped; table = t'; root = root }

    rows_gaps : (h : ℕ) (xs : List Span) → AllByRecursion (SameRow gapped t t') xs → Levels (SameGaps gapped t t') t h (expand t xs) → AllByRecursion (GapLaw tree (suc h)) xs → AllByRecursion (GapLaw tree' (suc h)) xs
    rows_gaps h [] rows_same same gaps = tt
    rows_gaps h (x ∷ xs) rows_same same gaps = (
      row_gaps gapped refl h x rows_same.0 (levels_front (SameGaps gapped t t') t h (spans_in t x) (expand t xs) same) gaps.0,
      rows_gaps h xs rows_same.1 (levels_back (SameGaps gapped t t') t h (spans_in t x) (expand t xs) same) gaps.1,
    )

    pub no_gaps_in_leaves : (xs : List Span) → AllByRecursion (GapLaw tree' zero) xs
    no_gaps_in_leaves [] = tt
    no_gaps_in_leaves (x ∷ xs) = (tt, no_gaps_in_leaves xs)

    pub gaps_stay : (h : ℕ) (xs : List Span) → Levels (SameGaps gapped t t') t h xs → Levels (GapLaw tree) t h xs → Levels (GapLaw tree') t h xs
    gaps_stay zero xs same gaps = no_gaps_in_leaves xs
    gaps_stay (suc h) xs same gaps = (rows_gaps h xs same.0 same.1 gaps.0, gaps_stay h (expand t xs) same.1 gaps.1)
