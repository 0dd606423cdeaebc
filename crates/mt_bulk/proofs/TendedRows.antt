-- Rows that are built have the parent words and the gap words of lawful rows.
use Rattle.mt_bulk.proofs.Prelude.{◌≡◌, ℕ, zero, suc, ◌+◌, ◌-◌, ◌<◌, ◌≤◌, true, List, [], ◌∷◌, length, map, refl, sym, ap, ◌∙◌, subst, arith, append-nil, AllByRecursion, range_with_len, length-map, length-range_with_len, columns, first_row, most_rows, Item, RowKind, Span, end_of, gap_column, longest_hole, FitRow, name_at, parent_at, row_in, IsRowNumber, slots_of, gaps_of, spans_from, longest_in, row_in-name_at, all_gaps_of, gap_within, layout_of, get_or-padded, item_or, used, used-gap, Table, column, inner_of, spans_in, Tree, IsTended, ParentsFrom, GapsFrom, GapLawBy, kind_on, longest_below, greatest_gap, heads, parents_in}
use Rattle.mt_layout.specs.declared.names.RowKind.TheVariants as kinds
use Rattle.mt_bulk.proofs.Facts.{AreFit, AreWritten, IsWritten}
use Rattle.mt_bulk.proofs.Rows.{flat}
use Rattle.mt_bulk.proofs.Tended.{AreNamed, AreTold, HasParent, HaveParents, IsNamed, greatest_told, hold_back, hold_front, parents_from, told_back, told_front}
use Rattle.mt_bulk.proofs.Written.{spans_read}

-- ---- one row

gap_read : (t : Table) (number parent : ℕ) (row : List Item) → IsWritten t kinds.Gapped number parent row → FitRow (slots_of t.width kinds.Gapped) (gaps_of t.width kinds.Gapped) row → (i : ℕ) → i < length row
    → column t number (gap_column (slots_of t.width kinds.Gapped) i) ≡ (item_or row i).gap
gap_read t number parent row written fits i within =
    let slots = slots_of t.width kinds.Gapped in
    let gaps = gaps_of t.width kinds.Gapped in
    let layout = layout_of t.width kinds.Gapped in
    let fit = fits.fit in
    let all = all_gaps_of t.width in
    written (gap_column slots i) (gap_within t.width i (omega arith))
    ∙ (get_or-padded (used (columns t.width) slots gaps parent row layout fit) (columns t.width - length (used (columns t.width) slots gaps parent row layout fit)) (gap_column slots i)
    ∙ used-gap (columns t.width) slots gaps parent row layout fit i (omega arith))

gaps_from : (t : Table) (h number slot first : ℕ) (items : List Item) → ((i : ℕ) → i < length items → column t number (gap_column (slots_of t.width kinds.Gapped) (slot + i)) ≡ (item_or items i).gap) → AreTold t h first items
    → GapsFrom t h number slot (spans_from first items)
gaps_from t h number slot first [] read told = tt
gaps_from t h number slot first (x ∷ items) read told =
    let here : slot ≡ slot + zero = omega arith in (
      ap (λ (n : ℕ). column t number (gap_column (slots_of t.width kinds.Gapped) n)) here ∙ (read zero (omega arith) ∙ told.0),
      gaps_from t h number (slot + 1) (x.last + 1) items
          (λ i within. let next : slot + 1 + i ≡ slot + suc i = omega arith in ap (λ (n : ℕ). column t number (gap_column (slots_of t.width kinds.Gapped) n)) next ∙ read (suc i) (omega arith)) told.1,
    )

module _ (t : Tree) (h first number parent below : ℕ) (row : List Item) (written : IsWritten t.table (inner_of t.gapped) number parent row) (fits : FitRow (slots_of t.table.width (inner_of t.gapped)) (gaps_of t.table.width (inner_of t.gapped)) row)
    (named : IsRowNumber number) (names : AreNamed (kind_on t.gapped h) below row) (have : HaveParents t.table below (map (parent_at number) (range_with_len 0 (length row)))) (told : inner_of t.gapped ≡ kinds.Gapped → AreTold t.table h first row) where
  abbrev x : Span
  x = record { first = first; last = end_of first row; word = name_at number (inner_of t.gapped) }

  spans : spans_in t.table x ≡ spans_from first row
  spans = spans_read t.table (inner_of t.gapped) number parent row written fits first named

  row_is : row_in x.word ≡ number
  row_is = row_in-name_at number (inner_of t.gapped)

  by_kind : (k : RowKind) → inner_of t.gapped ≡ k → GapLawBy k t.table h x
  by_kind kinds.Leaf is = tt
  by_kind kinds.Inner is = tt
  by_kind kinds.Gapped is =
      let written' = subst (λ (k : RowKind). IsWritten t.table k number parent row) is written in
      let fits' = subst (λ (k : RowKind). FitRow (slots_of t.table.width k) (gaps_of t.table.width k) row) is fits in
      let gaps = gaps_from t.table h number 0 first row
      (λ i within. let place : 0 + i ≡ i = omega arith in ap (λ (n : ℕ). column t.table number (gap_column (slots_of t.table.width kinds.Gapped) n)) place ∙ gap_read t.table number parent row written' fits' i within) (told is) in
      subst (λ (r : ℕ). GapsFrom t.table h r 0 (spans_in t.table x)) (sym row_is) (subst (GapsFrom t.table h number 0) (sym spans) gaps)

  pub row_tended : IsTended t (suc h) x
  row_tended = record {
    parent = subst (λ (r : ℕ). ParentsFrom t.table r 0 (spans_in t.table x)) (sym row_is) (subst (ParentsFrom t.table number 0) (sym spans) (parents_from t.table (kind_on t.gapped h) below number 0 first row names have));
    gaps = by_kind (inner_of t.gapped) refl;
  }

-- ---- the rows of a level

pub leaves_tended : (t : Tree) (xs : List Span) → AllByRecursion (IsTended t zero) xs
leaves_tended t [] = tt
leaves_tended t (x ∷ xs) = (record { parent = tt; gaps = tt }, leaves_tended t xs)

pub rows_tended : (t : Tree) (h first number below : ℕ) (rows : List (List Item)) → AreWritten t.table (inner_of t.gapped) number rows → AreFit t.table (inner_of t.gapped) rows → first_row ≤ number → number + length rows ≤ first_row + most_rows
    → AreNamed (kind_on t.gapped h) below (flat rows) → HaveParents t.table below (parents_in number rows) → (inner_of t.gapped ≡ kinds.Gapped → AreTold t.table h first (flat rows))
    → AllByRecursion (IsTended t (suc h)) (spans_from first (heads t.gapped (inner_of t.gapped) first number rows))
rows_tended t h first number below [] written fit low high names have told = tt
rows_tended t h first number below (row ∷ rows) written fit low high names have told =
    let own = map (parent_at number) (range_with_len 0 (length row)) in
    let long : length own ≡ length row = omega (arith, length-map (range_with_len 0 (length row)) (parent_at number), length-range_with_len 0 (length row)) in (
      row_tended t h first number written.0.0 below row written.0.1 fit.0 (omega arith, omega arith) (hold_front (IsNamed (kind_on t.gapped h)) below row (flat rows) names)
          (hold_front (HasParent t.table) below own (parents_in (number + 1) rows) have) (λ g. told_front t.table h first row (flat rows) (told g)),
      rows_tended t h (end_of first row + 1) (number + 1) (below + length row) rows written.1 fit.1 (omega arith) (omega arith) (hold_back (IsNamed (kind_on t.gapped h)) below row (flat rows) names)
          (subst (λ (n : ℕ). HaveParents t.table (below + n) (parents_in (number + 1) rows)) long (hold_back (HasParent t.table) below own (parents_in (number + 1) rows) have))
          (λ g. told_back t.table h first first row (flat rows) fit.0.some (told g)),
    )

-- ---- what the level above is told

-- the items below leaves tell nothing
abbrev pub AreToldBelow : Table → ℕ → ℕ → List Item → Type 0
AreToldBelow t zero first items = Unit {0}
AreToldBelow t (suc h) first items = AreTold t h first items

told_leaf : (t : Table) (first number parent : ℕ) (row : List Item) → IsWritten t kinds.Leaf number parent row → FitRow (slots_of t.width kinds.Leaf) (gaps_of t.width kinds.Leaf) row → IsRowNumber number
    → longest_hole first row ≡ longest_below t zero (record { first = first; last = end_of first row; word = name_at number kinds.Leaf } ∷ [])
told_leaf t first number parent row written fits named =
    sym (ap longest_in (append-nil (spans_in t (record { first = first; last = end_of first row; word = name_at number kinds.Leaf })) ∙ spans_read t kinds.Leaf number parent row written fits first named))

told_inner : (t : Table) (h first number parent : ℕ) (row : List Item) → IsWritten t kinds.Gapped number parent row → FitRow (slots_of t.width kinds.Gapped) (gaps_of t.width kinds.Gapped) row → IsRowNumber number → AreTold t h first row
    → greatest_gap row ≡ longest_below t (suc h) (record { first = first; last = end_of first row; word = name_at number kinds.Gapped } ∷ [])
told_inner t h first number parent row written fits named told =
    sym (ap (longest_below t h) (append-nil (spans_in t (record { first = first; last = end_of first row; word = name_at number kinds.Gapped })) ∙ spans_read t kinds.Gapped number parent row written fits first named) ∙ greatest_told t h first row told)

pub heads_told : (t : Table) (h first number : ℕ) (rows : List (List Item)) → AreWritten t (kind_on true h) number rows → AreFit t (kind_on true h) rows → first_row ≤ number → number + length rows ≤ first_row + most_rows
    → AreToldBelow t h first (flat rows) → AreTold t h first (heads true (kind_on true h) first number rows)
heads_told t h first number [] written fit low high told = tt
heads_told t zero first number (row ∷ rows) written fit low high told = (
  told_leaf t first number written.0.0 row written.0.1 fit.0 (omega arith, omega arith),
  heads_told t zero (end_of first row + 1) (number + 1) rows written.1 fit.1 (omega arith) (omega arith) tt,
)
heads_told t (suc h) first number (row ∷ rows) written fit low high told = (
  told_inner t h first number written.0.0 row written.0.1 fit.0 (omega arith, omega arith) (told_front t h first row (flat rows) told),
  heads_told t (suc h) (end_of first row + 1) (number + 1) rows written.1 fit.1 (omega arith) (omega arith) (told_back t h first first row (flat rows) fit.0.some told),
)
