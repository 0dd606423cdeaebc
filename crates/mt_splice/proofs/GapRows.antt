-- The gaps of items, and the law of gaps of a row by its items.
use Rattle.mt_splice.proofs.Prelude.{◌≡◌, ℕ, zero, suc, ◌+◌, ◌*◌, List, [], ◌∷◌, Option, Some, map, max, refl, sym, ap, ◌∙◌, subst, append-nil, AllByRecursion, Width, columns, Item, RowKind, Leaf, Inner, Gapped, Span, row_in, named_kind, longest_hole, slots_of, gaps_of, spans_from, longest_in, same_items, layout_of, Table, inner_of, spans_by, spans_in, expand, Levels, SameColumns, Tree, IsRow, GapLaw, GapLawBy, GapsFrom, items_in, longest_below, Shared, expand_shared, levels_front, levels_back, same_spans, levels_map, AreGapsAt, gaps_read, longest_below-append, longest_none, longest_shared, longest_holes, TellGaps, table_with, tree_with, greatest_gap}

-- ---- the longest hole below rows

pub holes_shared : (t t' : Table) (h : ℕ) (xs : List Span) → Levels (Shared t t') t h xs → longest_holes t' h xs ≡ longest_holes t h xs
holes_shared t t' h [] same = refl
holes_shared t t' h (x ∷ xs) same =
    let here = longest_shared t t' h (x ∷ []) (levels_front (Shared t t') t h (x ∷ []) xs same) in
    let behind = holes_shared t t' h xs (levels_back (Shared t t') t h (x ∷ []) xs same) in
    λ i. here i ∷ behind i

-- ---- the law of gaps of a row by its items

law_tells : (t : Table) (h row slot first : ℕ) (items : List Item) → AreGapsAt t row slot items → GapsFrom t h row slot (spans_from first items) → TellGaps Gapped t h first items
law_tells t h row slot first [] at law = refl
law_tells t h row slot first (x ∷ items) at law =
    let here = at.0 ∙ law.0 in
    let behind = law_tells t h row (slot + 1) (x.last + 1) items at.1 law.1 in
    λ i. here i ∷ behind i

tells_law : (t : Table) (h row slot first : ℕ) (items : List Item) → AreGapsAt t row slot items → TellGaps Gapped t h first items → GapsFrom t h row slot (spans_from first items)
tells_law t h row slot first [] at told = tt
tells_law t h row slot first (x ∷ items) at told =
    let here : x.gap ≡ longest_below t h (record { first = first; last = x.last; word = x.word } ∷ []) = cc in
    let behind : TellGaps Gapped t h (x.last + 1) items = cc in
    (sym at.0 ∙ here, tells_law t h row (slot + 1) (x.last + 1) items at.1 behind)

-- a row of this kind keeps the law just where its items tell their gaps
pub row_tells : (kind : RowKind) (t : Table) (h : ℕ) (x : Span) → named_kind x.word ≡ Some kind → GapLawBy kind t h x → TellGaps kind t h x.first (items_in t kind x)
row_tells Leaf t h x named law = tt
row_tells Inner t h x named law = tt
row_tells Gapped t h x named law =
    law_tells t h (row_in x.word) 0 x.first (items_in t Gapped x) (gaps_read t.width t.words (row_in x.word) x.last (slots_of t.width Gapped) 0)
    (subst (λ (k : Option RowKind). GapsFrom t h (row_in x.word) 0 (spans_by t k x)) named law)

pub row_keeps_gaps : (kind : RowKind) (t : Table) (h : ℕ) (x : Span) → named_kind x.word ≡ Some kind → TellGaps kind t h x.first (items_in t kind x) → GapLawBy kind t h x
row_keeps_gaps Leaf t h x named told = tt
row_keeps_gaps Inner t h x named told = tt
row_keeps_gaps Gapped t h x named told =
    subst (λ (k : Option RowKind). GapsFrom t h (row_in x.word) 0 (spans_by t k x)) (sym named)
    (tells_law t h (row_in x.word) 0 x.first (items_in t Gapped x) (gaps_read t.width t.words (row_in x.word) x.last (slots_of t.width Gapped) 0) told)

-- ---- the law stays while the columns of a row and what stands below it stay

pub tells_later : (kind : RowKind) (t t' : Table) (h first : ℕ) (items : List Item) → Levels (Shared t t') t h (spans_from first items) → TellGaps kind t h first items → TellGaps kind t' h first items
tells_later Leaf t t' h first items same told = tt
tells_later Inner t t' h first items same told = tt
tells_later Gapped t t' h first items same told = told ∙ sym (holes_shared t t' h (spans_from first items) same)

pub items_same : (width : Width) (w w' : List ℕ) (kind : RowKind) (x : Span) → SameColumns (record { width = width; words = w }) (record { width = width; words = w' }) (columns width) (row_in x.word)
    → items_in (record { width = width; words = w' }) kind x ≡ items_in (record { width = width; words = w }) kind x
items_same width w w' kind x same = same_items (columns width) (slots_of width kind) (gaps_of width kind) (columns width * row_in x.word) (columns width * row_in x.word) w' w (layout_of width kind) same x.last

law_stays : (kind : RowKind) (t : Table) (words : List ℕ) (h : ℕ) (x : Span) → named_kind x.word ≡ Some kind → SameColumns t (table_with t words) (columns t.width) (row_in x.word)
    → Levels (Shared t (table_with t words)) t h (spans_in t x) → GapLawBy kind t h x → GapLawBy kind (table_with t words) h x
law_stays kind t words h x named same below law =
    let below_it = subst (λ (k : Option RowKind). Levels (Shared t (table_with t words)) t h (spans_by t k x)) named below in
    row_keeps_gaps kind (table_with t words) h x named
    (subst (TellGaps kind (table_with t words) h x.first) (sym (items_same t.width t.words words kind x same))
    (tells_later kind t (table_with t words) h x.first (items_in t kind x) below_it (row_tells kind t h x named law)))

module _ (t : Tree) (words : List ℕ) where
  abbrev t' : Tree
  t' = tree_with t words

  abbrev pub Kept : ℕ → Span → Type 0
  Kept h x = SameColumns t.table t'.table (columns t.table.width) (row_in x.word)

  kept_shared : (h : ℕ) (xs : List Span) → Levels Kept t.table h xs → Levels (Shared t.table t'.table) t.table h xs
  kept_shared h xs kept = levels_map Kept (Shared t.table t'.table) t.table (λ _ x same. same_spans t.table t'.table x refl same) h xs kept

  -- one row
  pub gap_law_stays : (h : ℕ) (x : Span) → IsRow t (suc h) x → Kept (suc h) x → Levels Kept t.table h (spans_in t.table x) → GapLaw t (suc h) x → GapLaw t' (suc h) x
  gap_law_stays h x row same below law = law_stays (inner_of t.gapped) t.table words h x row.name.named same (kept_shared h (spans_in t.table x) below) law

  -- the rows of a height and all below
  pub gap_laws_stay : (h : ℕ) (xs : List Span) → Levels Kept t.table h xs → Levels (IsRow t) t.table h xs → Levels (GapLaw t) t.table h xs → Levels (GapLaw t') t'.table h xs
  gap_laws_stay zero xs kept rows laws = none xs
    where
      none : (ys : List Span) → AllByRecursion (GapLaw t' zero) ys
      none [] = tt
      none (y ∷ ys) = (tt, none ys)
  gap_laws_stay (suc h) xs kept rows laws = (
    each xs kept.0 kept.1 rows.0 laws.0,
    subst (Levels (GapLaw t') t'.table h) (sym (expand_shared t.table t'.table xs (kept_shared (suc h) xs kept).0)) (gap_laws_stay h (expand t.table xs) kept.1 rows.1 laws.1),
  )
    where
      each : (ys : List Span) → AllByRecursion (Kept (suc h)) ys → Levels Kept t.table h (expand t.table ys) → AllByRecursion (IsRow t (suc h)) ys → AllByRecursion (GapLaw t (suc h)) ys → AllByRecursion (GapLaw t' (suc h)) ys
      each [] kept below rows laws = tt
      each (y ∷ ys) kept below rows laws = (
        gap_law_stays h y rows.0 kept.0 (levels_front Kept t.table h (spans_in t.table y) (expand t.table ys) below) laws.0,
        each ys kept.1 (levels_back Kept t.table h (spans_in t.table y) (expand t.table ys) below) rows.1 laws.1,
      )

-- ---- what a row tells the row above

-- items whose gaps are told have the longest hole below as their greatest gap
greatest_told : (t : Table) (h : ℕ) (items : List Item) (xs : List Span) → map (λ (x : Item). x.gap) items ≡ longest_holes t h xs → greatest_gap items ≡ longest_below t h xs
greatest_told t h [] [] told = sym (longest_none t h)
greatest_told t h [] (x ∷ xs) told = absurd cc
greatest_told t h (x ∷ items) [] told = absurd cc
greatest_told t h (i ∷ items) (x ∷ xs) told =
    let here : i.gap ≡ longest_below t h (x ∷ []) = cc in
    let others : map (λ (y : Item). y.gap) items ≡ longest_holes t h xs = cc in
    let behind = greatest_told t h items xs others in
    (λ k. max (here k) (behind k)) ∙ sym (longest_below-append t h (x ∷ []) xs)

-- below a leaf it is the longest hole among its items, and below another row with gaps the greatest of these
pub leaf_longest : (t : Table) (x : Span) (first : ℕ) (items : List Item) → spans_in t x ≡ spans_from first items → longest_hole first items ≡ longest_below t 0 (x ∷ [])
leaf_longest t x first items is = sym (ap longest_in (append-nil (spans_in t x) ∙ is))

pub inner_longest : (t : Table) (h : ℕ) (x : Span) (first : ℕ) (items : List Item) → spans_in t x ≡ spans_from first items → TellGaps Gapped t h first items
    → greatest_gap items ≡ longest_below t (suc h) (x ∷ [])
inner_longest t h x first items is told = greatest_told t h items (spans_from first items) told ∙ sym (ap (longest_below t h) (append-nil (spans_in t x) ∙ is))
