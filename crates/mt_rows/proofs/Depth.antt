-- By depth and by levels the words stand for the same: ranges, rows and height.
use Rattle.mt_rows.proofs.Prelude.{◌≡◌, ℕ, zero, suc, Bool, ◌+◌, ◌<◌, ◌≤◌, ◌==◌, List, [], ◌∷◌, ◌++◌, Option, Some, length, refl, sym, ap, ◌∙◌, inl, inr, arith, append-nil, AllByRecursion, flat_map, cases_Bool, flat_map-append, all_map, all_front, all_back, RowKind, Leaf, row_in, named_kind, Span, leaf_range, Table, spans_in, inner_of, expand, map_of, Levels, one_if, tally, times, is_row_of, by_kind, ranges_of, rows_of, levels_by, of_first, height_of, Tree, IsRow, kind_on, covers_all, least_of_root, least_of}
use Rattle.mt_layout.proofs.RowSizes as sizes
use Rattle.mt_rows.proofs.Deeper.{by_kind_inner, levels_by_kind_inner}
use Rattle.mt_rows.proofs.InnerKinds.{inner_no_leaf}
use Rattle.mt_rows.proofs.Lists.{tally-append}

abbrev pub IsLeaf : Span → Type 0
IsLeaf x = named_kind x.word ≡ Some Leaf

abbrev pub IsInner : Bool → Span → Type 0
IsInner gapped x = named_kind x.word ≡ Some (inner_of gapped)

pub leaves : (t : Tree) (xs : List Span) → AllByRecursion (IsRow t zero) xs → AllByRecursion IsLeaf xs
leaves t xs rows = all_map (IsRow t zero) IsLeaf (λ x row. row.name.named) xs rows

pub inners : (t : Tree) (h : ℕ) (xs : List Span) → AllByRecursion (IsRow t (suc h)) xs → AllByRecursion (IsInner t.gapped) xs
inners t h xs rows = all_map (IsRow t (suc h)) (IsInner t.gapped) (λ x row. row.name.named) xs rows

-- ---- what a leaf and an inner row give

pub by_leaf : {A : Type 0} (k : Option RowKind) (leaf inner : List A) → k ≡ Some Leaf → by_kind k leaf inner ≡ leaf
by_leaf k leaf inner is = ap (λ (k : Option RowKind). by_kind k leaf inner) is

pub by_inner : {A : Type 0} (gapped : Bool) (k : Option RowKind) (leaf inner : List A) → k ≡ Some (inner_of gapped) → by_kind k leaf inner ≡ inner
by_inner gapped k leaf inner is = ap (λ (k : Option RowKind). by_kind k leaf inner) is ∙ by_kind_inner (inner_of gapped) leaf inner (inner_no_leaf gapped)

levels_by_inner : (gapped : Bool) (k : Option RowKind) (below : ℕ) → k ≡ Some (inner_of gapped) → levels_by k below ≡ 1 + below
levels_by_inner gapped k below is = ap (λ (k : Option RowKind). levels_by k below) is ∙ levels_by_kind_inner (inner_of gapped) below (inner_no_leaf gapped)

-- ---- ranges

leaf_ranges : (t : Table) (depth : ℕ) (xs : List Span) → AllByRecursion IsLeaf xs → flat_map (ranges_of t (suc depth)) xs ≡ flat_map leaf_range (expand t xs)
leaf_ranges t depth [] leaf = refl
leaf_ranges t depth (x ∷ xs) leaf =
    let first : ranges_of t (suc depth) x ≡ flat_map leaf_range (spans_in t x) = by_leaf (named_kind x.word) (flat_map leaf_range (spans_in t x)) (flat_map (ranges_of t depth) (spans_in t x)) leaf.0 in
    (λ i. first i ++ leaf_ranges t depth xs leaf.1 i) ∙ sym (flat_map-append leaf_range (spans_in t x) (expand t xs))

inner_ranges : (gapped : Bool) (t : Table) (depth : ℕ) (xs : List Span) → AllByRecursion (IsInner gapped) xs → flat_map (ranges_of t (suc depth)) xs ≡ flat_map (ranges_of t depth) (expand t xs)
inner_ranges gapped t depth [] inner = refl
inner_ranges gapped t depth (x ∷ xs) inner =
    let first : ranges_of t (suc depth) x ≡ flat_map (ranges_of t depth) (spans_in t x) = by_inner gapped (named_kind x.word) (flat_map leaf_range (spans_in t x)) (flat_map (ranges_of t depth) (spans_in t x)) inner.0 in
    (λ i. first i ++ inner_ranges gapped t depth xs inner.1 i) ∙ sym (flat_map-append (ranges_of t depth) (spans_in t x) (expand t xs))

pub ranges_by_levels : (t : Tree) (depth h : ℕ) (xs : List Span) → h < depth → Levels (IsRow t) t.table h xs → flat_map (ranges_of t.table depth) xs ≡ map_of t.table h xs
ranges_by_levels t zero h xs deep rows = absurd (omega arith)
ranges_by_levels t (suc depth) zero xs deep rows = leaf_ranges t.table depth xs (leaves t xs rows)
ranges_by_levels t (suc depth) (suc h) xs deep rows =
    inner_ranges t.gapped t.table depth xs (inners t h xs rows.0) ∙ ranges_by_levels t depth h (expand t.table xs) (omega arith) rows.1

pub ranges_by_depth : (t : Tree) (depth h : ℕ) (x : Span) → h < depth → Levels (IsRow t) t.table h (x ∷ []) → ranges_of t.table depth x ≡ map_of t.table h (x ∷ [])
ranges_by_depth t depth h x deep rows = sym (append-nil (ranges_of t.table depth x)) ∙ ranges_by_levels t depth h (x ∷ []) deep rows

-- ---- rows

abbrev count : ℕ → List ℕ → ℕ
count row rows = tally (λ (r : ℕ). r == row) rows

leaf_rows : (t : Table) (depth row : ℕ) (xs : List Span) → AllByRecursion IsLeaf xs → count row (flat_map (rows_of t (suc depth)) xs) ≡ tally (is_row_of row zero) xs
leaf_rows t depth row [] leaf = refl
leaf_rows t depth row (x ∷ xs) leaf =
    let first : rows_of t (suc depth) x ≡ row_in x.word ∷ [] = by_leaf (named_kind x.word) (row_in x.word ∷ []) (row_in x.word ∷ flat_map (rows_of t depth) (spans_in t x)) leaf.0 in
    ap (λ (l : List ℕ). count row (l ++ flat_map (rows_of t (suc depth)) xs)) first
    ∙ ap (λ (n : ℕ). one_if (row_in x.word == row) + n) (leaf_rows t depth row xs leaf.1)

inner_rows : (gapped : Bool) (t : Table) (depth h row : ℕ) (xs : List Span) → AllByRecursion (IsInner gapped) xs
    → count row (flat_map (rows_of t (suc depth)) xs) ≡ tally (is_row_of row (suc h)) xs + count row (flat_map (rows_of t depth) (expand t xs))
inner_rows gapped t depth h row [] inner = refl
inner_rows gapped t depth h row (x ∷ xs) inner =
    let first : rows_of t (suc depth) x ≡ row_in x.word ∷ flat_map (rows_of t depth) (spans_in t x) = by_inner gapped (named_kind x.word) (row_in x.word ∷ []) (row_in x.word ∷ flat_map (rows_of t depth) (spans_in t x)) inner.0 in
    let here = ap (λ (l : List ℕ). count row (l ++ flat_map (rows_of t (suc depth)) xs)) first in
    let apart = tally-append (λ (r : ℕ). r == row) (flat_map (rows_of t depth) (spans_in t x)) (flat_map (rows_of t (suc depth)) xs) in
    let behind = inner_rows gapped t depth h row xs inner.1 in
    let below = ap (count row) (flat_map-append (rows_of t depth) (spans_in t x) (expand t xs)) ∙ tally-append (λ (r : ℕ). r == row) (flat_map (rows_of t depth) (spans_in t x)) (flat_map (rows_of t depth) (expand t xs)) in
    omega (arith, here, apart, behind, below)

pub rows_by_levels : (t : Tree) (depth h row : ℕ) (xs : List Span) → h < depth → Levels (IsRow t) t.table h xs → count row (flat_map (rows_of t.table depth) xs) ≡ times (is_row_of row) t.table h xs
rows_by_levels t zero h row xs deep rows = absurd (omega arith)
rows_by_levels t (suc depth) zero row xs deep rows = leaf_rows t.table depth row xs (leaves t xs rows)
rows_by_levels t (suc depth) (suc h) row xs deep rows =
    inner_rows t.gapped t.table depth h row xs (inners t h xs rows.0)
    ∙ ap (λ (n : ℕ). tally (is_row_of row (suc h)) xs + n) (rows_by_levels t depth h row (expand t.table xs) (omega arith) rows.1)

pub rows_by_depth : (t : Tree) (depth h row : ℕ) (x : Span) → h < depth → Levels (IsRow t) t.table h (x ∷ []) → count row (rows_of t.table depth x) ≡ times (is_row_of row) t.table h (x ∷ [])
rows_by_depth t depth h row x deep rows = ap (count row) (sym (append-nil (rows_of t.table depth x))) ∙ rows_by_levels t depth h row (x ∷ []) deep rows

-- ---- height

-- every row has items
pub some_least : (t : Tree) (h : ℕ) (x : Span) → 1 ≤ least_of t h x
some_least t h x = elim (cases_Bool (covers_all t x)) [ inl all ↦ rw all (of_root h) | inr part ↦ rw part (omega (arith, sizes.some_least t.table.width (kind_on t.gapped h))) ]
  where
    of_root : (h : ℕ) → 1 ≤ least_of_root h
    of_root zero = omega arith
    of_root (suc h) = omega arith

-- every row of a height has as many levels
abbrev Tall : Table → ℕ → ℕ → List Span → Type 0
Tall t depth h xs = AllByRecursion (λ (x : Span). height_of t depth x ≡ h + 1) xs

first_tall : (t : Table) (depth h : ℕ) (xs : List Span) → 1 ≤ length xs → Tall t depth h xs → of_first (height_of t depth) xs ≡ h + 1
first_tall t depth h [] some tall = absurd (omega arith)
first_tall t depth h (x ∷ xs) some tall = tall.0

leaves_tall : (t : Table) (depth : ℕ) (xs : List Span) → AllByRecursion IsLeaf xs → Tall t (suc depth) 0 xs
leaves_tall t depth [] leaf = tt
leaves_tall t depth (x ∷ xs) leaf = (ap (λ (k : Option RowKind). levels_by k (of_first (height_of t depth) (spans_in t x))) leaf.0, leaves_tall t depth xs leaf.1)

inners_tall : (t : Tree) (depth h : ℕ) (xs : List Span) → AllByRecursion (IsRow t (suc h)) xs → Tall t.table depth h (expand t.table xs) → Tall t.table (suc depth) (suc h) xs
inners_tall t depth h [] rows below = tt
inners_tall t depth h (x ∷ xs) rows below = (
  (let some : 1 ≤ length (spans_in t.table x) = omega (arith, some_least t (suc h) x, rows.0.count.least) in
      let first = first_tall t.table depth h (spans_in t.table x) some (all_front (λ (y : Span). height_of t.table depth y ≡ h + 1) (spans_in t.table x) (expand t.table xs) below) in
      let here : height_of t.table (suc depth) x ≡ 1 + of_first (height_of t.table depth) (spans_in t.table x) = levels_by_inner t.gapped (named_kind x.word) (of_first (height_of t.table depth) (spans_in t.table x)) rows.0.name.named in
      omega (arith, first, here)),
  inners_tall t depth h xs rows.1 (all_back (λ (y : Span). height_of t.table depth y ≡ h + 1) (spans_in t.table x) (expand t.table xs) below),
)

all_tall : (t : Tree) (depth h : ℕ) (xs : List Span) → h < depth → Levels (IsRow t) t.table h xs → Tall t.table depth h xs
all_tall t zero h xs deep rows = absurd (omega arith)
all_tall t (suc depth) zero xs deep rows = leaves_tall t.table depth xs (leaves t xs rows)
all_tall t (suc depth) (suc h) xs deep rows = inners_tall t depth h xs rows.0 (all_tall t depth h (expand t.table xs) (omega arith) rows.1)

pub height_by_depth : (t : Tree) (depth h : ℕ) (x : Span) → h < depth → Levels (IsRow t) t.table h (x ∷ []) → height_of t.table depth x ≡ h + 1
height_by_depth t depth h x deep rows = (all_tall t depth h (x ∷ []) deep rows).0
