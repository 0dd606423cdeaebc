-- What the definitions by depth give at a depth above 0.
use Rattle.mt_rows.proofs.Prelude.{◌≡◌, ◌≢◌, ℕ, zero, suc, ◌+◌, ◌-◌, ◌<◌, List, [], ◌∷◌, Option, Some, refl, ap, ◌∙◌, arith, flat_map, slice_get, RowKind, Leaf, Inner, Gapped, row_in, named_kind, named_row, Span, leaf_range, Table, spans_in, by_kind, ranges_of, rows_of, levels_by, of_first, height_of}

pub ranges_of_deeper : (t : Table) (depth : ℕ) (x : Span) → 0 < depth → ranges_of t depth x ≡ by_kind (named_kind x.word) (flat_map leaf_range (spans_in t x)) (flat_map (ranges_of t (depth - 1)) (spans_in t x))
ranges_of_deeper t zero x deep = absurd (omega arith)
ranges_of_deeper t (suc depth) x deep =
    let same : depth ≡ suc depth - 1 = omega arith in
    ap (λ (n : ℕ). by_kind (named_kind x.word) (flat_map leaf_range (spans_in t x)) (flat_map (ranges_of t n) (spans_in t x))) same

pub rows_of_deeper : (t : Table) (depth : ℕ) (x : Span) → 0 < depth → rows_of t depth x ≡ by_kind (named_kind x.word) (row_in x.word ∷ []) (row_in x.word ∷ flat_map (rows_of t (depth - 1)) (spans_in t x))
rows_of_deeper t zero x deep = absurd (omega arith)
rows_of_deeper t (suc depth) x deep =
    let same : depth ≡ suc depth - 1 = omega arith in
    ap (λ (n : ℕ). by_kind (named_kind x.word) (row_in x.word ∷ []) (row_in x.word ∷ flat_map (rows_of t n) (spans_in t x))) same

pub height_of_deeper : (t : Table) (depth : ℕ) (x : Span) → 0 < depth → height_of t depth x ≡ levels_by (named_kind x.word) (of_first (height_of t (depth - 1)) (spans_in t x))
height_of_deeper t zero x deep = absurd (omega arith)
height_of_deeper t (suc depth) x deep =
    let same : depth ≡ suc depth - 1 = omega arith in
    ap (λ (n : ℕ). levels_by (named_kind x.word) (of_first (height_of t n) (spans_in t x))) same

-- a row that is no leaf is an inner row
pub by_kind_inner : {A : Type 0} (kind : RowKind) (leaf inner : List A) → kind ≢ Leaf → by_kind (Some kind) leaf inner ≡ inner
by_kind_inner Leaf leaf inner other = absurd (other refl)
by_kind_inner Inner leaf inner other = refl
by_kind_inner Gapped leaf inner other = refl

pub levels_by_kind_inner : (kind : RowKind) (below : ℕ) → kind ≢ Leaf → levels_by (Some kind) below ≡ 1 + below
levels_by_kind_inner Leaf below other = absurd (other refl)
levels_by_kind_inner Inner below other = refl
levels_by_kind_inner Gapped below other = refl

module _ (t : Table) (depth : ℕ) (x : Span) (kind : RowKind) (deep : 0 < depth) (named : named_kind x.word ≡ Some kind) (other : kind ≢ Leaf) where
  pub ranges_of_inner : ranges_of t depth x ≡ flat_map (ranges_of t (depth - 1)) (spans_in t x)
  ranges_of_inner =
      ranges_of_deeper t depth x deep
      ∙ (ap (λ (k : Option RowKind). by_kind k (flat_map leaf_range (spans_in t x)) (flat_map (ranges_of t (depth - 1)) (spans_in t x))) named
      ∙ by_kind_inner kind (flat_map leaf_range (spans_in t x)) (flat_map (ranges_of t (depth - 1)) (spans_in t x)) other)

  pub rows_of_inner : rows_of t depth x ≡ row_in x.word ∷ flat_map (rows_of t (depth - 1)) (spans_in t x)
  rows_of_inner =
      rows_of_deeper t depth x deep
      ∙ (ap (λ (k : Option RowKind). by_kind k (row_in x.word ∷ []) (row_in x.word ∷ flat_map (rows_of t (depth - 1)) (spans_in t x))) named
      ∙ by_kind_inner kind (row_in x.word ∷ []) (row_in x.word ∷ flat_map (rows_of t (depth - 1)) (spans_in t x)) other)

  pub height_of_inner : height_of t depth x ≡ 1 + of_first (height_of t (depth - 1)) (spans_in t x)
  height_of_inner =
      height_of_deeper t depth x deep
      ∙ (ap (λ (k : Option RowKind). levels_by k (of_first (height_of t (depth - 1)) (spans_in t x))) named
      ∙ levels_by_kind_inner kind (of_first (height_of t (depth - 1)) (spans_in t x)) other)

pub of_first_at : (f : Span → ℕ) (xs : List Span) (x : Span) → Some x ≡ slice_get xs 0 → of_first f xs ≡ f x
of_first_at f [] x is = absurd (cc)
of_first_at f (y ∷ ys) x is = let same : y ≡ x = cc in ap f same

pub row_named : (word row : ℕ) (kind : RowKind) → Some row ≡ named_row word → Some kind ≡ named_kind word → row ≡ row_in word
row_named word row kind is named = let same : Some row ≡ Some (row_in word) = is ∙ rw (← named) refl in cc
