-- The words of rows that are not reached do not count.
use Rattle.mt_rows.proofs.Prelude.{◌≡◌, ℕ, zero, suc, ◌*◌, List, [], ◌∷◌, ◌++◌, Option, Some, None, refl, ap, sym, subst, ◌∙◌, AllByRecursion, flat_map, Width, columns, all_front, all_back, RowKind, Leaf, Inner, Gapped, row_in, named_kind, layout_of, same_items, Span, spans_from, leaf_range, slots_of, gaps_of, Table, row_spans, spans_by, spans_in, SameColumns, SameSpans, by_kind, ranges_of, rows_of}

abbrev Agree : Table → Table → ℕ → Type 0
Agree t t' row = SameColumns t t' (columns t.width) row

same_row : (width width' : Width) (w w' : List ℕ) (kind : RowKind) (row first last : ℕ)
    → width' ≡ width → Agree (record { width = width; words = w }) (record { width = width'; words = w' }) row
    → row_spans (record { width = width'; words = w' }) row kind first last ≡ row_spans (record { width = width; words = w }) row kind first last
same_row width width' w w' kind row first last one =
    subst (λ (v : Width). Agree (record { width = width; words = w }) (record { width = v; words = w' }) row
    → row_spans (record { width = v; words = w' }) row kind first last ≡ row_spans (record { width = width; words = w }) row kind first last) (sym one)
    (λ same. ap (spans_from first) (same_items (columns width) (slots_of width kind) (gaps_of width kind) (columns width * row) (columns width * row) w' w (layout_of width kind) same last))

-- tables of one width that agree on a row have the same spans in it
pub same_spans : (t t' : Table) (x : Span) → t'.width ≡ t.width → Agree t t' (row_in x.word) → SameSpans t t' x
same_spans t t' x width same = by (named_kind x.word)
  where
    by : (kind : Option RowKind) → spans_by t' kind x ≡ spans_by t kind x
    by None = refl
    by (Some kind) = same_row t.width t'.width t.words t'.words kind (row_in x.word) x.first x.last width same

module _ (t t' : Table) (width : t'.width ≡ t.width) where
  abbrev Same : ℕ → Type 0
  Same row = Agree t t' row

  abbrev Stay : ℕ → Span → Type 0
  Stay depth x = AllByRecursion Same (rows_of t depth x) → ranges_of t' depth x ≡ ranges_of t depth x

  all_stay : (depth : ℕ) → ((x : Span) → Stay depth x) → (xs : List Span) → AllByRecursion Same (flat_map (rows_of t depth) xs)
      → flat_map (ranges_of t' depth) xs ≡ flat_map (ranges_of t depth) xs
  all_stay depth each [] same = refl
  all_stay depth each (x ∷ xs) same =
      let first = each x (all_front Same (rows_of t depth x) (flat_map (rows_of t depth) xs) same) in
      let behind = all_stay depth each xs (all_back Same (rows_of t depth x) (flat_map (rows_of t depth) xs) same) in
      λ i. first i ++ behind i

  by_children : (depth : ℕ) → ((x : Span) → Stay depth x) → (x : Span) → Same (row_in x.word) → AllByRecursion Same (flat_map (rows_of t depth) (spans_in t x))
      → flat_map (ranges_of t' depth) (spans_in t' x) ≡ flat_map (ranges_of t depth) (spans_in t x)
  by_children depth each x here below = ap (flat_map (ranges_of t' depth)) (same_spans t t' x width here) ∙ all_stay depth each (spans_in t x) below

  by_name : (depth : ℕ) → ((x : Span) → Stay depth x) → (x : Span) (kind : Option RowKind)
      → AllByRecursion Same (by_kind kind (row_in x.word ∷ []) (row_in x.word ∷ flat_map (rows_of t depth) (spans_in t x)))
      → by_kind kind (flat_map leaf_range (spans_in t' x)) (flat_map (ranges_of t' depth) (spans_in t' x))
      ≡ by_kind kind (flat_map leaf_range (spans_in t x)) (flat_map (ranges_of t depth) (spans_in t x))
  by_name depth each x None same = refl
  by_name depth each x (Some Leaf) same = ap (flat_map leaf_range) (same_spans t t' x width same.0)
  by_name depth each x (Some Inner) same = by_children depth each x same.0 same.1
  by_name depth each x (Some Gapped) same = by_children depth each x same.0 same.1

  pub ranges_stay : (depth : ℕ) (x : Span) → AllByRecursion Same (rows_of t depth x) → ranges_of t' depth x ≡ ranges_of t depth x
  ranges_stay zero x same = refl
  ranges_stay (suc depth) x same = by_name depth (ranges_stay depth) x (named_kind x.word) same
