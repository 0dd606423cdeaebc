-- Rows of a level whose words are written hold what is to stand on the level below; so a level that is put on top of others
-- stands for the same map.
use Rattle.mt_bulk.proofs.Prelude.{◌≡◌, ℕ, zero, suc, ◌+◌, ◌≤◌, Bool, List, [], ◌∷◌, ◌++◌, Option, length, refl, sym, ap, ◌∙◌, subst, arith, zero-add, slice_index, AllByRecursion, flat_map, columns, Item, RowKind, Span, end_of, items_at, row_words, FitRow, name_at, IsRowNumber, slots_of, gaps_of, spans_from, leaf_range, row_in-name_at, named_kind-name_at, same_items, reads_back, row_words-hold, layout_of, spans_from-append, Table, base_of, row_spans, spans_by, spans_in, expand, map_of, Levels, heads}
use Rattle.mt_bulk.proofs.Facts.{IsWritten, AreWritten, AreFit, CanBeNamed}

pub end_anyhow : (a b : ℕ) (items : List Item) → 1 ≤ length items → end_of a items ≡ end_of b items
end_anyhow a b [] some = absurd (omega arith)
end_anyhow a b (x ∷ items) some = refl

-- ---- one row

module _ (t : Table) (kind : RowKind) (number parent : ℕ) (row : List Item) (written : IsWritten t kind number parent row) (fits : FitRow (slots_of t.width kind) (gaps_of t.width kind) row) where
  abbrev words : List ℕ
  words = row_words (columns t.width) (slots_of t.width kind) (gaps_of t.width kind) parent row

  pub items_read : (first : ℕ) → items_at (slots_of t.width kind) (gaps_of t.width kind) t.words (base_of t number) (end_of first row) ≡ row
  items_read first =
      same_items (columns t.width) (slots_of t.width kind) (gaps_of t.width kind) (base_of t number) 0 t.words words (layout_of t.width kind)
      (λ c above within. written c within ∙ ap (slice_index words) (sym (zero-add c))) (end_of first row)
      ∙ (ap (items_at (slots_of t.width kind) (gaps_of t.width kind) words 0) (end_anyhow first 0 row fits.some)
      ∙ reads_back (slots_of t.width kind) (gaps_of t.width kind) words 0 row fits.fit fits.rise
      (row_words-hold (columns t.width) (slots_of t.width kind) (gaps_of t.width kind) parent row (layout_of t.width kind) fits) fits.some)

  pub spans_read : (first : ℕ) → IsRowNumber number → spans_in t (record { first = first; last = end_of first row; word = name_at number kind }) ≡ spans_from first row
  spans_read first is =
      ap (λ (k : Option RowKind). spans_by t k (record { first = first; last = end_of first row; word = name_at number kind })) (named_kind-name_at number kind is)
      ∙ (ap (λ (r : ℕ). row_spans t r kind first (end_of first row)) (row_in-name_at number kind)
      ∙ ap (spans_from first) (items_read first))

-- ---- the rows of a level

pub level_below : (t : Table) (gapped : Bool) (kind : RowKind) (first number : ℕ) (rows : List (List Item)) → AreWritten t kind number rows → AreFit t kind rows → CanBeNamed number (length rows)
    → expand t (spans_from first (heads gapped kind first number rows)) ≡ spans_from first (flat_map (λ row. row) rows)
level_below t gapped kind first number [] written fit named = refl
level_below t gapped kind first number (row ∷ rows) written fit named =
    let low = named.first in
    let high = named.last in
    let here = spans_read t kind number written.0.0 row written.0.1 fit.0 first (omega arith, omega arith) in
    let behind = level_below t gapped kind (end_of first row + 1) (number + 1) rows written.1 fit.1 (record { first = omega arith; last = omega arith }) in
    let ends = end_anyhow first 0 row fit.0.some in
    (λ i. here i ++ behind i)
    ∙ (ap (λ (n : ℕ). spans_from first row ++ spans_from (n + 1) (flat_map (λ row. row) rows)) ends
    ∙ sym (spans_from-append first row (flat_map (λ row. row) rows) fit.0.some))

-- a level on top of others: what holds of all rows, and the map
module _ (t : Table) (gapped : Bool) (kind : RowKind) (number : ℕ) (rows : List (List Item)) (items : List Item) (joined : flat_map (λ row. row) rows ≡ items)
    (written : AreWritten t kind number rows) (fit : AreFit t kind rows) (named : CanBeNamed number (length rows)) where
  abbrev top : List Span
  top = spans_from 0 (heads gapped kind 0 number rows)

  pub stands_on : expand t top ≡ spans_from 0 items
  stands_on = level_below t gapped kind 0 number rows written fit named ∙ ap (spans_from 0) joined

  pub levels_on : (P : ℕ → Span → Type 0) (h : ℕ) → Levels P t h (spans_from 0 items) → AllByRecursion (P (suc h)) top → Levels P t (suc h) top
  levels_on P h below here = (here, subst (Levels P t h) (sym stands_on) below)

  pub map_on : (h : ℕ) → map_of t (suc h) top ≡ map_of t h (spans_from 0 items)
  map_on h = ap (map_of t h) stands_on

  -- leaves
  pub map_of_leaves : map_of t zero top ≡ flat_map leaf_range (spans_from 0 items)
  map_of_leaves = ap (flat_map leaf_range) stands_on
