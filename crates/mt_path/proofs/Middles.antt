-- What a lawful row's pivots tell of its spans, and the rows on a way are lawful.
use Rattle.mt_path.proofs.Prelude.{◌≡◌, ℕ, zero, suc, ◌+◌, ◌-◌, ◌<◌, ◌≤◌, List, [], ◌∷◌, Option, Some, length, refl, sym, ◌∙◌, subst, arith, slice_index, Kind, columns, greatest, Item, RowKind, Span, items_at, row_in, slots_of, gaps_of, Fills, few_items, layout_of, slots_of-columns, item_or, get_or-padded, used, used-pivot, length-spans_from, IsTreeOf, tree_as, Rooted, Table, base_of, column, spans_by, Row, IsLawfulRow, span_at, spans_of, IsOnWay}
use Rattle.mt_rows.specs.Laws as laws
use Rattle.mt_path.proofs.LeafSlots.{fills_within}
use Rattle.mt_path.proofs.TreePaths.{rooted, row_of, levels, lawful}
use Rattle.mt_path.proofs.Ways.{named, some_root, some_tree}

-- ---- spans end to end rise

pub rising : (lo hi : ℕ) (xs : List Span) (i k : ℕ) → Fills lo hi xs → i ≤ k → k < length xs → (span_at xs i).last ≤ (span_at xs k).last
rising lo hi [] i k fills low below = absurd (omega arith)
rising lo hi (x ∷ xs) zero zero fills low below = omega arith
rising lo hi (x ∷ xs) zero (suc k) fills low below =
    let behind = fills_within (x.last + 1) hi xs k fills.2 (omega arith) in
    let from = behind.0 in let to = behind.1 in
    omega arith
rising lo hi (x ∷ xs) (suc i) zero fills low below = absurd (omega arith)
rising lo hi (x ∷ xs) (suc i) (suc k) fills low below = rising (x.last + 1) hi xs i k fills.2 (omega arith) (omega arith)

pub none_past : (items : List Item) (k : ℕ) → length items ≤ k → (item_or items k).last ≡ 0
none_past [] k high = refl
none_past (x ∷ items) zero high = absurd (omega arith)
none_past (x ∷ items) (suc k) high = none_past items k (omega arith)

-- ---- in a row

module _ (t : Table) (row : Row) where
  abbrev slots : ℕ
  slots = slots_of t.width row.kind

  abbrev gaps : ℕ
  gaps = gaps_of t.width row.kind

  abbrev items : List Item
  items = items_at slots gaps t.words (base_of t row.number) row.max

  abbrev pivot : ℕ → ℕ
  pivot k = column t row.number (1 + k)

  module _ (lawful : IsLawfulRow t row) where
    pub fit : length items ≤ slots
    fit = few_items slots gaps t.words (base_of t row.number) row.max slots 0

    pub long : length (spans_of t row) ≡ length items
    long = length-spans_from row.min items

    pub pivot_of : (k : ℕ) → k + 1 < slots → pivot k ≡ (item_or items k).last
    pivot_of k inner =
        let words = used (columns t.width) slots gaps (column t row.number 0) items (layout_of t.width row.kind) fit in
        lawful.unused (1 + k) (omega (arith, slots_of-columns t.width row.kind))
        ∙ (get_or-padded words (columns t.width - length words) (1 + k) ∙ used-pivot (columns t.width) slots gaps (column t row.number 0) items (layout_of t.width row.kind) fit k inner)

-- ---- a row on the way

module _ (t : laws.Tree) (h : ℕ) (stands : laws.Stands t h) (index : ℕ) (within : index ≤ laws.top_of t) (depth : ℕ) (row : Row) (way : IsOnWay (rooted t) index depth row) where
  abbrev x : Span
  x = row_of t depth index

  lawful_by : IsLawfulRow t.table row
  lawful_by =
      let many = levels t h stands index within in
      let some = way.low in
      let low : depth ≤ h = omega arith in
      let law = lawful t h stands index depth (h - depth) within (omega arith) in
      let names = named x row way.named in
      let kind : row.kind ≡ laws.kind_on t.gapped (h - depth) = (let same : Some row.kind ≡ Some (laws.kind_on t.gapped (h - depth)) = sym names.0 ∙ law.name.named in cc) in
      subst (IsLawfulRow t.table) (sym names.1)
      (record {
        fills = subst (λ (k : Option RowKind). Fills x.first (x.last + 1) (spans_by t.table k x)) names.0 law.pivots.fills;
        unused = λ c inside. subst (λ (k : RowKind). column t.table (row_in x.word) c ≡ slice_index (laws.words_in t.table k x) c) (sym kind) (law.pivots.unused c inside);
      })

pub lawful_row : (t : Rooted) (kind : Kind) → IsTreeOf t kind → (index : ℕ) → index ≤ greatest t.table.width → (depth : ℕ) (row : Row) → IsOnWay t index depth row → IsLawfulRow t.table row
lawful_row t kind tree index within depth row way =
    let stands = some_tree (tree_as kind t) tree.words (some_root t index depth way.low) in
    lawful_by (tree_as kind t) stands.0 stands.1 index within depth row way
