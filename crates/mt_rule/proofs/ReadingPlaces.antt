-- The words that a pass loads and stores stand in its table.
use Rattle.mt_rule.proofs.Prelude.{◌≡◌, ℕ, ◌+◌, ◌*◌, ◌<◌, List, length, sym, ap, ◌∙◌, subst, arith, Kind, Width, columns, first_row, kind_width, RowKind, pivot_column, slot_column, slots_of, gaps_of, place_within, words_in_all, few_items, slots_of-columns, length-spans_from, items_at, kind_at, Extent, Held, HasRow, spans_at, Pass, RowAt, MtTable, Shape, column_at, section_at, table_size, IsRowAt, shape_told, slots_in, spans_here, Identity, identity_of, part_of, IsPassOf, most_passes}

pivot_within : (width : Width) (kind : RowKind) (i : ℕ) → i + 1 < slots_of width kind → pivot_column i < columns width
pivot_within width kind i low = omega (arith, slots_of-columns width kind)

-- a row has no more items than slots
slot_within : (kind : Kind) (width : Width) (w : List ℕ) (row i : ℕ) (e : Extent) → i < length (spans_at kind (record { width = width; words = w }) row e) → slot_column (slots_of width (kind_at kind e.level)) i < columns width
slot_within kind width w row i e low =
    let slots : ℕ = slots_of width (kind_at kind e.level) in
    let gaps : ℕ = gaps_of width (kind_at kind e.level) in
    omega (arith, slots_of-columns width (kind_at kind e.level), length-spans_from e.first (items_at slots gaps w (columns width * row) e.last), few_items slots gaps w (columns width * row) e.last slots 0)

module _ (t : MtTable) (p : Pass) (of : IsPassOf (identity_of t) p) where
  shape_is : (part_of p).shape ≡ shape_told t.table.shared.key
  shape_is = ap (λ (z : Identity). z.shape) of.of

  width_is : t.width ≡ kind_width (part_of p).shape.kind
  width_is = t.wide ∙ sym (ap (λ (z : Shape). kind_width z.kind) shape_is)

  -- a row's place by the pass's table is one by the table
  pub row_here : (row : RowAt) → IsRowAt (kind_width (part_of p).shape.kind) row → IsRowAt t.width row
  row_here row = subst (λ (w : Width). IsRowAt w row) (sym width_is)

  -- where a column of a row stands, and that a pivot and a slot have one
  pub column_below : (row col at : ℕ) → HasRow (part_of p).shape.rows row → col < columns t.width → at ≡ column_at t.width row col → at < t.table.shared.table_id.words
  column_below row col at here low is =
      let rows : (part_of p).shape.rows ≡ (shape_told t.table.shared.key).rows = ap (λ (z : Shape). z.rows) shape_is in
      let high : row < first_row + (shape_told t.table.shared.key).rows = let h = here.1 in omega arith in
      let within = place_within t.width row (first_row + (shape_told t.table.shared.key).rows) col high low in
      let size : table_size t.width (shape_told t.table.shared.key).rows ≡ table_size (kind_width t.table.shared.key.kind) (shape_told t.table.shared.key).rows = ap (λ (w : Width). table_size w (shape_told t.table.shared.key).rows) t.wide in
      let words = t.words in
      omega arith

  pub any_low : (col : ℕ) → col < columns (kind_width (part_of p).shape.kind) → col < columns t.width
  any_low col = subst (λ (w : Width). col < columns w) (sym width_is)

  pub pivot_low : (x : Held) (i col : ℕ) → col ≡ pivot_column i → i + 1 < slots_in (part_of p) x → col < columns t.width
  pivot_low x i col is low = subst (λ (w : Width). col < columns w) (sym width_is) (let within = pivot_within (kind_width (part_of p).shape.kind) (kind_at (part_of p).shape.kind x.extent.level) i low in omega arith)

  pub slot_low : (x : Held) (i col : ℕ) → x.width ≡ kind_width (part_of p).shape.kind → col ≡ slot_column (slots_in (part_of p) x) i → i < length (spans_here (part_of p) x) → col < columns t.width
  slot_low x i col wide is low =
      let kind : RowKind = kind_at (part_of p).shape.kind x.extent.level in
      let within : slot_column (slots_in (part_of p) x) i < columns (kind_width (part_of p).shape.kind) =
      subst (λ (w : Width). slot_column (slots_of w kind) i < columns w) wide (slot_within (part_of p).shape.kind x.width x.copy x.row i x.extent low) in
      subst (λ (w : Width). col < columns w) (sym width_is) (omega arith)

-- where a section word stands
pub section_below : (t : MtTable) (number at : ℕ) → number < most_passes → at ≡ section_at number → at < t.table.shared.table_id.words
section_below t number at few is = let words = t.words in let size = words_in_all (kind_width t.table.shared.key.kind) (shape_told t.table.shared.key).rows in omega arith
