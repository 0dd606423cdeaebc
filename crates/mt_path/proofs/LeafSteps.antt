-- The leaf of an index: where it stands, what it holds, and what it shares with the leaf of another index. For the proofs of the crates above, too.
use Rattle.mt_path.proofs.Prelude.{◌≡◌, ◌≢◌, ℕ, zero, suc, ◌+◌, ◌-◌, ◌^◌, ◌<◌, ◌≤◌, List, Option, Some, Bool, length, nat_lt, true, false, refl, sym, ap, ◌∙◌, subst, arith, lt-ltb, le-ltb, if◌then◌else◌, slice_get_within, Kind, greatest, columns, first_row, greatest_fits, RowKind, Leaf, Span, Item, items_at, named_kind, slots_of, gaps_of, Fills, Names-named_kind, slots_of-columns, length-spans_from, Table, base_of, column, spans_by, spans_in, IsTreeOf, tree_as, Rooted, IsPlace, word_at, PathStep, leaf_spans, leaf_in, IsStepOfLeaf, slot_for, span_at, step_in, path_in, step_at, row_most}
use Rattle.mt_rows.specs.Laws as laws
use Rattle.mt_path.proofs.Places.{At, at_get, at_within}
use Rattle.mt_path.proofs.Steps.{rows_agree}
use Rattle.mt_path.proofs.TreePaths.{rooted, top_row, rows_at, row_of, levels, step, place as place_at, lawful, holds, root_leads}
use Rattle.mt_path.proofs.LeafSlots.{StandsIn, stands_in, fills_within, fills_next}
use Rattle.mt_path.proofs.Ways.{some_tree}

-- ---- a leaf of a tree

-- what holds of a leaf, whatever slot the step takes
pub record IsLeaf (t : Rooted) (leaf : PathStep) : Type 0 where
  pub first : first_row ≤ leaf.row
  pub row : leaf.row < first_row + t.rows
  pub fills : Fills leaf.min (leaf.max + 1) (leaf_spans t.table leaf)
  pub few : length (leaf_spans t.table leaf) ≤ slots_of t.table.width Leaf
  pub within : leaf.max ≤ greatest t.table.width

-- what holds of the step of an index
pub record IsStepTo (t : Rooted) (index : ℕ) (step : PathStep) : Type 0 where
  pub leaf : IsLeaf t step
  pub slot : step.slot ≡ slot_for (leaf_spans t.table step) index
  pub used : step.slot < length (leaf_spans t.table step)
  pub from : step.min ≤ index
  pub to : index ≤ step.max
  pub begins : (span_at (leaf_spans t.table step) step.slot).first ≤ index
  pub ends : index ≤ (span_at (leaf_spans t.table step) step.slot).last

-- what stands in a leaf, by the span that names it
spans_of_leaf : (t : Table) (x : Span) (index : ℕ) → named_kind x.word ≡ Some Leaf → leaf_spans t (step_in t x index) ≡ spans_in t x
spans_of_leaf t x index named = ap (λ (k : Option RowKind). spans_by t k x) (sym named)

in_leaf : (t : laws.Tree) (h : ℕ) → laws.Stands t h → (index : ℕ) → index ≤ laws.top_of t → leaf_in (rooted t) index ≡ step_in t.table (row_of t h index) index
in_leaf t h stands index inside =
    let many = levels t h stands index inside in
    let long : length (path_in t.table t.root index) - 1 ≡ h = omega arith in
    ap (step_at (path_in t.table t.root index)) long ∙ step t h stands index h inside (omega arith)

module _ (t : laws.Tree) (h : ℕ) (stands : laws.Stands t h) (index : ℕ) (inside : index ≤ laws.top_of t) where
  abbrev row : Span
  row = row_of t h index

  abbrev here : PathStep
  here = step_in t.table row index

  law : laws.IsRow t 0 row
  law = lawful t h stands index h 0 inside (omega arith)

  spans_here : leaf_spans t.table here ≡ spans_in t.table row
  spans_here = spans_of_leaf t.table row index law.name.named

  is_leaf : IsLeaf (rooted t) here
  is_leaf =
      let ends = (at_within 0 (laws.top_of t + 1) (rows_at t h) index row (place_at t h stands index h inside (omega arith))).1 in
      record {
        first = (Names-named_kind row.word Leaf law.name.named).0.0;
        row = law.name.in_table;
        fills = subst (Fills row.first (row.last + 1)) (sym spans_here) law.pivots.fills;
        few = subst (λ (l : List Span). length l ≤ slots_of t.table.width Leaf) (sym spans_here) (row_most law.name);
        within = omega arith;
      }

  at_row : At row.first (row.last + 1) (spans_in t.table row) index (span_at (spans_in t.table row) (slot_for (spans_in t.table row) index))
  at_row = holds t h stands index h inside (omega arith)

  is_step : IsStepTo (rooted t) index here
  is_step =
      let at = at_row in
      let slot : slot_for (spans_in t.table row) index ≡ slot_for (leaf_spans t.table here) index = ap (λ (l : List Span). slot_for l index) (sym spans_here) in
      let used = slice_get_within (spans_in t.table row) (slot_for (spans_in t.table row) index) (span_at (spans_in t.table row) (slot_for (spans_in t.table row) index)) (at_get row.first (row.last + 1) (spans_in t.table row) index (span_at (spans_in t.table row) (slot_for (spans_in t.table row) index)) at) in
      let where_row = place_at t h stands index h inside (omega arith) in
      record {
        leaf = is_leaf;
        slot = slot;
        used = subst (λ (l : List Span). slot_for (spans_in t.table row) index < length l) (sym spans_here) used;
        from = where_row.from;
        to = where_row.to;
        begins = subst (λ (l : List Span). (span_at l (slot_for (spans_in t.table row) index)).first ≤ index) (sym spans_here) at.from;
        ends = subst (λ (l : List Span). index ≤ (span_at l (slot_for (spans_in t.table row) index)).last) (sym spans_here) at.to;
      }

  -- the leaf of another index that it covers
  other_here : (other : ℕ) → row.first ≤ other → other ≤ row.last → step_in t.table (row_of t h other) other ≡ record here { slot = slot_for (leaf_spans t.table here) other }
  other_here other from to =
      ap (λ (x : Span). step_in t.table x other) (rows_agree t h h (top_row t) index other (omega arith) (root_leads t h stands index inside) from to)
      ∙ ap (λ (l : List Span). record here { slot = slot_for l other }) (sym spans_here)

-- ---- as the tree is told

module _ (t : Rooted) (kind : Kind) where
  pub step_to : (index : ℕ) → IsTreeOf t kind → t.root ≢ 0 → index ≤ greatest t.table.width → IsStepTo t index (leaf_in t index)
  step_to index tree some inside =
      let stands = some_tree (tree_as kind t) tree.words some in
      subst (IsStepTo t index) (sym (in_leaf (tree_as kind t) stands.0 stands.1 index inside)) (is_step (tree_as kind t) stands.0 stands.1 index inside)

  pub leaf_of_other : (index other : ℕ) → IsTreeOf t kind → t.root ≢ 0 → index ≤ greatest t.table.width → (leaf_in t index).min ≤ other → other ≤ (leaf_in t index).max
      → leaf_in t other ≡ record (leaf_in t index) { slot = slot_for (leaf_spans t.table (leaf_in t index)) other }
  leaf_of_other index other tree some inside from to =
      let stands = some_tree (tree_as kind t) tree.words some in
      let is = in_leaf (tree_as kind t) stands.0 stands.1 index inside in
      let leaf = is_leaf (tree_as kind t) stands.0 stands.1 index inside in
      let within = leaf.within in
      let low : (row_of (tree_as kind t) stands.0 index).first ≤ other = subst (λ (x : PathStep). x.min ≤ other) is from in
      let high : other ≤ (row_of (tree_as kind t) stands.0 index).last = subst (λ (x : PathStep). other ≤ x.max) is to in
      in_leaf (tree_as kind t) stands.0 stands.1 other (omega arith)
      ∙ (other_here (tree_as kind t) stands.0 stands.1 index inside other low high
      ∙ sym (ap (λ (x : PathStep). record x { slot = slot_for (leaf_spans t.table x) other }) is))

  -- ---- one of a leaf's slots

  leaf_of_step : (leaf : PathStep) → IsTreeOf t kind → IsStepOfLeaf t leaf → IsLeaf t leaf
  leaf_of_step leaf tree step =
      let facts = (step_to step.index tree step.some step.within).leaf in
      subst (IsLeaf t) (sym step.leaf) (record { first = facts.first; row = facts.row; fills = facts.fills; few = facts.few; within = facts.within })

-- ---- what stands in the slot of a leaf

abbrev pub here_in : Table → PathStep → Span
here_in t leaf = span_at (leaf_spans t leaf) leaf.slot

abbrev leaf_items : Table → PathStep → List Item
leaf_items t leaf = items_at (slots_of t.width Leaf) (gaps_of t.width Leaf) t.words (base_of t leaf.row) leaf.max

slot_stands : (t : Table) (leaf : PathStep) (slot : ℕ) → slot < length (leaf_spans t leaf)
    → StandsIn (slots_of t.width Leaf) (gaps_of t.width Leaf) t.words (base_of t leaf.row) leaf.max slot (span_at (leaf_spans t leaf) slot)
slot_stands t leaf slot used =
    let long = length-spans_from leaf.min (leaf_items t leaf) in
    stands_in (slots_of t.width Leaf) (gaps_of t.width Leaf) t.words (base_of t leaf.row) leaf.max (slots_of t.width Leaf) 0 leaf.min slot slot (omega arith) (omega arith) (omega arith)

ends_at_pivot : (t : Table) (leaf : PathStep) (slot : ℕ) → slot < length (leaf_spans t leaf) → slot + 1 < slots_of t.width Leaf → column t leaf.row (1 + slot) ≡ (span_at (leaf_spans t leaf) slot).last
ends_at_pivot t leaf slot used below =
    let test : nat_lt (slot + 1) (slots_of t.width Leaf) ≡ true = lt-ltb (slot + 1) (slots_of t.width Leaf) below in
    sym ((slot_stands t leaf slot used).last ∙ ap (λ (b : Bool). if b then column t leaf.row (1 + slot) else leaf.max) test)

ends_at_max : (t : Table) (leaf : PathStep) (slot : ℕ) → slot < length (leaf_spans t leaf) → slots_of t.width Leaf ≤ slot + 1 → leaf.max ≡ (span_at (leaf_spans t leaf) slot).last
ends_at_max t leaf slot used past =
    let test : nat_lt (slot + 1) (slots_of t.width Leaf) ≡ false = le-ltb (slot + 1) (slots_of t.width Leaf) past in
    sym ((slot_stands t leaf slot used).last ∙ ap (λ (b : Bool). if b then column t leaf.row (1 + slot) else leaf.max) test)

begins_behind : (t : Table) (leaf : PathStep) (slot : ℕ) → Fills leaf.min (leaf.max + 1) (leaf_spans t leaf) → length (leaf_spans t leaf) ≤ slots_of t.width Leaf → slot < length (leaf_spans t leaf) → slot ≢ 0
    → column t leaf.row slot + 1 ≡ (span_at (leaf_spans t leaf) slot).first
begins_behind t leaf zero fills few used other = absurd (other refl)
begins_behind t leaf (suc slot) fills few used other =
    let next = fills_next leaf.min (leaf.max + 1) (leaf_spans t leaf) slot fills used in
    let same : suc slot ≡ 1 + slot = omega arith in
    let pivot = ends_at_pivot t leaf slot (omega arith) (omega arith) in
    ap (λ (n : ℕ). n + 1) (ap (column t leaf.row) same ∙ pivot) ∙ sym next

module _ (t : Rooted) (kind : Kind) (leaf : PathStep) (tree : IsTreeOf t kind) (step : IsStepOfLeaf t leaf) where
  facts : IsLeaf t leaf
  facts = leaf_of_step t kind leaf tree step

  pub slot_low : leaf.slot < slots_of t.table.width Leaf
  slot_low = let few = facts.few in let used = step.used in omega arith

  pub place : (col : ℕ) → col < columns t.table.width → IsPlace t leaf.row col
  place col low = record { first = facts.first; last = facts.row; column = low }

  -- the columns of the slot are in the row
  pub pivot_place : IsPlace t leaf.row leaf.slot
  pivot_place = let low = slot_low in let fit = slots_of-columns t.table.width Leaf in place leaf.slot (omega arith)

  pub last_place : leaf.slot + 1 < slots_of t.table.width Leaf → IsPlace t leaf.row (1 + leaf.slot)
  last_place below = let fit = slots_of-columns t.table.width Leaf in place (1 + leaf.slot) (omega arith)

  pub slot_place : IsPlace t leaf.row (slots_of t.table.width Leaf + leaf.slot)
  slot_place = let low = slot_low in let fit = slots_of-columns t.table.width Leaf in place (slots_of t.table.width Leaf + leaf.slot) (omega arith)

  pub first_is_behind : leaf.slot ≢ 0 → word_at t leaf.row leaf.slot + 1 ≡ (here_in t.table leaf).first
  first_is_behind other = begins_behind t.table leaf leaf.slot facts.fills facts.few step.used other

  pub first_fits : (here_in t.table leaf).first < 2 ^ 64
  first_fits =
      let within = fills_within leaf.min (leaf.max + 1) (leaf_spans t.table leaf) leaf.slot facts.fills step.used in
      let from = within.1 in let to = within.2 in let top = facts.within in let fits = greatest_fits t.table.width in
      omega arith

  pub last_is_pivot : leaf.slot + 1 < slots_of t.table.width Leaf → word_at t leaf.row (1 + leaf.slot) ≡ (here_in t.table leaf).last
  last_is_pivot below = ends_at_pivot t.table leaf leaf.slot step.used below

  pub last_is_max : slots_of t.table.width Leaf ≤ leaf.slot + 1 → leaf.max ≡ (here_in t.table leaf).last
  last_is_max past = ends_at_max t.table leaf leaf.slot step.used past

  pub word_is : word_at t leaf.row (slots_of t.table.width Leaf + leaf.slot) ≡ (here_in t.table leaf).word
  word_is = sym (slot_stands t.table leaf leaf.slot step.used).word
