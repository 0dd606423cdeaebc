-- The leaves at a store's ends: where they stand, and what is made of what stands in them below the store and above it.
use Rattle.mt_splice.proofs.Prelude.{[], ◌≡◌, ◌≢◌, ℕ, ◌+◌, ◌-◌, ◌<◌, ◌≤◌, ◌==◌, ◌&&◌, ◌++◌, List, ◌∷◌, Bool, true, false, length, nat_lt, take, drop, fold, refl, sym, ap, ◌∙◌, subst, inl, inr, arith, length-take, slice_index, if◌then◌else◌, cases_Bool, eqb-true, eqb-false, ltb-true, ltb-false, length-prefix_len, Kind, Width, deepest, first_row, Item, Leaf, Span, row_in, named_kind, RiseFrom, slot_column, gap_at, item_at, items_from, slots_of, gaps_of, run_room, Fills, spans_from, Apart, Names-named_kind, few_items, sizes, no_gaps_of, after, fills_after, fills_rise, length-spans_from, spans-append, spans_below, spans_above, span_stored, stored, holes_joined, edited, starting, slot_reaching, first_of, with_joined, items_below, stored_two, item_stored, items_below-spans, after-items_below, items_above-spans, pushed_onto, root_span, base_of, spans_in, Tree, IsTree, IsRow, Stands, top_of, Rooted, IsPlace, word_at, tree_as, PathStep, slot_for, path_in, step_at, step_in, last_step, leaf_spans, at_once, At, path_of_none, row_of, step_of, step, place, lawful, levels, slot_used, rows_fill, right_begins, region_of, AreEnds, IsLeafStep, leaf_items}
use Rattle.mt_leaf.specs.Places.{slot_above}
use Rattle.mt_path.proofs.TreePaths.{rows_at}
use Rattle.mt_splice.proofs.Gathering.{drop_from}
use Rattle.mt_splice.proofs.LeafItems.{spans-prefix, first_of-take, first_reaching, length-items_below, apart_below, whole_below, part_below, item_in}
use Rattle.mt_splice.proofs.PathRows.{rows_in_order, spans_of_step, leaf_numbered}

-- ---- the leaf of an index

module _ (t : Tree) (h : ℕ) (stands : Stands t h) where
  module _ (leaf : PathStep) (index : ℕ) (inside : index ≤ top_of t) (is : leaf ≡ last_step (path_in t.table t.root index)) where
    abbrev x : Span
    x = row_of t h index

    abbrev items : List Item
    items = leaf_items t.table leaf

    law : IsRow t 0 x
    law = lawful t h stands index h 0 inside (omega arith)

    at_end : leaf ≡ step_of t h index
    at_end = let long : length (path_in t.table t.root index) - 1 ≡ h = (let many = levels t h stands index inside in omega arith) in is ∙ ap (step_at (path_in t.table t.root index)) long

    end_is : leaf ≡ step_in t.table x index
    end_is = at_end ∙ step t h stands index h inside (omega arith)

    spans_are : leaf_spans t.table leaf ≡ spans_in t.table x
    spans_are = spans_of_step t.table x Leaf leaf index law.name.named end_is t.table

    end_at : At 0 (top_of t + 1) (rows_at t h) index x
    end_at = place t h stands index h inside (omega arith)

    end_row : (first_row ≤ leaf.row) × (leaf.row < first_row + t.rows)
    end_row = subst (λ (s : PathStep). (first_row ≤ s.row) × (s.row < first_row + t.rows)) (sym end_is) ((Names-named_kind x.word Leaf law.name.named).0.0, law.name.in_table)

    end_min : leaf.min ≡ x.first
    end_min = ap (λ (s : PathStep). s.min) end_is

    end_max : leaf.max ≡ x.last
    end_max = ap (λ (s : PathStep). s.max) end_is

    end_holds : (leaf.min ≤ index) × (index ≤ leaf.max)
    end_holds = let min = end_min in let max = end_max in let from = end_at.from in let to = end_at.to in (omega arith, omega arith)

    end_fills : Fills leaf.min (leaf.max + 1) (spans_from leaf.min items)
    end_fills =
        subst (λ (ends : ℕ × ℕ). Fills ends.0 ends.1 (leaf_spans t.table leaf)) (λ k. (sym end_min k, sym end_max k + 1)) (subst (Fills x.first (x.last + 1)) (sym spans_are) law.pivots.fills)

    end_rise : RiseFrom leaf.min items
    end_rise = fills_rise leaf.min (leaf.max + 1) items end_fills

    end_apart : Apart (spans_from leaf.min items)
    end_apart = subst Apart (sym spans_are) law.holes.apart

    end_few : length items ≤ slots_of t.table.width Leaf
    end_few = few_items (slots_of t.table.width Leaf) (gaps_of t.table.width Leaf) t.table.words (base_of t.table leaf.row) leaf.max (slots_of t.table.width Leaf) 0

    end_slot : leaf.slot ≡ slot_reaching items index
    end_slot =
        ap (λ (s : PathStep). s.slot) end_is
        ∙ (ap (λ (xs : List Span). slot_for xs index) (sym spans_are)
        ∙ (length-prefix_len (λ (y : Span). nat_lt y.last index) (spans_from leaf.min items) ∙ spans-prefix (λ (last : ℕ). nat_lt last index) leaf.min items))

    end_used : leaf.slot < length items
    end_used =
        let used = slot_used t h stands index h inside (omega arith) in
        let slot = ap (λ (s : PathStep). s.slot) at_end in
        let many = ap length spans_are in let same = length-spans_from leaf.min items in
        omega arith

  -- ---- the leaves at the ends of a store

  module _ (l r : PathStep) (first last : ℕ) (order : first ≤ last) (within : last ≤ top_of t) (is_left : l ≡ last_step (path_in t.table t.root first)) (is_right : r ≡ last_step (path_in t.table t.root last)) where
    abbrev from_within : first ≤ top_of t
    from_within = omega arith

    abbrev left_leaf : Span
    left_leaf = row_of t h first

    abbrev left_at : At 0 (top_of t + 1) (rows_at t h) first left_leaf
    left_at = end_at l first from_within is_left

    abbrev right_leaf : Span
    right_leaf = row_of t h last

    abbrev right_at : At 0 (top_of t + 1) (rows_at t h) last right_leaf
    right_at = end_at r last within is_right

    same_leaf : row_in left_leaf.word ≡ row_in right_leaf.word → left_leaf ≡ right_leaf
    same_leaf = leaf_numbered t h stands first last from_within within

    in_order : (left_leaf ≡ right_leaf → ⊥) → left_leaf.last < right_leaf.first
    in_order apart = elim (cases_Bool (nat_lt left_leaf.last last)) [
      | inl more ↦
          (let more = ltb-true left_leaf.last last more in
          let begins = right_begins t h stands first h from_within (omega arith) (omega arith) in
          let sorted = rows_in_order t h stands (left_leaf.last + 1) last h (omega arith) within (omega arith) in
          omega arith)
      | inr none ↦
          (let none = ltb-false left_leaf.last last none in
          let from = left_at.from in
          absurd (apart (sym (at_once 0 (top_of t + 1) (rows_at t h) last right_leaf right_at left_at.front left_leaf left_at.back (rows_fill t h stands h (omega arith)) left_at.parts (omega arith) (omega arith)).1)))
    ]

    row_left : l.row ≡ row_in left_leaf.word
    row_left = ap (λ (s : PathStep). s.row) (end_is l first from_within is_left)

    row_right : r.row ≡ row_in right_leaf.word
    row_right = ap (λ (s : PathStep). s.row) (end_is r last within is_right)

    abbrev left_spans : List Span
    left_spans = leaf_spans t.table l

    abbrev right_spans : List Span
    right_spans = leaf_spans t.table r

    -- the spans of the region
    abbrev region : Bool → List Span
    region b = if b then left_spans else left_spans ++ starting (l.max + 1) right_spans

    stored_there : (entry : ℕ) (b : Bool) → (l.row == r.row) ≡ b → spans_below left_spans first ++ (span_stored first last entry ∷ spans_above right_spans last) ≡ stored (region b) first last entry
    stored_there entry true same =
        let one = same_leaf (sym row_left ∙ (eqb-true l.row r.row same ∙ row_right)) in
        let spans : right_spans ≡ left_spans = spans_are r last within is_right ∙ (ap (spans_in t.table) (sym one) ∙ sym (spans_are l first from_within is_left)) in
        ap (λ (xs : List Span). spans_below left_spans first ++ (span_stored first last entry ∷ spans_above xs last)) spans
    stored_there entry false other =
        let apart = in_order (λ same. eqb-false l.row r.row other (row_left ∙ (ap (λ (y : Span). row_in y.word) same ∙ sym row_right))) in
        let min = end_min r last within is_right in let max = end_max l first from_within is_left in
        let holds = end_holds l first from_within is_left in let holds' = end_holds r last within is_right in
        let low = holds.1 in let from = holds'.0 in let to = holds'.1 in
        sym
        (stored_two l.min (l.max + 1) r.min (r.max + 1) first last entry left_spans right_spans (end_fills l first from_within is_left) (end_fills r last within is_right) (omega arith) (omega arith) from
        (omega arith))

    -- what stands below the store, its item, and what stands above it, pushed one behind the other
    module _ (entry : ℕ) (below above made : List Item) (is_below : below ≡ items_below l.min (leaf_items t.table l) first) (is_above : above ≡ drop (slot_above (leaf_items t.table r) last) (leaf_items t.table r))
        (is_made : made ≡ fold with_joined (with_joined below (item_stored last entry)) above) where
      abbrev item : Item
      item = item_stored last entry

      below_ends : after l.min below ≡ first
      below_ends =
          let holds = end_holds l first from_within is_left in
          let from = holds.0 in let to = holds.1 in
          let end = fills_after l.min (l.max + 1) (leaf_items t.table l) (end_fills l first from_within is_left) in
          ap (after l.min) is_below ∙ after-items_below l.min first (leaf_items t.table l) (end_rise l first from_within is_left) from (omega arith)

      spans_of_below : spans_from l.min below ≡ spans_below left_spans first
      spans_of_below = ap (spans_from l.min) is_below ∙ items_below-spans l.min first (leaf_items t.table l) (end_rise l first from_within is_left)

      spans_of_above : spans_from (last + 1) above ≡ spans_above right_spans last
      spans_of_above =
          let from = (end_holds r last within is_right).0 in
          ap (spans_from (last + 1)) is_above ∙ items_above-spans r.min last (leaf_items t.table r) (end_rise r last within is_right) (omega arith)

      all_spans : spans_from l.min (below ++ (item ∷ above)) ≡ stored (region (l.row == r.row)) first last entry
      all_spans =
          spans-append l.min below (item ∷ above) ∙ ((λ k. spans_of_below k ++ (span_stored (below_ends k) last entry ∷ spans_of_above k)) ∙ stored_there entry (l.row == r.row) refl)

      made_spans : spans_from l.min made ≡ edited (region (l.row == r.row)) first last entry
      made_spans =
          let apart = subst (λ (xs : List Item). Apart (spans_from l.min xs)) (sym is_below) (apart_below l.min first (leaf_items t.table l) (end_apart l first from_within is_left)) in
          ap (spans_from l.min) is_made ∙ (pushed_onto l.min below (item ∷ above) apart ∙ ap holes_joined all_spans)

-- ---- a step that is told to be a leaf's

stands_as : (t : Rooted) (kind : Kind) → t.root ≢ 0 → IsTree (tree_as kind t) → (h : ℕ) × Stands (tree_as kind t) h
stands_as t kind some (inl empty) = absurd (some empty)
stands_as t kind some (inr stands) = stands

module _ {t : Rooted} {leaf : PathStep} {index : ℕ} (is : IsLeafStep t leaf index) where
  abbrev tree : Tree
  tree = tree_as is.kind t

  abbrev items_there : List Item
  items_there = leaf_items t.table leaf

  abbrev slots : ℕ
  slots = slots_of t.table.width Leaf

  there : (h : ℕ) × Stands tree h
  there = stands_as t is.kind is.some is.tree.words

  pub leaf_row : (first_row ≤ leaf.row) × (leaf.row < first_row + t.rows)
  leaf_row = end_row tree there.0 there.1 leaf index is.within is.is

  pub leaf_slot : leaf.slot ≡ slot_reaching items_there index
  leaf_slot = end_slot tree there.0 there.1 leaf index is.within is.is

  pub leaf_used : leaf.slot < length items_there
  leaf_used = end_used tree there.0 there.1 leaf index is.within is.is

  leaf_few : length items_there ≤ slots
  leaf_few = end_few tree there.0 there.1 leaf index is.within is.is

  pub leaf_rise : RiseFrom leaf.min items_there
  leaf_rise = end_rise tree there.0 there.1 leaf index is.within is.is

  leaf_from : leaf.min ≤ index
  leaf_from = (end_holds tree there.0 there.1 leaf index is.within is.is).0

  pub slot_fits : leaf.slot < slots
  slot_fits = let used = leaf_used in let few = leaf_few in omega arith

  -- the same of the rows after loads
  pub leaf_read : {t' : Rooted} → t' ≡ t → IsLeafStep t' leaf index
  leaf_read same = subst (λ (r : Rooted). IsLeafStep r leaf index) (sym same) is

  -- the column of the slot
  pub slot_place : {width : Width} {n : ℕ} → width ≡ t.table.width → n ≡ slots_of width Leaf → IsPlace t leaf.row (n + leaf.slot)
  slot_place {width} {n} is_width is_n =
      let row = leaf_row in let fits = slot_fits in
      let same : n ≡ slots = is_n ∙ ap (λ (w : Width). slots_of w Leaf) is_width in
      let enough = sizes t.table.width Leaf in
      record { first = row.0; last = row.1; column = omega arith }

  pub slot_small : {width : Width} {n : ℕ} → width ≡ t.table.width → n ≡ slots_of width Leaf → n + leaf.slot ≤ run_room
  slot_small {width} {n} is_width is_n =
      let fits = slot_fits in
      let same : n ≡ slots = is_n ∙ ap (λ (w : Width). slots_of w Leaf) is_width in
      let enough = sizes t.table.width Leaf in
      omega arith

  pub slot_word : {width : Width} {n word : ℕ} → width ≡ t.table.width → n ≡ slots_of width Leaf → word ≡ word_at t leaf.row (n + leaf.slot) → word ≡ word_at t leaf.row (slot_column slots leaf.slot)
  slot_word is_width is_n is_word = is_word ∙ ap (λ (k : ℕ). word_at t leaf.row (k + leaf.slot)) (is_n ∙ ap (λ (w : Width). slots_of w Leaf) is_width)

  -- there is room for what stands there below, the item stored, and another leaf
  pub room_below : {run : List Item} → run ≡ items_below leaf.min items_there index → length run + (slots + 8) ≤ run_room
  room_below is_below =
      let few = leaf_few in let count = length-items_below leaf.min index items_there in let same = ap length is_below in
      let enough = sizes t.table.width Leaf in
      omega arith

  pub room_first : {run : List Item} → run ≡ [] → length run + (leaf.slot - 0) ≤ run_room
  room_first empty = let none = ap length empty in let fits = slot_fits in let enough = sizes t.table.width Leaf in omega arith

  pub read_first : {run run' : List Item} → run ≡ [] → run' ≡ run ++ take (leaf.slot - 0) (items_from slots (gaps_of t.table.width Leaf) t.table.words (base_of t.table leaf.row) leaf.max (slots - 0) 0) → run' ≡ take leaf.slot items_there
  read_first empty is_run =
      let slot : leaf.slot - 0 ≡ leaf.slot = omega arith in let all : slots - 0 ≡ slots = omega arith in
      is_run ∙ (λ k. empty k ++ take (slot k) (items_from slots (gaps_of t.table.width Leaf) t.table.words (base_of t.table leaf.row) leaf.max (all k) 0))

  -- the items before the slot are read
  module _ {run : List Item} (read : run ≡ take leaf.slot items_there) where
    first_there : first_of leaf.min run leaf.slot ≡ first_of leaf.min items_there (slot_reaching items_there index)
    first_there = ap (λ (xs : List Item). first_of leaf.min xs leaf.slot) read ∙ (first_of-take leaf.min leaf.slot items_there ∙ ap (first_of leaf.min items_there) leaf_slot)

    pub first_low : first_of leaf.min run leaf.slot ≤ index
    first_low = let low = first_reaching leaf.min index items_there leaf_from in let same = first_there in omega arith

    pub read_many : leaf.slot ≤ length run
    read_many = let used = leaf_used in let same = ap length read ∙ length-take leaf.slot items_there in omega arith

    pub read_whole : index ≤ first_of leaf.min run leaf.slot → run ≡ items_below leaf.min items_there index
    read_whole from = read ∙ (ap (λ (k : ℕ). take k items_there) leaf_slot ∙ whole_below leaf.min index items_there (let same = first_there in omega arith))

    -- and the word of the slot
    pub read_part : {run' : List Item} {word : ℕ} → first_of leaf.min run leaf.slot < index → word ≡ word_at t leaf.row (slot_column slots leaf.slot) → run' ≡ run ++ (record { last = index - 1; word = word; gap = 0 } ∷ [])
        → run' ≡ items_below leaf.min items_there index
    read_part {run'} {word} from is_word pushed =
        let left : 1 ≤ slots - leaf.slot = (let fits = slot_fits in omega arith) in
        let gaps = gaps_of t.table.width Leaf in
        let here = item_in slots gaps t.table.words (base_of t.table leaf.row) leaf.max (slots - leaf.slot) (0 + leaf.slot) left in
        let slot : 0 + leaf.slot ≡ leaf.slot = omega arith in
        let parts = drop_from slots gaps t.table.words (base_of t.table leaf.row) leaf.max leaf.slot slots 0 leaf_used ∙ here.2 in
        let none : gap_at slots gaps t.table.words (base_of t.table leaf.row) (0 + leaf.slot) ≡ 0 =
        ap (λ (n : ℕ). gap_at slots n t.table.words (base_of t.table leaf.row) (0 + leaf.slot)) (no_gaps_of t.table.width Leaf (λ e. cc)) in
        let words : word ≡ slice_index t.table.words (base_of t.table leaf.row + slot_column slots (0 + leaf.slot)) = is_word ∙ ap (λ (k : ℕ). slice_index t.table.words (base_of t.table leaf.row + slot_column slots k)) (sym slot) in
        pushed
        ∙ ((λ k. read k ++ (record { last = index - 1; word = words k; gap = sym none k } ∷ []))
        ∙ (ap (λ (n : ℕ). take n items_there ++ (record (item_at slots gaps t.table.words (base_of t.table leaf.row) (0 + leaf.slot) here.0) { last = index - 1 } ∷ [])) leaf_slot
        ∙ part_below leaf.min index items_there here.1 (item_at slots gaps t.table.words (base_of t.table leaf.row) (0 + leaf.slot) here.0) (let same = first_there in omega arith)
        (subst (λ (n : ℕ). drop n items_there ≡ item_at slots gaps t.table.words (base_of t.table leaf.row) (0 + leaf.slot) here.0 ∷ here.1) leaf_slot parts)))

-- ---- the ends of a store

module _ {kind : Kind} {t : Rooted} {left right : List PathStep} {first last : ℕ} (ends : AreEnds kind t left right first last) where
  -- no path leads into the empty tree
  no_path : t.root ≡ 0 → (index : ℕ) → path_in t.table t.root index ≡ []
  no_path empty index = path_of_none t.table deepest (root_span t.table t.root) index (ap named_kind empty)

  module _ (some : left ≢ []) where
    root_there : t.root ≢ 0
    root_there = λ empty. some (ends.left_path ∙ no_path empty first)

    pub left_leaf_step : {l : PathStep} → l ≡ last_step left → IsLeafStep t l first
    left_leaf_step is = record {
      kind = kind;
      tree = ends.tree;
      some = root_there;
      within = (let order = ends.order in let within = ends.within in omega arith);
      is = is ∙ ap last_step ends.left_path;
    }

    pub right_leaf_step : {r : PathStep} → r ≡ last_step right → IsLeafStep t r last
    right_leaf_step is = record { kind = kind; tree = ends.tree; some = root_there; within = ends.within; is = is ∙ ap last_step ends.right_path }

  region_of_some : (path : List PathStep) → path ≢ [] → region_of t.table path right ≡ (if (last_step path).row == (last_step right).row then leaf_spans t.table (last_step path) else leaf_spans t.table (last_step path) ++ starting ((last_step path).max + 1) (leaf_spans t.table (last_step right)))
  region_of_some [] some = absurd (some refl)
  region_of_some (s ∷ path) some = refl

  -- what stands above is read after a few loads
  pub leaves_edited : left ≢ [] → (entry : ℕ) {l r : PathStep} {below run made : List Item} {t' : Rooted} → l ≡ last_step left → r ≡ last_step right → below ≡ items_below l.min (leaf_items t.table l) first
      → run ≡ with_joined below (item_stored last entry) → t' ≡ t → made ≡ fold with_joined run (drop (slot_above (leaf_items t'.table r) last) (leaf_items t'.table r)) → spans_from l.min made ≡ edited (region_of t.table left right) first last entry
  leaves_edited some entry {l} {r} {below} {run} {made} {t'} is_left is_right is_below is_run same is_made =
      let at = stands_as t kind (root_there some) ends.tree.words in
      let above : List Item = drop (slot_above (leaf_items t.table r) last) (leaf_items t.table r) in
      let is_all : made ≡ fold with_joined (with_joined below (item_stored last entry)) above = is_made ∙ (λ k. fold with_joined (is_run k) (drop (slot_above (leaf_items (same k).table r) last) (leaf_items (same k).table r))) in
      made_spans (tree_as kind t) at.0 at.1 l r first last ends.order ends.within (is_left ∙ ap last_step ends.left_path) (is_right ∙ ap last_step ends.right_path) entry below above made is_below refl is_all
      ∙ ap (λ (xs : List Span). edited xs first last entry)
      ((λ k. if (is_left k).row == (is_right k).row then leaf_spans t.table (is_left k) else leaf_spans t.table (is_left k) ++ starting ((is_left k).max + 1) (leaf_spans t.table (is_right k))) ∙ sym (region_of_some left some))

-- ---- what is pushed

pub some_with_joined : (items : List Item) (x : Item) → 1 ≤ length (with_joined items x)
some_with_joined [] x = omega arith
some_with_joined (y ∷ []) x = elim (cases_Bool ((y.word == 0) && (x.word == 0))) [ inl t ↦ rw t (omega arith) | inr n ↦ rw n (omega arith) ]
some_with_joined (y ∷ z ∷ items) x = omega arith

-- ---- paths that are not empty

pub some_long : (path : List PathStep) → path ≢ [] → 1 ≤ length path
some_long [] some = absurd (some refl)
some_long (x ∷ path) some = omega arith

pub right_some : {kind : Kind} {t : Rooted} {left right : List PathStep} {first last : ℕ} → AreEnds kind t left right first last → left ≢ [] → right ≢ []
right_some {kind} {t} {left} {right} {first} {last} ends some none = by ends.tree.words
  where
    by : IsTree (tree_as kind t) → ⊥
    by (inl empty) = some (ends.left_path ∙ path_of_none t.table deepest (root_span t.table t.root) first (ap named_kind empty))
    by (inr (h, stands)) = let long = levels (tree_as kind t) h stands last ends.within in let short = ap length (sym ends.right_path ∙ none) in absurd (omega arith)
