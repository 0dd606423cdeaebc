-- Up to the next level: the new rows are gathered with what stands beside them in the rows above.
use Rattle.mt_splice.proofs.Prelude.{◌≡◌, ℕ, suc, ◌+◌, ◌-◌, ◌<◌, ◌≤◌, List, [], ◌∷◌, ◌++◌, length, take, drop, refl, sym, ap, ◌∙◌, subst, inr, ⊎_elim, arith, length-append, length-take, length-drop, cases_lt, first_row, Item, RowKind, Span, slots_of, spans_from, Fills, Names-named_kind, after, fills_le, some_filled, none_filled, length-spans_from, spans-take, spans-drop, spans_in, expand, Tree, IsRow, Stands, top_of, kind_on, row_most, PathStep, step_in, step_at, path_in, levels, lawful, place, slot_used, EndsHere, Start, rows_at, items_of_row, before, behind, row_at, low_of, high_of, in_place, Gathered, IsWindow, MayWiden}
use Rattle.mt_splice.proofs.TakenIn.{spans_behind}
use Rattle.mt_splice.proofs.Windows.{level_above, fills_above, fills_before, fills_behind}
use Rattle.mt_splice.proofs.Besides.{begin_within}
use Rattle.mt_splice.proofs.Widened.{step_is, spans_of}

-- ---- the row of a path

module _ (t : Tree) (height : ℕ) (stands : Stands t height) (path : List PathStep) (i d : ℕ) (within : i ≤ top_of t) (low : d ≤ height) (is : path ≡ path_in t.table t.root i) where
  pub deep : d < length path
  deep = let all = ap length is ∙ levels t height stands i within in omega arith

  pub number : (first_row ≤ (step_at path d).row) × ((step_at path d).row < first_row + t.rows)
  number =
      let law = lawful t height stands i d (height - d) within (omega arith) in
      let first = (Names-named_kind (row_at t d i).word (kind_on t.gapped (height - d)) law.name.named).0.0 in let last = law.name.in_table in
      let same = ap (λ (z : PathStep). z.row) (step_is t height stands path i d within low is) in
      (omega arith, omega arith)

-- ---- items and their spans

-- spans begin where they fill from
pub begin_there : (lo hi begin : ℕ) (items : List Item) → Fills lo hi (spans_from begin items) → spans_from begin items ≡ spans_from lo items
begin_there lo hi begin [] fills = refl
begin_there lo hi begin (x ∷ items) fills = ap (λ (k : ℕ). record { first = k; last = x.last; word = x.word } ∷ spans_from (x.last + 1) items) fills.0

-- new items between those before a slot and those behind one
spans_between : (lo first last hi begin i k : ℕ) (xs new ys : List Item) → Fills lo first (take i (spans_from lo xs)) → Fills first last (spans_from first new) → Fills last hi (drop k (spans_from begin ys))
    → spans_from lo (take i xs ++ (new ++ drop k ys)) ≡ take i (spans_from lo xs) ++ (spans_from first new ++ drop k (spans_from begin ys))
spans_between lo first last hi begin i k xs new ys front here back =
    let ahead = spans-take i lo xs in let rest = spans-drop k begin ys in
    spans_behind lo first (take i xs) (new ++ drop k ys) (subst (Fills lo first) (sym ahead) front)
    ∙ (λ j. ahead j ++ (spans_behind first last new (drop k ys) here
    ∙ ap (λ (l : List Span). spans_from first new ++ l) (sym (begin_there last hi (after begin (take k ys)) (drop k ys) (subst (Fills last hi) (sym rest) back)) ∙ rest)) j)

none_fill : (lo hi : ℕ) (xs : List Span) → length xs ≡ 0 → Fills lo hi xs → lo ≡ hi
none_fill lo hi [] none fills = fills
none_fill lo hi (x ∷ xs) none fills = absurd (omega arith)

-- ---- one level up

module _ {start : Start} {below : List Span} {left right : List PathStep} {d h : ℕ} {items : List Item} (w : IsWindow start below left right (suc d) h items) (new : List Item) where
  abbrev t : Tree
  t = start.tree

  abbrev i : ℕ
  i = w.from

  within_i : i ≤ top_of t
  within_i = begin_within w.gathered

  abbrev j : ℕ
  j = w.to

  abbrev stands : Stands t start.height
  stands = w.gathered.stands

  abbrev kind : RowKind
  kind = kind_on t.gapped (suc h)

  pub levels_here : start.height ≡ d + suc h
  levels_here = let levels = w.gathered.levels in omega arith

  low : d ≤ start.height
  low = let levels = levels_here in omega arith

  left_step : step_at left d ≡ step_in t.table (row_at t d i) i
  left_step = step_is t start.height stands left i d within_i low w.is_left

  right_step : step_at right d ≡ step_in t.table (row_at t d j) j
  right_step = step_is t start.height stands right j d w.gathered.within low w.is_right

  law_left : IsRow t (suc h) (row_at t d i)
  law_left = lawful t start.height stands i d (suc h) within_i levels_here

  law_right : IsRow t (suc h) (row_at t d j)
  law_right = lawful t start.height stands j d (suc h) w.gathered.within levels_here

  abbrev left_items : List Item
  left_items = items_of_row t.table kind (step_at left d).row (step_at left d).max

  abbrev right_items : List Item
  right_items = items_of_row t.table kind (step_at right d).row (step_at right d).max

  left_are : spans_in t.table (row_at t d i) ≡ spans_from (low_of t d i) left_items
  left_are = spans_of t (suc h) i (row_at t d i) (step_at left d) law_left left_step

  right_are : spans_in t.table (row_at t d j) ≡ spans_from (low_of t d j) right_items
  right_are = spans_of t (suc h) j (row_at t d j) (step_at right d) law_right right_step

  taken : before i (spans_in t.table (row_at t d i)) ≡ take (step_at left d).slot (spans_from (low_of t d i) left_items)
  taken = λ m. take (sym (ap (λ (z : PathStep). z.slot) left_step) m) (left_are m)

  dropped : behind j (spans_in t.table (row_at t d j)) ≡ drop ((step_at right d).slot + 1) (spans_from (low_of t d j) right_items)
  dropped = λ m. drop (sym (ap (λ (z : PathStep). z.slot) right_step) m + 1) (right_are m)

  pub fills_taken : Fills (low_of t d i) (low_of t (suc d) i) (take (step_at left d).slot (spans_from (low_of t d i) left_items))
  fills_taken = subst (Fills (low_of t d i) (low_of t (suc d) i)) taken (fills_before t start.height stands i d h within_i levels_here)

  pub fills_dropped : Fills (high_of t (suc d) j) (high_of t d j) (drop ((step_at right d).slot + 1) (spans_from (low_of t d j) right_items))
  fills_dropped = subst (Fills (high_of t (suc d) j) (high_of t d j)) dropped (fills_behind t start.height stands j d h w.gathered.within levels_here)

  count_taken : (length (take (step_at left d).slot (spans_from (low_of t d i) left_items)) ≡ (step_at left d).slot) × ((step_at left d).slot < slots_of t.table.width kind)
  count_taken =
      let used = slot_used t start.height stands i d within_i low in let most = row_most law_left.name in
      let same = ap (λ (z : PathStep). z.slot) (step_is t start.height stands (path_in t.table t.root i) i d within_i low refl) in
      let slot = ap (λ (z : PathStep). z.slot) left_step in let many = ap length left_are in
      (omega (arith, length-take (step_at left d).slot (spans_from (low_of t d i) left_items)), omega arith)

  count_dropped : (length (drop ((step_at right d).slot + 1) (spans_from (low_of t d j) right_items)) ≡ length right_items - ((step_at right d).slot + 1)) × (length right_items ≤ slots_of t.table.width kind)
  count_dropped =
      let most = row_most law_right.name in let many = ap length right_are in let same = length-spans_from (low_of t d j) right_items in
      (omega (arith, length-drop ((step_at right d).slot + 1) (spans_from (low_of t d j) right_items)), omega arith)

  -- ---- what the code asks

  pub left_slot : (step_at left d).slot ≤ slots_of t.table.width kind
  left_slot = let few = count_taken.1 in omega arith

  pub more_right : (step_at right (suc d)).max < (step_at right d).max → (step_at right d).slot + 1 < length right_items
  more_right less =
      let here = ap (λ (z : PathStep). z.max) right_step in let lower = ap (λ (z : PathStep). z.max) (step_is t start.height stands right j (suc d) w.gathered.within (let levels = levels_here in omega arith) w.is_right) in
      let some = some_filled (high_of t (suc d) j) (high_of t d j) (drop ((step_at right d).slot + 1) (spans_from (low_of t d j) right_items)) fills_dropped (omega arith) in
      let count = count_dropped.0 in omega arith

  pub none_right : (step_at right d).max ≤ (step_at right (suc d)).max → length right_items ≤ (step_at right d).slot + 1
  none_right past =
      let here = ap (λ (z : PathStep). z.max) right_step in let lower = ap (λ (z : PathStep). z.max) (step_is t start.height stands right j (suc d) w.gathered.within (let levels = levels_here in omega arith) w.is_right) in
      let none = ap length (none_filled (high_of t (suc d) j) (high_of t d j) (drop ((step_at right d).slot + 1) (spans_from (low_of t d j) right_items)) fills_dropped (omega arith)) in
      let count = count_dropped.0 in omega arith

  -- ---- what is gathered

  module _ (fills : Fills (low_of t (suc d) i) (high_of t (suc d) j) (spans_from (low_of t (suc d) i) new)) (few : length new ≤ 3) (goes_on : EndsHere t.table.width left right (suc d) (length new) → ⊥) {run : List Item}
      (is_run : run ≡ take (step_at left d).slot left_items ++ (new ++ drop ((step_at right d).slot + 1) right_items)) where
    abbrev heads : List Span
    heads = spans_from (low_of t (suc d) i) new

    abbrev above : List Span
    above = before i (spans_in t.table (row_at t d i)) ++ (heads ++ behind j (spans_in t.table (row_at t d j)))

    spans_are : above ≡ spans_from (low_of t d i) run
    spans_are =
        (λ m. taken m ++ (heads ++ dropped m))
        ∙ sym (ap (spans_from (low_of t d i)) is_run ∙ spans_between (low_of t d i) (low_of t (suc d) i) (high_of t (suc d) j) (high_of t d j) (low_of t d j) (step_at left d).slot ((step_at right d).slot + 1) left_items new right_items fills_taken fills fills_dropped)

    count_run : length run ≡ (step_at left d).slot + (length new + (length right_items - ((step_at right d).slot + 1)))
    count_run =
        ap length is_run
        ∙ omega (
          arith,
          length-append (take (step_at left d).slot left_items) (new ++ drop ((step_at right d).slot + 1) right_items),
          length-append new (drop ((step_at right d).slot + 1) right_items),
          length-take (step_at left d).slot left_items,
          length-drop ((step_at right d).slot + 1) right_items,
          count_taken,
          length-take (step_at left d).slot (spans_from (low_of t d i) left_items),
          length-spans_from (low_of t d i) left_items,
        )

    gathered_above : Gathered start (in_place t (suc d) i j heads) i j d (suc h) (spans_from (low_of t d i) run)
    gathered_above = record {
      stands = stands;
      levels = levels_here;
      order = w.gathered.order;
      within = w.gathered.within;
      first = let first = w.gathered.first in let ahead = fills_le (low_of t d i) (low_of t (suc d) i) (take (step_at left d).slot (spans_from (low_of t d i) left_items)) fills_taken in omega arith;
      last = let last = w.gathered.last in let behind = fills_le (high_of t (suc d) j) (high_of t d j) (drop ((step_at right d).slot + 1) (spans_from (low_of t d j) right_items)) fills_dropped in omega arith;
      fills = subst (Fills (low_of t d i) (high_of t d j)) spans_are (fills_above t start.height stands i j d h w.gathered.order w.gathered.within levels_here heads fills);
      fit = tt;
      level = ap (λ (l : List Span). expand t.table (before i (rows_at t d)) ++ (l ++ expand t.table (behind j (rows_at t d)))) (sym spans_are) ∙ level_above t start.height stands i j d h w.gathered.order w.gathered.within levels_here heads;
    }

    -- one row alone would end the replacement
    two_above : low_of t d i ≡ 0 → high_of t d j ≡ top_of t + 1 → 2 ≤ length run
    two_above first last =
        let levels = levels_here in
        ⊎_elim (λ (many : 1 < length run). many)
        (λ (one : length run ≤ 1).
        let count = count_run in let ahead = count_taken.0 in let rest = count_dropped.0 in
        let from = (place t start.height stands i (suc d) within_i (omega arith)).from in let to = (place t start.height stands j (suc d) w.gathered.within (omega arith)).to in let order = w.gathered.order in
        let some = some_filled (low_of t (suc d) i) (high_of t (suc d) j) heads fills (omega arith) in let same = length-spans_from (low_of t (suc d) i) new in
        let begin = none_fill (low_of t d i) (low_of t (suc d) i) (take (step_at left d).slot (spans_from (low_of t d i) left_items)) (omega arith) fills_taken in
        let end = none_fill (high_of t (suc d) j) (high_of t d j) (drop ((step_at right d).slot + 1) (spans_from (low_of t d j) right_items)) (omega arith) fills_dropped in
        let here = ap (λ (z : PathStep). z.min) (step_is t start.height stands left i (suc d) within_i (omega arith) w.is_left) in
        let there = ap (λ (z : PathStep). z.max) (step_is t start.height stands right j (suc d) w.gathered.within (omega arith) w.is_right) in
        absurd (goes_on (inr (omega arith, inr (record { first = omega arith; last = omega arith })))))
        (cases_lt 1 (length run))

    pub risen : MayWiden start (in_place t (suc d) i j heads) left right d (suc h) run
    risen = record {
      window = record { from = i; to = j; is_left = w.is_left; is_right = w.is_right; gathered = gathered_above };
      few = let count = count_run in let slot = count_taken.1 in let most = count_dropped.1 in omega arith;
      ends = λ leaf. absurd (omega arith);
      two = λ k inner first last. two_above first last;
    }
