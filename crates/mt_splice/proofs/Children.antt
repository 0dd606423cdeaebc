-- The nodes of a level by the slots of the nodes above them.
use Rattle.mt_splice.proofs.Prelude.{◌≡◌, ◌↔◌, ℕ, suc, ◌+◌, ◌-◌, ◌<◌, ◌≤◌, List, Option, Some, None, Bool, true, false, OnTrue, length, nat_lt, if◌then◌else◌, is_some, refl, sym, ap, ◌∙◌, subst, arith, Kind, greatest, columns, first_row, some_columns, Item, item_at, items_at, pivot_column, RowKind, Span, row_in, named_kind, named_row, slots_of, gaps_of, Names-named_kind, length-spans_from, Table, base_of, column, spans_in, root_span, inner_of, kind_on, Tree, IsRow, Stands, top_of, IsTreeOf, tree_as, Rooted, Sheet, OnlyReads, same_tree, row_most, PathStep, At, at_within, path_in, step_at, step_in, slot_for, span_at, levels, step, place, child, lawful, slot_used, inside_agree, some_root, some_tree, rows_at, row_at, Child, IsSlotOfChild, IsChildOn, LeadsTo, spans_on, span_on, slots_of-columns, row_next, rooted, root_named, IsSome}
use Rattle.mt_path.proofs.LeafSlots.{stands_in, fills_within, fills_next, fills_more, fills_slot}
use Rattle.mt_splice.proofs.PathRows.{spans_of_step}

-- a tree with a path that reaches so deep stands, and is as high
pub standing_at : {t : Rooted} {kind : Kind} → IsTreeOf t kind → (i depth : ℕ) → i ≤ greatest t.table.width → depth < length (path_in t.table t.root i) → (h : ℕ) × Stands (tree_as kind t) h × (depth ≤ h)
standing_at {t} {kind} tree i depth within deep =
    let found = some_tree (tree_as kind t) tree.words (some_root t i depth deep) in
    (found.0, found.1, (let long = levels (tree_as kind t) found.0 found.1 i within in omega (arith, deep)))

-- the item in a slot is what stands there
pub item_is : (t : Rooted) (kind : RowKind) (above : PathStep) (item : Item) → IsSlotOfChild t kind above
    → item ≡ item_at (slots_of t.table.width kind) (gaps_of t.table.width kind) t.table.words (base_of t.table above.row) above.slot item.last
    → item.last ≡ (if nat_lt (above.slot + 1) (slots_of t.table.width kind) then column t.table above.row (pivot_column above.slot) else above.max)
    → (item.word ≡ (span_on t.table kind above).word) × (item.last ≡ (span_on t.table kind above).last)
item_is t kind above item slot is last =
    let n = slots_of t.table.width kind in let gaps = gaps_of t.table.width kind in
    let used = slot.used in
    let long = length-spans_from above.min (items_at n gaps t.table.words (base_of t.table above.row) above.max) in
    let there = stands_in n gaps t.table.words (base_of t.table above.row) above.max n 0 above.min above.slot above.slot (omega arith) (omega arith) (omega (arith, used, long)) in
    (ap (λ (x : Item). x.word) is ∙ sym there.word, last ∙ sym there.last)

-- so its word names the node there
module _ (t : Table) (kind : RowKind) (above : PathStep) (word : ℕ) (is : word ≡ (span_on t kind above).word) (named : IsSome (named_kind (span_on t kind above).word)) where
  abbrev number : ℕ
  number = row_in (span_on t kind above).word

  child_named : named_row word ≡ Some number
  child_named = ap named_row is ∙ ap (λ (b : Bool). if b then Some number else None) named

  pub not_none : (found : Option ℕ) → found ≡ named_row word → found ≡ None → ⊥
  not_none found told none = let clash : None ≡ Some number = sym none ∙ (told ∙ child_named) in absurd (cc)

  pub number_is : (row : ℕ) → Some row ≡ named_row word → row ≡ number
  number_is row told = let same : Some row ≡ Some number = told ∙ child_named in cc

-- ---- in a tree that stands

module _ (t : Tree) (h : ℕ) (stands : Stands t h) (i level : ℕ) (within : i ≤ top_of t) (low : suc level ≤ h) where
  abbrev x : Span
  x = row_at t level i

  abbrev y : Span
  y = row_at t (suc level) i

  abbrev spans : List Span
  spans = spans_in t.table x

  abbrev kind : RowKind
  kind = inner_of t.gapped

  abbrev k : ℕ
  k = slot_for spans i

  law : IsRow t (suc (h - suc level)) x
  law = lawful t h stands i level (suc (h - suc level)) within (omega arith)

  named : named_kind x.word ≡ Some kind
  named = law.name.named

  at : At x.first (x.last + 1) spans i y
  at = child t h stands i level within (omega arith)

  inside : (x.first ≤ y.first) × (y.last < x.last + 1)
  inside = at_within x.first (x.last + 1) spans i y at

  y_is : span_at spans k ≡ y
  y_is = sym (row_next t level (root_span t.table t.root) i)

  here : step_at (path_in t.table t.root i) level ≡ step_in t.table x i
  here = step t h stands i level within (omega arith)

  used : k < length spans
  used = let slot = slot_used t h stands i level within (omega arith) in let same = ap (λ (p : PathStep). p.slot) here in omega (arith, slot, same)

  x_within : x.last ≤ top_of t
  x_within = let end = (at_within 0 (top_of t + 1) (rows_at t level) i x (place t h stands i level within (omega arith))).1 in omega (arith, end)

  module _ (above : PathStep) (is : above ≡ step_at (path_in t.table t.root i) level) where
    there : above ≡ step_in t.table x i
    there = is ∙ here

    max_is : above.max ≡ x.last
    max_is = ap (λ (p : PathStep). p.max) there

    spans_are : spans_on t.table kind above ≡ spans
    spans_are = spans_of_step t.table x kind above i named there t.table

    pub span_is : span_on t.table kind above ≡ y
    span_is = (λ m. span_at (spans_are m) (there m).slot) ∙ y_is

    row_is : row_in x.word ≡ above.row
    row_is = sym (ap (λ (p : PathStep). p.row) there)

    pub slot_of_child : IsSlotOfChild (rooted t) kind above
    slot_of_child = record {
      place = record {
        first = subst (λ (n : ℕ). first_row ≤ n) row_is (Names-named_kind x.word kind named).0.0;
        last = subst (λ (n : ℕ). n < first_row + t.rows) row_is law.name.in_table;
        column = some_columns t.table.width;
      };
      used = (let few = used in let long = ap length spans_are in let same = ap (λ (p : PathStep). p.slot) there in omega (arith, few, long, same));
      few = subst (λ (l : List Span). length l ≤ slots_of t.table.width kind) (sym spans_are) (row_most law.name);
      named = ap is_some (ap (λ (z : Span). named_kind z.word) span_is ∙ (lawful t h stands i (suc level) (h - suc level) within (omega arith)).name.named);
    }

    -- the last node below ends with the node above
    pub last_slot : above.max ≤ y.last → y.last ≡ above.max
    last_slot past = let end = inside.1 in let max = max_is in omega (arith, past, end, max)

    -- behind another stands the next, in the next slot
    module _ (more : y.last < above.max) where
      ends : (span_at spans k).last ≡ y.last
      ends = ap (λ (z : Span). z.last) y_is

      one_more : suc k < length spans
      one_more = fills_more x.first (x.last + 1) spans k law.pivots.fills used (λ whole. let max = max_is in let end = ends in omega (arith, end, whole, max, more))

      begins : (span_at spans (suc k)).first ≡ y.last + 1
      begins = fills_next x.first (x.last + 1) spans k law.pivots.fills one_more ∙ ap (λ (n : ℕ). n + 1) ends

      slot_is : slot_for spans (y.last + 1) ≡ suc k
      slot_is =
          let order = (fills_within x.first (x.last + 1) spans (suc k) law.pivots.fills one_more).1 in
          let begin = begins in
          fills_slot x.first (x.last + 1) spans (suc k) (y.last + 1) law.pivots.fills one_more (omega (arith, begin)) (omega (arith, begin, order))

      next_within : y.last + 1 ≤ top_of t
      next_within = let max = max_is in let end = x_within in omega (arith, more, max, end)

      same_row_above : row_at t level (y.last + 1) ≡ x
      same_row_above =
          let max = max_is in let first = inside.0 in let from = at.from in let to = at.to in
          (inside_agree t h stands i (y.last + 1) level within (omega arith) (omega (arith, first, from, to)) (omega (arith, more, max))).0

      pub next_slot : record above { slot = above.slot + 1 } ≡ step_at (path_in t.table t.root (y.last + 1)) level
      next_slot =
          let slot = slot_is in let plus : k + 1 ≡ slot_for spans (y.last + 1) = omega (arith, slot) in
          ap (λ (p : PathStep). record p { slot = p.slot + 1 }) there
          ∙ (ap (λ (n : ℕ). record (step_in t.table x i) { slot = n }) plus
          ∙ (ap (λ (z : Span). step_in t.table z (y.last + 1)) (sym same_row_above) ∙ sym (step t h stands (y.last + 1) level next_within (omega arith))))

-- ---- as the tree is told

-- the node that is named in the slot of the step above it
module _ (s : Sheet) {kind : Kind} (tree : IsTreeOf s.tree kind) {i depth : ℕ} (within : i ≤ greatest s.tree.table.width) (deep : depth < length (path_in s.tree.table s.tree.root i)) (below : 0 < depth)
    (r : RowKind) (root : Some r ≡ named_kind s.tree.root) (above : PathStep) (is : above ≡ step_at (path_in s.tree.table s.tree.root i) (depth - 1)) {s₁ : Sheet} (reads : OnlyReads s s₁) where
  abbrev stand : (h : ℕ) × Stands (tree_as kind s.tree) h × (depth ≤ h)
  stand = standing_at tree i depth within deep

  abbrev T : Tree
  T = tree_as kind s.tree

  abbrev h : ℕ
  h = stand.0

  deep_as : suc (depth - 1) ≡ depth
  deep_as = omega (arith, below)

  low : suc (depth - 1) ≤ h
  low = let low = stand.2 in omega (arith, below, low)

  kind_is : inner_of T.gapped ≡ r
  kind_is =
      let high : h ≡ suc (h - 1) = (let low = stand.2 in omega (arith, below, low)) in
      let same : Some r ≡ Some (inner_of T.gapped) = root ∙ (root_named T h stand.1 ∙ ap (λ (n : ℕ). Some (kind_on T.gapped n)) high) in
      let one : inner_of T.gapped ≡ r = cc in one

  pub may_load_child : IsSlotOfChild s₁.tree r above
  may_load_child =
      subst (λ (t : Rooted). IsSlotOfChild t r above) (sym (same_tree s s₁ reads))
      (subst (λ (q : RowKind). IsSlotOfChild s.tree q above) kind_is (slot_of_child T h stand.1 i (depth - 1) within low above is))

  named_there : span_on s₁.tree.table r above ≡ row_at T depth i
  named_there =
      ap (λ (t : Rooted). span_on t.table r above) (same_tree s s₁ reads)
      ∙ (ap (λ (q : RowKind). span_on s.tree.table q above) (sym kind_is)
      ∙ (span_is T h stand.1 i (depth - 1) within low above is ∙ ap (λ (d : ℕ). row_at T d i) deep_as))

  there_is : step_at (path_in s.tree.table s.tree.root i) depth ≡ step_in s.tree.table (row_at T depth i) i
  there_is = step T h stand.1 i depth within stand.2

  pub number_of_child : row_in (span_on s₁.tree.table r above).word ≡ (step_at (path_in s.tree.table s.tree.root i) depth).row
  number_of_child = ap (λ (z : Span). row_in z.word) named_there ∙ sym (ap (λ (p : PathStep). p.row) there_is)

  pub end_of_child : (span_on s₁.tree.table r above).last ≡ (step_at (path_in s.tree.table s.tree.root i) depth).max
  end_of_child = ap (λ (z : Span). z.last) named_there ∙ sym (ap (λ (p : PathStep). p.max) there_is)

-- ---- the next node of a level

step_goes : {n top : ℕ} {P : Type 0} (goes : Bool) → n < top → (goes ≡ false) ↔ (n ≡ top) → OnTrue goes P → P
step_goes true less none some = some
step_goes false less none some = let last = none.0 refl in absurd (omega (arith, less, last))

module _ {t : Rooted} {kind : Kind} (tree : IsTreeOf t kind) {level : ℕ} {c : Child} (on : IsChildOn t level c) where
  abbrev standing : (h : ℕ) × Stands (tree_as kind t) h × (level + 1 ≤ h)
  standing = standing_at tree on.index (level + 1) on.within on.deep

  low_enough : suc level ≤ standing.0
  low_enough = let low = standing.2 in omega (arith, low)

  abbrev tall : Tree
  tall = tree_as kind t

  last_there : c.last ≡ (row_at tall (suc level) on.index).last
  last_there =
      let next : level + 1 ≡ suc level = omega arith in
      on.last
      ∙ (ap (λ (n : ℕ). (step_at (path_in t.table t.root on.index) n).max) next
      ∙ ap (λ (p : PathStep). p.max) (step tall standing.0 standing.1 on.index (suc level) on.within low_enough))

  -- a step of a row is small
  pub next_slot_fits : c.above.slot + 1 ≤ columns t.table.width
  next_slot_fits =
      let slot = slot_of_child tall standing.0 standing.1 on.index level on.within low_enough c.above on.above in
      let used = slot.used in let few = slot.few in let fit = slots_of-columns t.table.width (inner_of tall.gapped) in omega (arith, used, few, fit)

  pub within_above : c.last < c.above.max → record c.above { slot = c.above.slot + 1 } ≡ step_at (path_in t.table t.root (c.last + 1)) level
  within_above more =
      let last = last_there in
      next_slot tall standing.0 standing.1 on.index level on.within low_enough c.above on.above (omega (arith, more, last))
      ∙ ap (λ (n : ℕ). step_at (path_in t.table t.root (n + 1)) level) (sym last_there)

  pub ends_above : c.above.max ≤ c.last → c.last ≡ c.above.max
  ends_above past = let last = last_there in last ∙ last_slot tall standing.0 standing.1 on.index level on.within low_enough c.above on.above (omega (arith, past, last))

  -- if the node above ends there, the way goes on to the next
  pub way_goes : {way way' : List PathStep} (goes : Bool) → LeadsTo t level way c.above → c.above.max ≤ c.last → c.last < greatest t.table.width → (goes ≡ false) ↔ ((step_at way level).max ≡ greatest t.table.width)
      → OnTrue goes (way' ≡ path_in t.table t.root ((step_at way level).max + 1)) → way' ≡ path_in t.table t.root (c.last + 1)
  way_goes {way} goes leads past more none some =
      let ends : (step_at way level).max ≡ c.last = leads.ends ∙ sym (ends_above past) in
      step_goes goes (omega (arith, ends, more)) none some ∙ ap (λ (n : ℕ). path_in t.table t.root (n + 1)) ends

  pub next_reaches : c.last < greatest t.table.width → level < length (path_in t.table t.root (c.last + 1))
  next_reaches more = let long = levels tall standing.0 standing.1 (c.last + 1) (omega (arith, more)) in let low = low_enough in omega (arith, long, low)

  -- a way to the node above reaches so deep
  pub way_reaches : {way : List PathStep} → (leads : LeadsTo t level way c.above) → level < length way
  way_reaches leads =
      let long = ap length leads.way_is ∙ levels tall standing.0 standing.1 leads.index leads.within in
      let low = low_enough in omega (arith, long, low)
