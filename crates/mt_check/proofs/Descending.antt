-- From a row that was entered to its children and back.
use Rattle.mt_check.proofs.Prelude.{◌≡◌, ◌≢◌, ℕ, zero, suc, ◌+◌, ◌-◌, ◌^◌, ◌<◌, ◌≤◌, ◌==◌, List, [], ◌∷◌, ◌++◌, Option, Some, None, Bool, true, false, length, get_or, refl, sym, ap, ◌∙◌, subst, inl, inr, arith, nat_eq, nat_le, slice_index, filter, not, Any, Ok, Err, slice_get, flat_map, list_any, pointwise, cases_Bool, and_parts, eqb-true, eqb-false, not-true, Any-from_list_any, Range, none_or_some, deepest, RowKind, Leaf, Inner, Gapped, Item, Span, row_in, named_kind, parent_at, RiseFrom, pivot_column, gap_column, gap_at, item_at, items_from, longest_hole, slots_of, gaps_of, spans_from, leaf_range, longest_in, gap_at-some, some_gaps_of, fills_rise, length-spans_from, Table, base_of, column, spans_in, by_kind, height_of, rows_of, ranges_of, Tree, top_of, items_in, words_in, Sheet, OnlyReads, ranges_of_deeper, rows_of_deeper, height_of_inner, ranges_of_inner, rows_of_inner, of_first_at, by_kind_inner, by_leaf, rows_fit, same_tree, Fault, Walk, Visit, Row, Below, depth_at, has_depth, rise_to, words_of, has_pivots, are_apart, has_holes, longest_of, longest_by, longest_at, tells_gap, has_gaps_from, Way, unless, at_row, own_faults, gaps_by, faults_below, faults_at, no_item, tree_from, way_of, height_from, LeadsToDepth, depth_from, depth_known, IsEntered, IsAnswerAt, below_at}
use Rattle.mt_check.specs.declared.faults.Law.TheVariants as law
use Rattle.mt_check.proofs.Lists.{both_none}
use Rattle.mt_check.proofs.OneRow.{spans_are, some_in, rising_fills}
use Rattle.mt_check.proofs.Passes.{Passes, none_passes}
use Rattle.mt_check.proofs.Counts.{ranges_fit, entries_counted}
use Rattle.mt_check.proofs.Sound.{too_deep}
use Rattle.mt_check.proofs.Onward.{Onward, first_front, rows_within, ranges_within, fault_here, all_faults, all_gaps, all_rows, all_ranges, all_longest}

-- the tree that is walked stays the same
pub tree_stays : (s s' : Sheet) (walk walk' : Walk) (depth : Option ℕ) → OnlyReads s s' → walk' ≡ record walk { leaf_depth = depth } → tree_from walk' s'.tree ≡ tree_from walk s.tree
tree_stays s s' walk walk' depth reads same = λ i. tree_from (same i) (same_tree s s' reads i)

-- ---- by depth

faults_deeper : (t : Tree) (left : ℕ) (way : Way) (x : Span) → 0 < left
    → faults_at t left way x ≡ own_faults t left way x ++ by_kind (named_kind x.word) [] (faults_below (faults_at t (left - 1)) (row_in x.word) 0 (spans_in t.table x) ++ at_row (row_in x.word) (gaps_by (longest_at t.table (left - 1)) t x (named_kind x.word)))
unfolding faults_at
faults_deeper t zero way x deep = absurd (omega arith)
faults_deeper t (suc left) way x deep =
    let same : left ≡ suc left - 1 = omega arith in
    ap (λ (n : ℕ). own_faults t (suc left) way x ++ by_kind (named_kind x.word) [] (faults_below (faults_at t n) (row_in x.word) 0 (spans_in t.table x) ++ at_row (row_in x.word) (gaps_by (longest_at t.table n) t x (named_kind x.word)))) same

longest_deeper : (t : Table) (left : ℕ) (x : Span) → 0 < left → longest_at t left x ≡ longest_by (named_kind x.word) (longest_in (spans_in t x)) (longest_of (longest_at t (left - 1)) (spans_in t x))
unfolding longest_at
longest_deeper t zero x deep = absurd (omega arith)
longest_deeper t (suc left) x deep =
    let same : left ≡ suc left - 1 = omega arith in
    ap (λ (n : ℕ). longest_by (named_kind x.word) (longest_in (spans_in t x)) (longest_of (longest_at t n) (spans_in t x))) same

longest_inner : (kind : RowKind) (leaf inner : ℕ) → kind ≢ Leaf → longest_by (Some kind) leaf inner ≡ inner
longest_inner Leaf leaf inner other = absurd (other refl)
longest_inner Inner leaf inner other = refl
longest_inner Gapped leaf inner other = refl

-- ---- the gap of an item

gap_item : (slots gaps : ℕ) (w : List ℕ) (base max left i k : ℕ) → k < length (items_from slots gaps w base max left i) → (get_or (items_from slots gaps w base max left i) k no_item).gap ≡ gap_at slots gaps w base (i + k)
gap_item slots gaps w base max zero i k within = absurd (omega arith)
gap_item slots gaps w base max (suc zero) i zero within = let same : i ≡ i + 0 = omega arith in ap (gap_at slots gaps w base) same
gap_item slots gaps w base max (suc zero) i (suc k) within = absurd (omega arith)
gap_item slots gaps w base max (suc (suc left)) i k within = elim (cases_Bool (nat_le max (slice_index w (base + pivot_column i)))) [
  | inl ends ↦ rw ends (last k (rw ends at within))
  | inr more ↦ rw more (next (λ j low. gap_item slots gaps w base max (suc left) (i + 1) j low) k (rw more at within))
]
  where
    here : gap_at slots gaps w base i ≡ gap_at slots gaps w base (i + 0)
    here = let same : i ≡ i + 0 = omega arith in ap (gap_at slots gaps w base) same

    last : (k : ℕ) → k < 1 → (get_or (item_at slots gaps w base i (slice_index w (base + pivot_column i)) ∷ []) k no_item).gap ≡ gap_at slots gaps w base (i + k)
    last zero low = here
    last (suc k) low = absurd (omega arith)

    next : ((j : ℕ) → j < length (items_from slots gaps w base max (suc left) (i + 1)) → (get_or (items_from slots gaps w base max (suc left) (i + 1)) j no_item).gap ≡ gap_at slots gaps w base (i + 1 + j))
        → (k : ℕ) → k < suc (length (items_from slots gaps w base max (suc left) (i + 1)))
        → (get_or (item_at slots gaps w base i (slice_index w (base + pivot_column i)) ∷ items_from slots gaps w base max (suc left) (i + 1)) k no_item).gap ≡ gap_at slots gaps w base (i + k)
    next rest zero low = here
    next rest (suc k) low = let same : i + 1 + k ≡ i + suc k = omega arith in rest k (omega arith) ∙ ap (gap_at slots gaps w base) same

-- it is told as the gap word of its slot
pub gap_told : (t : Table) (kind : RowKind) (x : Span) (slot longest : ℕ) → slot < length (items_in t kind x)
    → tells_gap kind (get_or (items_in t kind x) slot no_item).gap longest ≡ tells_gap kind (column t (row_in x.word) (gap_column (slots_of t.width kind) slot)) longest
gap_told t Leaf x slot longest within = refl
gap_told t Inner x slot longest within = refl
gap_told t Gapped x slot longest within =
    let base = base_of t (row_in x.word) in
    let here = gap_item (slots_of t.width Gapped) (gaps_of t.width Gapped) t.words base x.last (slots_of t.width Gapped) 0 slot within in
    let same : 0 + slot ≡ slot = omega arith in
    let word = gap_at-some (slots_of t.width Gapped) (gaps_of t.width Gapped) t.words base slot (some_gaps_of t.width) in
    ap (λ (n : ℕ). n == longest) (here ∙ (ap (gap_at (slots_of t.width Gapped) (gaps_of t.width Gapped) t.words base) same ∙ word))

-- ---- a row that was entered

module _ (t : Tree) (visit : Visit) (row : Row) (entered : IsEntered t visit row) where
  abbrev x : Span
  x = visit.span

  abbrev way : Way
  way = way_of visit

  passes : Passes t visit.left way x
  passes = none_passes t visit.left way x entered.kept

  kind_is : passes.kind ≡ row.kind
  kind_is = let same = sym passes.named ∙ entered.named in cc

  pub some_left : 0 < visit.left
  some_left = by visit.left passes.depth
    where
      by : (left : ℕ) → has_depth (height_from t) left passes.kind ≡ true → 0 < left
      by zero deep = absurd (too_deep t passes.kind deep)
      by (suc left) deep = omega arith

  spans_here : spans_in t.table x ≡ spans_from x.first row.items.items
  spans_here = spans_are t.table row.kind x entered.named ∙ ap (spans_from x.first) (sym entered.items)

  pub many_here : length (spans_in t.table x) ≡ length row.items.items
  many_here = ap (λ (l : List Span). length l) spans_here ∙ length-spans_from x.first row.items.items

  pub some_here : 1 ≤ length (spans_in t.table x)
  some_here = let some = some_in t.table row.kind x in let same = ap (λ (l : List Item). length l) entered.items in let many = many_here in omega arith

  pub risen : RiseFrom x.first row.items.items
  risen =
      let pivots = subst (λ (k : RowKind). has_pivots t.table k x ≡ true) kind_is passes.pivots in
      let rise = (and_parts (rise_to x.first x.last (items_in t.table row.kind x)) (pointwise nat_eq (words_of t.table (row_in x.word)) (words_in t.table row.kind x)) pivots).0 in
      subst (RiseFrom x.first) (sym entered.items) (fills_rise x.first (x.last + 1) (items_in t.table row.kind x) (rising_fills x.first x.last (items_in t.table row.kind x) rise))

  -- ---- a leaf

  module _ (leaf : row.kind ≡ Leaf) where
    named_leaf : named_kind x.word ≡ Some Leaf
    named_leaf = entered.named ∙ ap (λ (k : RowKind). Some k) leaf

    pub leaf_entry : Any (λ (i : Item). i.word ≢ 0) row.items.items
    leaf_entry =
        let holes = subst (λ (k : RowKind). has_holes (nat_le (top_of t) x.last) k (items_in t.table k x) ≡ true) (kind_is ∙ leaf) passes.holes in
        let some = (and_parts (are_apart false (nat_le (top_of t) x.last) (items_in t.table Leaf x)) (list_any (λ (i : Item). not (i.word == 0)) (items_in t.table Leaf x)) holes).1 in
        let items : row.items.items ≡ items_in t.table Leaf x = entered.items ∙ ap (λ (k : RowKind). items_in t.table k x) leaf in
        let any = Any-from_list_any (λ (i : Item). not (i.word == 0)) row.items.items (ap (list_any (λ (i : Item). not (i.word == 0))) items ∙ some) in
        (any.0, any.1, any.2, any.3, eqb-false any.1.word 0 (not-true (any.1.word == 0) any.4))

    pub leaf_answer : IsAnswerAt t visit (Ok (record { rows = 1; ranges = length (filter (λ (i : Item). not (i.word == 0)) row.items.items); longest = longest_hole x.first row.items.items }))
    leaf_answer =
        let deep = some_left in (
          faults_deeper t visit.left way x deep ∙ both_none (own_faults t visit.left way x) _ entered.kept (by_leaf (named_kind x.word) [] _ named_leaf),
          (λ i. record {
            rows = length (sym (rows_of_deeper t.table visit.left x deep ∙ by_leaf (named_kind x.word) (row_in x.word ∷ []) _ named_leaf) i);
            ranges = (entries_counted x.first row.items.items ∙ ap (λ (l : List Span). length (flat_map leaf_range l)) (sym spans_here) ∙ ap (λ (l : List Range). length l) (sym (ranges_of_deeper t.table visit.left x deep ∙ by_leaf (named_kind x.word) (flat_map leaf_range (spans_in t.table x)) _ named_leaf))) i;
            longest = (ap longest_in (sym spans_here) ∙ sym (longest_deeper t.table visit.left x deep ∙ ap (λ (k : Option RowKind). longest_by k (longest_in (spans_in t.table x)) (longest_of (longest_at t.table (visit.left - 1)) (spans_in t.table x))) named_leaf)) i;
          }),
        )

    pub leaf_depth : (walk walk' : Walk) → walk' ≡ record walk { leaf_depth = depth_known walk.leaf_depth visit.left row.kind } → LeadsToDepth (height_from t) (depth_from t visit.left x) walk.leaf_depth → walk'.leaf_depth ≡ Some (height_from t)
    leaf_depth walk walk' known leads =
        let deep = subst (λ (k : RowKind). has_depth (height_from t) visit.left k ≡ true) (kind_is ∙ leaf) passes.depth in
        let here = eqb-true (depth_at visit.left) (height_from t) (and_parts (nat_le (depth_at visit.left) deepest) (depth_at visit.left == height_from t) deep).1 in
        ap (λ (w : Walk). w.leaf_depth) known ∙ (ap (depth_known walk.leaf_depth visit.left) leaf ∙ by walk.leaf_depth here leads)
      where
        by : (known : Option ℕ) → depth_at visit.left ≡ height_from t → LeadsToDepth (height_from t) (depth_from t visit.left x) known → depth_known known visit.left Leaf ≡ Some (height_from t)
        by None here leads = ap (λ (n : ℕ). Some n) here
        by (Some depth) here leads = ap (λ (n : ℕ). Some n) leads

  -- ---- an inner row

  module _ (inner : row.kind ≢ Leaf) where
    abbrev pub under : ℕ
    under = visit.left - 1

    abbrev pub children : List Span
    children = spans_in t.table x

    abbrev gaps_hold : Bool
    gaps_hold = has_gaps_from (longest_at t.table under) t.table row.kind row.number 0 children

    whole : faults_at t visit.left way x ≡ faults_below (faults_at t under) row.number 0 children ++ at_row row.number (unless gaps_hold law.Gaps)
    whole =
        let below : List Fault = faults_below (faults_at t under) (row_in x.word) 0 children ++ at_row (row_in x.word) (gaps_by (longest_at t.table under) t x (named_kind x.word)) in
        faults_deeper t visit.left way x some_left
        ∙ ((λ i. entered.kept i ++ by_kind (named_kind x.word) [] below)
        ∙ ((λ i. by_kind (entered.named i) [] (faults_below (faults_at t under) (row_in x.word) 0 children ++ at_row (row_in x.word) (gaps_by (longest_at t.table under) t x (entered.named i))))
        ∙ (by_kind_inner row.kind [] (faults_below (faults_at t under) (row_in x.word) 0 children ++ at_row (row_in x.word) (gaps_by (longest_at t.table under) t x (Some row.kind))) inner
        ∙ (λ i. faults_below (faults_at t under) (sym entered.number i) 0 children ++ at_row (sym entered.number i) (unless (has_gaps_from (longest_at t.table under) t.table row.kind (sym entered.number i) 0 children) law.Gaps)))))

    pub child_span : (slot : ℕ) (y : Span) → Some y ≡ slice_get (spans_from x.first row.items.items) slot → Some y ≡ slice_get children slot
    child_span slot y at = at ∙ ap (λ (l : List Span). slice_get l slot) (sym spans_here)

    -- the first child leads as deep as the row
    first_leads : (start : Option ℕ) (y : Span) → visit.left ≤ deepest → Some y ≡ slice_get children 0 → LeadsToDepth (height_from t) (depth_from t visit.left x) start → LeadsToDepth (height_from t) (depth_from t under y) start
    first_leads start y low at leads =
        let deep = some_left in
        let here = height_of_inner t.table visit.left x row.kind deep entered.named inner in
        let next = of_first_at (height_of t.table under) children y at in
        let same : depth_from t visit.left x ≡ depth_from t under y = omega (arith, here, next) in
        subst (λ (n : ℕ). LeadsToDepth (height_from t) n start) same leads

    pub child_leads : (slot : ℕ) (start known : Option ℕ) (below : Below) (gaps : Bool) (y : Span) → visit.left ≤ deepest → LeadsToDepth (height_from t) (depth_from t visit.left x) start → Onward t under row.kind row.number children slot start known below gaps
        → Some y ≡ slice_get children slot → LeadsToDepth (height_from t) (depth_from t under y) known
    child_leads slot start known below gaps y low leads onward at = elim (none_or_some slot) [
      | inl none ↦
          subst (LeadsToDepth (height_from t) (depth_from t under y)) (sym (onward.first none)) (first_leads start y low (at ∙ ap (slice_get children) none) leads)
      | inr some ↦ subst (LeadsToDepth (height_from t) (depth_from t under y)) (sym (onward.others some)) refl
    ]

    -- ---- answers

    pub child_fault : (slot : ℕ) (start known : Option ℕ) (below : Below) (gaps : Bool) → Onward t under row.kind row.number children slot start known below gaps → (y : Span) → Some y ≡ slice_get children slot
        → (fault : Fault) → slice_get (faults_at t under (record { from = row.number; parent = parent_at row.number slot }) y) 0 ≡ Some fault → IsAnswerAt t visit (Err fault)
    child_fault slot start known below gaps onward y at fault first =
        ap (λ (fs : List Fault). slice_get fs 0) whole
        ∙ first_front (faults_below (faults_at t under) row.number 0 children) (at_row row.number (unless gaps_hold law.Gaps)) fault (fault_here t under row.kind row.number children slot start known below gaps onward y at fault first)

    module _ (slot : ℕ) (start known : Option ℕ) (below : Below) (gaps : Bool) (onward : Onward t under row.kind row.number children slot start known below gaps) (past : length children ≤ slot) where
      pub gap_fault : gaps ≡ false → IsAnswerAt t visit (Err (record { row = row.number; law = law.Gaps }))
      gap_fault broken =
          let wrong : gaps_hold ≡ false = sym (all_gaps t under row.kind row.number children slot start known below gaps onward past) ∙ broken in
          ap (λ (fs : List Fault). slice_get fs 0) (whole ∙ (λ i. all_faults t under row.kind row.number children slot start known below gaps onward past i ++ at_row row.number (unless (wrong i) law.Gaps)))

      pub all_answer : gaps ≡ true → IsAnswerAt t visit (Ok below)
      all_answer kept =
          let right : gaps_hold ≡ true = sym (all_gaps t under row.kind row.number children slot start known below gaps onward past) ∙ kept in
          let deep = some_left in (
            whole ∙ (λ i. all_faults t under row.kind row.number children slot start known below gaps onward past i ++ at_row row.number (unless (right i) law.Gaps)),
            (λ i. record {
              rows = (all_rows t under row.kind row.number children slot start known below gaps onward past ∙ (let one : 1 + length (flat_map (rows_of t.table under) children) ≡ suc (length (flat_map (rows_of t.table under) children)) = omega arith in one) ∙ ap (λ (l : List ℕ). length l) (sym (rows_of_inner t.table visit.left x row.kind deep entered.named inner))) i;
              ranges = (all_ranges t under row.kind row.number children slot start known below gaps onward past ∙ ap (λ (l : List Range). length l) (sym (ranges_of_inner t.table visit.left x row.kind deep entered.named inner))) i;
              longest = (all_longest t under row.kind row.number children slot start known below gaps onward past
                  ∙ sym (longest_deeper t.table visit.left x deep ∙ (ap (λ (k : Option RowKind). longest_by k (longest_in children) (longest_of (longest_at t.table under) children)) entered.named ∙ longest_inner row.kind (longest_in children) (longest_of (longest_at t.table under) children) inner))) i;
            }),
          )

      pub all_depth : known ≡ Some (height_from t)
      all_depth = onward.others (let some = some_here in omega arith)

    -- ---- the counts fit

    pub rows_add : (slot : ℕ) (start known : Option ℕ) (below child : Below) (gaps : Bool) → visit.left ≤ deepest → Onward t under row.kind row.number children slot start known below gaps → (y : Span) → Some y ≡ slice_get children slot → child ≡ below_at t under y → below.rows + child.rows < 2 ^ 64
    rows_add slot start known below child gaps low onward y at is =
        let all : length (rows_of t.table visit.left x) ≡ suc (length (flat_map (rows_of t.table under) children)) = ap (λ (l : List ℕ). length l) (rows_of_inner t.table visit.left x row.kind some_left entered.named inner) in
        omega (arith, all, rows_fit t.table visit.left x low, rows_within t under row.kind row.number children slot start known below gaps onward y at child is)

    pub ranges_add : (slot : ℕ) (start known : Option ℕ) (below child : Below) (gaps : Bool) → visit.left ≤ deepest → Onward t under row.kind row.number children slot start known below gaps → (y : Span) → Some y ≡ slice_get children slot → child ≡ below_at t under y → below.ranges + child.ranges < 2 ^ 64
    ranges_add slot start known below child gaps low onward y at is =
        let all : length (ranges_of t.table visit.left x) ≡ length (flat_map (ranges_of t.table under) children) = ap (λ (l : List Range). length l) (ranges_of_inner t.table visit.left x row.kind some_left entered.named inner) in
        omega (arith, all, ranges_fit t.table visit.left x low, ranges_within t under row.kind row.number children slot start known below gaps onward y at child is)
