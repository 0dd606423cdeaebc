-- The walk through the children of a row: what each call of it is asked for and leaves.
use Rattle.mt_check.proofs.Prelude.{◌≡◌, ◌≢◌, ◌⊎◌, inl, inr, ℕ, zero, suc, ◌+◌, ◌-◌, ◌*◌, ◌^◌, ◌<◌, ◌≤◌, ◌&&◌, List, Option, Some, Bool, true, false, length, refl, sym, ap, ◌∙◌, subst, arith, Result, Ok, Err, OnOk, max, slice_index_or, slice_get, slice_get_within, deepest, RowKind, Leaf, Inner, Gapped, Item, parent_at, spans_from, gap_column, slots_of, column, spans_in, Tree, items_in, Sheet, OnlyReads, Fault, Gaps, Walk, Visit, Row, Below, tells_gap, own_faults, faults_at, no_item, tree_from, way_of, height_from, LeadsToDepth, depth_from, depth_known, IsEntered, IsAnswerAt, below_at, reads_on, same_tree}
use Rattle.mt_check.proofs.Loaded.{none_read}
use Rattle.mt_check.proofs.Onward.{first_front, Onward, onward_begins, onward_next}
use Rattle.mt_check.proofs.Descending.{tree_stays, gap_told, some_left, many_here, child_span, child_leads, child_fault, gap_fault, all_answer, all_depth, rows_add, ranges_add}

-- the walk through a row's children, up to a slot
pub record Goes (s s' : Sheet) (walk walk' : Walk) (visit : Visit) (row : Row) (slot : ℕ) (below : Below) (gaps : Bool) : Type 0 where
  pub rest : OnlyReads s s'
  pub same : walk' ≡ record walk { leaf_depth = walk'.leaf_depth }
  pub onward : Onward (tree_from walk s.tree) (visit.left - 1) row.kind row.number (spans_in s.tree.table visit.span) slot walk.leaf_depth walk'.leaf_depth below gaps

pub goes_begin : (s : Sheet) (walk : Walk) (visit : Visit) (row : Row) → Goes s s walk walk visit row 0 (record { rows = 1; ranges = 0; longest = 0 }) true
goes_begin s walk visit row = record { rest = none_read s; same = refl; onward = onward_begins (tree_from walk s.tree) (visit.left - 1) row.kind row.number (spans_in s.tree.table visit.span) walk.leaf_depth }

module _ (s s' : Sheet) (walk walk' : Walk) (visit : Visit) (row : Row) (slot : ℕ) (below : Below) (gaps : Bool) (low : visit.left ≤ deepest) (leads : LeadsToDepth (height_from (tree_from walk s.tree)) (depth_from (tree_from walk s.tree) visit.left visit.span) walk.leaf_depth)
    (entered : IsEntered (tree_from walk s.tree) visit row) (inner : row.kind ≢ Leaf) (goes : Goes s s' walk walk' visit row slot below gaps) where
  abbrev t : Tree
  t = tree_from walk s.tree

  abbrev t' : Tree
  t' = tree_from walk' s'.tree

  abbrev under : ℕ
  under = visit.left - 1

  stays : t' ≡ t
  stays = tree_stays s s' walk walk' walk'.leaf_depth goes.rest goes.same

  -- the visit of a child
  module _ (v : Visit) (is : v ≡ record { left = visit.left - 1; from = row.number; parent = parent_at row.number slot; span = v.span }) (at : Some v.span ≡ slice_get (spans_from visit.span.first row.items.items) slot) where
    left_is : v.left ≡ under
    left_is = ap (λ (u : Visit). u.left) is

    way_is : way_of v ≡ record { from = row.number; parent = parent_at row.number slot }
    way_is = λ i. record { from = (is i).from; parent = (is i).parent }

    here : Some v.span ≡ slice_get (spans_in s.tree.table visit.span) slot
    here = child_span t visit row entered inner slot v.span at

    pub child_low : v.left ≤ deepest
    child_low = let same = left_is in omega arith

    pub child_falls : 2 * v.left + 1 < 2 * visit.left
    child_falls = let same = left_is in let deep = some_left t visit row entered in omega arith

    pub child_depth : LeadsToDepth (height_from t') (depth_from t' v.left v.span) walk'.leaf_depth
    child_depth =
        let leading = child_leads t visit row entered inner slot walk.leaf_depth walk'.leaf_depth below gaps v.span low leads goes.onward here in
        subst (λ (n : ℕ). LeadsToDepth (height_from t') (depth_from t' n v.span) walk'.leaf_depth) (sym left_is)
        (subst (λ (u : Tree). LeadsToDepth (height_from u) (depth_from u under v.span) walk'.leaf_depth) (sym stays) leading)

    same_faults : faults_at t' v.left (way_of v) v.span ≡ faults_at t under (record { from = row.number; parent = parent_at row.number slot }) v.span
    same_faults = λ i. faults_at (stays i) (left_is i) (way_is i) v.span

    same_below : below_at t' v.left v.span ≡ below_at t under v.span
    same_below = λ i. below_at (stays i) (left_is i) v.span

    pub child_answer : (fault : Fault) → IsAnswerAt t' v (Err fault) → IsAnswerAt t visit (Err fault)
    child_answer fault first = child_fault t visit row entered inner slot walk.leaf_depth walk'.leaf_depth below gaps goes.onward v.span here fault (ap (λ (fs : List Fault). slice_get fs 0) (sym same_faults) ∙ first)

    module _ (child : Below) (answer : IsAnswerAt t' v (Ok child)) where
      found : child ≡ below_at t under v.span
      found = answer.1 ∙ same_below

      pub rows_fit_in : below.rows + child.rows < 2 ^ 64
      rows_fit_in = rows_add t visit row entered inner slot walk.leaf_depth walk'.leaf_depth below child gaps low goes.onward v.span here found

      pub ranges_fit_in : below.ranges + child.ranges < 2 ^ 64
      ranges_fit_in = ranges_add t visit row entered inner slot walk.leaf_depth walk'.leaf_depth below child gaps low goes.onward v.span here found

      told : tells_gap row.kind (slice_index_or row.items.items slot no_item).gap child.longest ≡ tells_gap row.kind (column t.table row.number (gap_column (slots_of t.table.width row.kind) slot)) child.longest
      told =
          let within : slot < length (items_in t.table row.kind visit.span) =
          (let inside = slice_get_within (spans_in s.tree.table visit.span) slot v.span (sym here) in let many = many_here t visit row entered in let same = ap (λ (l : List Item). length l) entered.items in omega arith) in
          ap (λ (l : List Item). tells_gap row.kind (slice_index_or l slot no_item).gap child.longest) entered.items
          ∙ (gap_told t.table row.kind visit.span slot child.longest within
          ∙ ap (λ (r : ℕ). tells_gap row.kind (column t.table r (gap_column (slots_of t.table.width row.kind) slot)) child.longest) (sym entered.number))

      pub goes_next : (s'' : Sheet) (walk'' : Walk) (below' : Below) (gaps' : Bool) → OnlyReads s' s'' → walk'' ≡ record walk' { leaf_depth = walk''.leaf_depth } → walk''.leaf_depth ≡ Some (height_from t')
          → gaps' ≡ (gaps && tells_gap row.kind (slice_index_or row.items.items slot no_item).gap child.longest)
          → below' ≡ record { rows = below.rows + child.rows; ranges = below.ranges + child.ranges; longest = max below.longest child.longest } → Goes s s'' walk walk'' visit row (slot + 1) below' gaps'
      goes_next s'' walk'' below' gaps' reads kept depth tells more = record {
        rest = reads_on s s' s'' goes.rest reads;
        same = kept ∙ ap (λ (w : Walk). record w { leaf_depth = walk''.leaf_depth }) goes.same;
        onward = onward_next t under row.kind row.number (spans_in s.tree.table visit.span) slot walk.leaf_depth walk'.leaf_depth below gaps goes.onward v.span here child below' walk''.leaf_depth gaps'
            (sym same_faults ∙ answer.0) found (depth ∙ ap (λ (u : Tree). Some (height_from u)) stays) (tells ∙ ap (λ (b : Bool). gaps && b) told) more;
      }

  -- behind the last child
  module _ (past : length row.items.items ≤ slot) where
    beyond : length (spans_in s.tree.table visit.span) ≤ slot
    beyond = let many = many_here t visit row entered in omega arith

    pub gaps_answer : gaps ≡ false → IsAnswerAt t visit (Err (record { row = row.number; law = Gaps }))
    gaps_answer broken = gap_fault t visit row entered inner slot walk.leaf_depth walk'.leaf_depth below gaps goes.onward beyond broken

    pub last_answer : gaps ≡ true → IsAnswerAt t visit (Ok below)
    last_answer kept = all_answer t visit row entered inner slot walk.leaf_depth walk'.leaf_depth below gaps goes.onward beyond kept

    pub last_depth : walk'.leaf_depth ≡ Some (height_from t)
    last_depth = all_depth t visit row entered inner slot walk.leaf_depth walk'.leaf_depth below gaps goes.onward beyond

-- ---- from a row to its children and back

pub inner_walk : (walk walk' : Walk) (left : ℕ) (kind : RowKind) → kind ≢ Leaf → walk' ≡ record walk { leaf_depth = depth_known walk.leaf_depth left kind } → walk' ≡ walk
inner_walk walk walk' left Leaf inner known = absurd (inner refl)
inner_walk walk walk' left Inner inner known = known
inner_walk walk walk' left Gapped inner known = known

module _ (s s' : Sheet) (walk walk' : Walk) (visit : Visit) (row : Row) (reads : OnlyReads s s') (same : walk' ≡ walk) where
  same_walk : tree_from walk' s'.tree ≡ tree_from walk s.tree
  same_walk = λ i. tree_from (same i) (same_tree s s' reads i)

  pub still_leads : LeadsToDepth (height_from (tree_from walk s.tree)) (depth_from (tree_from walk s.tree) visit.left visit.span) walk.leaf_depth
      → LeadsToDepth (height_from (tree_from walk' s'.tree)) (depth_from (tree_from walk' s'.tree) visit.left visit.span) walk'.leaf_depth
  still_leads leads =
      subst (λ (w : Walk). LeadsToDepth (height_from (tree_from walk' s'.tree)) (depth_from (tree_from walk' s'.tree) visit.left visit.span) w.leaf_depth) (sym same)
      (subst (λ (t : Tree). LeadsToDepth (height_from t) (depth_from t visit.left visit.span) walk.leaf_depth) (sym same_walk) leads)

  pub still_entered : IsEntered (tree_from walk s.tree) visit row → IsEntered (tree_from walk' s'.tree) visit row
  still_entered entered = subst (λ (t : Tree). IsEntered t visit row) (sym same_walk) entered

  pub answer_back : (result : Result Below Fault) → IsAnswerAt (tree_from walk' s'.tree) visit result → IsAnswerAt (tree_from walk s.tree) visit result
  answer_back result answer = subst (λ (t : Tree). IsAnswerAt t visit result) same_walk answer

  pub depth_back : (result : Result Below Fault) (known : Option ℕ) → OnOk result (known ≡ Some (height_from (tree_from walk' s'.tree))) → OnOk result (known ≡ Some (height_from (tree_from walk s.tree)))
  depth_back result known depth = subst (λ (t : Tree). OnOk result (known ≡ Some (height_from t))) same_walk depth

  pub walk_back : (walk'' : Walk) → walk'' ≡ record walk' { leaf_depth = walk''.leaf_depth } → walk'' ≡ record walk { leaf_depth = walk''.leaf_depth }
  walk_back walk'' kept = kept ∙ ap (λ (w : Walk). record w { leaf_depth = walk''.leaf_depth }) same

-- the first fault of a row itself is the first of all
pub own_first : (t : Tree) (visit : Visit) (fault : Fault) → slice_get (own_faults t visit.left (way_of visit) visit.span) 0 ≡ Some fault → IsAnswerAt t visit (Err fault)
unfolding faults_at
own_first t visit fault first = by visit.left first
  where
    by : (left : ℕ) → slice_get (own_faults t left (way_of visit) visit.span) 0 ≡ Some fault → slice_get (faults_at t left (way_of visit) visit.span) 0 ≡ Some fault
    by zero first = first
    by (suc left) first = first_front (own_faults t (suc left) (way_of visit) visit.span) _ fault first

pub not_leaf : (kind : RowKind) → (kind ≡ Inner) ⊎ (kind ≡ Gapped) → kind ≢ Leaf
not_leaf kind (inl inner) = λ leaf. cc
not_leaf kind (inr gapped) = λ leaf. cc
