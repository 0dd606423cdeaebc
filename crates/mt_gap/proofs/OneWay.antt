-- A search that goes into one row in each level: what it has seen of a row, and how far it has come.
use Rattle.mt_gap.proofs.Prelude.{◌≡◌, ◌≢◌, ℕ, zero, suc, ◌+◌, ◌-◌, ◌*◌, ◌<◌, ◌≤◌, ◌⊎◌, List, [], ◌∷◌, ◌++◌, Bool, true, false, Option, Some, None, length, max, min, take, refl, sym, ap, ◌∙◌, subst, inl, inr, arith, append_assoc, append-nil, length-append, AllByRecursion, flat_map, cases_Bool, take_more, Kind, Hole, clip, kept, lowest_in, highest_in, columns, deepest, greatest, RowKind, Leaf, Gapped, Span, row_in, named_kind, Fills, one_row_more, Tree, IsRow, Stands, top_of, tree_on, IsTreeOf, Rooted, Sheet, ReadsUpTo, loaded, root_span, spans_in, height_in, height_by_depth, levels_here, Handle, PathStep, handle_in, path_in, step_at, no_step, row_on, below, slot_for, span_at, step_in, EntersLeaf, tree_kept, no_reads, one_read, reads_more, reads_up, at_slot, at_parts, at_once, at_within, At, row_next, row_of, levels, step, row_on_top, some_root, Child, Below, Side, Window, leaf_hole, child_hole, children_in, children_by, children_below, row_children, root_child, IsGapped, MayLoad, picked, AreLeaves, may_have, inside, narrow, narrow_up, next_up, has_sure, into_one_more, with_room, with_room_up, asked_for, pick_for, sought_in, sought_to, StandsInSlot, AreAsked, IsSearchedBelow, IsWayTo, EndsInLeaf, IsAreaAt, with_child, ends_with, ends_where, forgets_where, if◌then◌else◌}
use Rattle.mt_path.proofs.Places as places
use Rattle.mt_gap.specs.declared.ways.Below.TheVariants as below_row
use Rattle.mt_gap.specs.declared.ways.Side.TheVariants as sides
use Rattle.mt_gap.proofs.Asking.{ask_on, ask_stops, one_asked, up-append}
use Rattle.mt_gap.proofs.HolesBelow.{holes_below}
use Rattle.mt_gap.proofs.ChildLists.{spans, spans-append, spans_of_row, holes_of_children}
use Rattle.mt_gap.proofs.Descents.{Asks, asks_root, come_root, gapped_words, high_empty, high_in_tree, low_empty, low_in_tree, leaves_have, next_for, row_may_load}
use Rattle.mt_gap.proofs.Kept.{Between, kept_either, leaf_between, holes_between, lowest_between}
use Rattle.mt_gap.proofs.NarrowedUp.{highest_more}

-- ---- in a row

module _ (xs ys : List Child) where
  stays_in : (slot : ℕ) (x : Child) → StandsInSlot xs slot x → StandsInSlot (xs ++ ys) slot x
  stays_in slot x at = record {
    front = at.front;
    back = at.back ++ ys;
    parts = ap (λ (l : List Child). l ++ ys) at.parts ∙ append_assoc at.front (x ∷ at.back) ys;
    count = at.count;
  }

  widen : (asked : List Child) (b : Below) → AreAsked xs asked b → AreAsked (xs ++ ys) asked b
  widen asked below_row.Nothing is = is
  widen asked (below_row.One slot span) is = record { child = is.child; alone = is.alone; is = is.is; stands = stays_in slot is.child is.stands }
  widen asked below_row.More is = is

module _ (w : Window) (before : List Child) (x : Child) (slot : ℕ) (count : length before ≡ slot) where
  taken : (asked : List Child) (b : Below) → AreAsked before asked b → AreAsked (before ++ (x ∷ [])) (asked ++ (x ∷ [])) (into_one_more slot x.span b)
  taken asked below_row.Nothing is = record {
    child = x;
    alone = ap (λ (l : List Child). l ++ (x ∷ [])) is;
    is = refl;
    stands = record { front = before; back = []; parts = refl; count = count };
  }
  taken asked (below_row.One s y) is =
      let long = length-append asked (x ∷ []) in
      let one = ap length is.alone in
      omega arith
  taken asked below_row.More is = let long = length-append asked (x ∷ []) in omega arith

  with_one : (asked : List Child) (b : Below) → AreAsked before asked b → AreAsked (before ++ (x ∷ [])) (asked ++ narrow w.size w.lo w.hi (x ∷ [])) (with_room w slot x b)
  with_one asked b is = elim (cases_Bool (may_have w.size w.lo w.hi x)) [
    | inl may ↦ (
        let more = (one_asked w.size w.lo w.hi asked (asked ++ (x ∷ [])) x may refl).0 in
        let room : with_room w slot x b ≡ into_one_more slot x.span b = (rw may refl) in
        subst (AreAsked (before ++ (x ∷ [])) (asked ++ narrow w.size w.lo w.hi (x ∷ []))) (sym room)
        (subst (λ (l : List Child). AreAsked (before ++ (x ∷ [])) l (into_one_more slot x.span b)) more (taken asked b is)))
    | inr not ↦ (rw not (subst (λ (l : List Child). AreAsked (before ++ (x ∷ [])) l b) (sym (append-nil asked)) (widen before (x ∷ []) asked b is)))
  ]

-- ---- from the right

-- what is gone into of these
abbrev HasSeenUp : Window → Below → List Child → Type 0
HasSeenUp w b before = AreAsked before (narrow_up w.size w.lo w.hi [] before) b

module _ (w : Window) (b : Below) (before : List Child) (seen : HasSeenUp w b before) (x : Child) (slot : ℕ) (count : length before ≡ slot) where
  abbrev taken_up : List Child
  taken_up = narrow_up w.size w.lo w.hi [] before

  with_one_up : AreAsked (before ++ (x ∷ [])) (next_up w.size w.lo w.hi taken_up x) (with_room_up w slot x b)
  with_one_up = elim (cases_Bool (may_have w.size w.lo w.hi x)) [
    | inl may ↦ elim (cases_Bool (inside w.lo w.hi x)) [
      | inl in_it ↦ (rw (may, in_it) (record {
        child = x;
        alone = refl;
        is = refl;
        stands = record { front = before; back = []; parts = refl; count = count };
      }))
      | inr over ↦ (rw (may, over) (taken w before x slot count taken_up b seen))
    ]
    | inr not ↦ (rw not (widen before (x ∷ []) taken_up b seen))
  ]

  seen_up : (after : Below) → after ≡ with_room_up w slot x b → HasSeenUp w after (before ++ (x ∷ []))
  seen_up after is =
      subst (λ (l : List Child). AreAsked (before ++ (x ∷ [])) l after) (sym (up-append w.size w.lo w.hi [] before (x ∷ [])))
      (subst (AreAsked (before ++ (x ∷ [])) (next_up w.size w.lo w.hi taken_up x)) (sym is) with_one_up)

seen_all_up : (w : Window) (b : Below) (before all : List Child) → HasSeenUp w b before → before ≡ all → IsSearchedBelow sides.High w all b
seen_all_up w b before all seen same = subst (λ (l : List Child). IsSearchedBelow sides.High w l b) same seen

-- ---- from the left

-- none of these is sure, and what is gone into of them
abbrev HasSeen : Window → Below → List Child → Type 0
HasSeen w b before = AreAsked before (narrow w.size w.lo w.hi before) b × (has_sure w.size w.lo w.hi before ≡ false)

module _ (w : Window) (b : Below) (before : List Child) (seen : HasSeen w b before) (x : Child) (slot : ℕ) (count : length before ≡ slot) (after : Below) (is : after ≡ with_room w slot x b) (sure : Bool) (found : sure ≡ has_sure w.size w.lo w.hi (x ∷ [])) where
  abbrev asked : List Child
  asked = narrow w.size w.lo w.hi before

  abbrev more : List Child
  more = asked ++ narrow w.size w.lo w.hi (x ∷ [])

  here : AreAsked (before ++ (x ∷ [])) more after
  here = subst (AreAsked (before ++ (x ∷ [])) more) (sym is) (with_one w before x slot count asked b seen.0)

  seen_on : sure ≡ false → HasSeen w after (before ++ (x ∷ []))
  seen_on not =
      let on = ask_on w.size w.lo w.hi [] asked before (refl, seen.1) x more sure refl found not in
      (subst (λ (l : List Child). AreAsked (before ++ (x ∷ [])) l after) on.0 here, on.1)

  seen_stops : (rest all : List Child) → before ++ (x ∷ rest) ≡ all → sure ≡ true → IsSearchedBelow sides.Low w all after
  seen_stops rest all all_is stops =
      let on = ask_stops w.size w.lo w.hi [] asked before (refl, seen.1) x more rest all sure all_is refl found stops in
      let parts : (before ++ (x ∷ [])) ++ rest ≡ all = append_assoc before (x ∷ []) rest ∙ all_is in
      subst (λ (l : List Child). AreAsked all l after) on.0 (subst (λ (l : List Child). AreAsked l more after) parts (widen (before ++ (x ∷ [])) rest more after here))

seen_all : (w : Window) (b : Below) (before all : List Child) → HasSeen w b before → before ≡ all → IsSearchedBelow sides.Low w all b
seen_all w b before all seen same = subst (λ (l : List Child). IsSearchedBelow sides.Low w l b) same seen.0

-- ---- from either side

-- a slot that can have no room adds nothing
pub passes : (side : Side) (w : Window) (slot : ℕ) (x : Child) (b : Below) → may_have w.size w.lo w.hi x ≡ false → (b ≡ with_child side w slot x b) × (false ≡ ends_with side w x)
passes sides.Low w slot x b not = rw not (refl, refl)
passes sides.High w slot x b not = rw not (refl, refl)

-- and what is added of another
pub adds : (side : Side) (w : Window) (slot : ℕ) (x : Child) (b : Below) → may_have w.size w.lo w.hi x ≡ true → (sure : Bool) → sure ≡ inside w.lo w.hi x
    → ((if forgets_where side sure then below_row.One slot x.span else into_one_more slot x.span b) ≡ with_child side w slot x b) × (ends_where side sure ≡ ends_with side w x)
adds side w slot x b may sure is = subst (λ (s : Bool). ((if forgets_where side s then below_row.One slot x.span else into_one_more slot x.span b) ≡ with_child side w slot x b) × (ends_where side s ≡ ends_with side w x)) (sym is)
    (one side, ap (ends_where side) (one_asked w.size w.lo w.hi [] (x ∷ []) x may refl).1)
  where
    one : (side : Side) → (if forgets_where side (inside w.lo w.hi x) then below_row.One slot x.span else into_one_more slot x.span b) ≡ with_child side w slot x b
    one sides.Low = rw may refl
    one sides.High = rw may refl

abbrev pub HasLooked : Side → Window → Below → List Child → Type 0
HasLooked sides.Low w b before = HasSeen w b before
HasLooked sides.High w b before = HasSeenUp w b before

pub looked_none : (side : Side) (w : Window) → HasLooked side w below_row.Nothing []
looked_none sides.Low w = (refl, refl)
looked_none sides.High w = refl

pub looked_on : (side : Side) (w : Window) (b : Below) (before : List Child) → HasLooked side w b before → (x : Child) (slot : ℕ) → length before ≡ slot → (after : Below) → after ≡ with_child side w slot x b
    → (ends : Bool) → ends ≡ ends_with side w x → ends ≡ false → HasLooked side w after (before ++ (x ∷ []))
looked_on sides.Low w b before seen x slot count after is ends found not = seen_on w b before seen x slot count after is ends found not
looked_on sides.High w b before seen x slot count after is ends found not = seen_up w b before seen x slot count after is

pub looked_stops : (side : Side) (w : Window) (b : Below) (before : List Child) → HasLooked side w b before → (x : Child) (slot : ℕ) → length before ≡ slot → (after : Below) → after ≡ with_child side w slot x b
    → (ends : Bool) → ends ≡ ends_with side w x → (rest all : List Child) → before ++ (x ∷ rest) ≡ all → ends ≡ true → IsSearchedBelow side w all after
looked_stops sides.Low w b before seen x slot count after is ends found rest all parts stops = seen_stops w b before seen x slot count after is ends found rest all parts stops
looked_stops sides.High w b before seen x slot count after is ends found rest all parts stops = absurd (cc)

pub looked_all : (side : Side) (w : Window) (b : Below) (before all : List Child) → HasLooked side w b before → before ≡ all → IsSearchedBelow side w all b
looked_all sides.Low w b before all seen same = seen_all w b before all seen same
looked_all sides.High w b before all seen same = seen_all_up w b before all seen same

-- ---- from level to level

module _ (t : Rooted) (h : ℕ) (stands : Stands (tree_on true t) h) where
  abbrev tree : Tree
  tree = tree_on true t

  abbrev to : ℕ → List PathStep
  to index = path_in t.table t.root index

  leads_root : IsWayTo t [] (root_span t.table t.root)
  leads_root = record {
    within = omega arith;
    front = λ index from upto. refl;
    low = λ index from upto. (let many = levels tree h stands index upto in omega arith);
    enters = λ index from upto. row_on_top t.table (root_span t.table t.root) index;
  }

  module _ (path : List PathStep) (x y : Span) (front back : List Span) (leads : IsWayTo t path x) (fills : Fills x.first (x.last + 1) (spans_in t.table x)) (parts : spans_in t.table x ≡ front ++ (y ∷ back)) (deep : length path + 1 ≤ h) where
    abbrev d : ℕ
    d = length path

    abbrev one : PathStep
    one = record { row = row_in x.word; slot = length front; min = x.first; max = x.last }

    module _ (index : ℕ) (from : y.first ≤ index) (upto : index ≤ y.last) where
      at : At x.first (x.last + 1) (spans_in t.table x) index y
      at = at_parts x.first (x.last + 1) (spans_in t.table x) index front y back fills parts from upto

      in_row : (x.first ≤ y.first) × (y.last < x.last + 1)
      in_row = at_within x.first (x.last + 1) (spans_in t.table x) index y at

      first_in : x.first ≤ index
      first_in = let low = in_row.0 in omega arith

      last_in_row : index ≤ x.last
      last_in_row = let high = in_row.1 in omega arith

      within_top : index ≤ top_of tree
      within_top = let last = last_in_row in let all = leads.within in omega arith

      many : length (to index) ≡ h + 1
      many = levels tree h stands index within_top

      row_is : row_of tree d index ≡ x
      row_is = leads.enters index first_in last_in_row

      slot_is : slot_for (spans_in t.table x) index ≡ length front
      slot_is = ap (λ (l : List Span). slot_for l index) parts ∙ places.slot_is x.first (x.last + 1) front y back index (subst (Fills x.first (x.last + 1)) parts fills) from upto

      step_is : step_at (to index) d ≡ one
      step_is =
          step tree h stands index d within_top (omega arith)
          ∙ (ap (λ (z : Span). step_in t.table z index) row_is
          ∙ ap (λ (n : ℕ). record { row = row_in x.word; slot = n; min = x.first; max = x.last }) slot_is)

      below_is : below t.table x index ≡ y
      below_is =
          let low = first_in in let high = last_in_row in
          let z = span_at (spans_in t.table x) (slot_for (spans_in t.table x) index) in
          (at_once x.first (x.last + 1) (spans_in t.table x) index z (at_slot x.first (x.last + 1) (spans_in t.table x) index fills low (omega arith)) front y back fills parts from upto).1

      long : length (path ++ (one ∷ [])) ≡ d + 1
      long = length-append path (one ∷ [])

      front_on : path ++ (one ∷ []) ≡ take (length (path ++ (one ∷ []))) (to index)
      front_on =
          let low : d < length (to index) = leads.low index first_in last_in_row in
          (λ i. leads.front index first_in last_in_row i ++ (sym step_is i ∷ []))
          ∙ (sym (take_more (to index) d no_step low) ∙ ap (λ (k : ℕ). take k (to index)) (sym long))

      low_on : length (path ++ (one ∷ [])) < length (to index)
      low_on = let all = many in let more = long in omega arith

      enters_on : row_on t.table (length (path ++ (one ∷ []))) (root_span t.table t.root) index ≡ y
      enters_on =
          let next : length (path ++ (one ∷ [])) ≡ suc d = (let more = long in omega arith) in
          ap (λ (k : ℕ). row_on t.table k (root_span t.table t.root) index) next
          ∙ (row_next tree d (root_span t.table t.root) index ∙ (ap (λ (z : Span). below t.table z index) row_is ∙ below_is))

    leads_on : y.first ≤ y.last → IsWayTo t (path ++ (one ∷ [])) y
    leads_on order = record {
      within = (let high = (in_row y.last order (omega arith)).1 in let all = leads.within in omega arith);
      front = front_on;
      low = low_on;
      enters = enters_on;
    }

-- of no holes none is picked
none_picked : (side : Side) (w : Window) → pick_for side w [] ≡ None
none_picked sides.Low w = refl
none_picked sides.High w = refl

-- a search that has gone into one row in each level so far
pub record GoesOn (side : Side) (s s' : Sheet) (w : Window) (level : ℕ) (path : List PathStep) (x : Span) : Type 0 where
  pub child : Child
  pub is : child.span ≡ x
  pub asks : Asks (tree_on true s.tree) (pick_for side w) w (sought_in side w s.tree) level (child ∷ [])
  pub leads : IsWayTo s.tree path x
  pub long : length path ≡ level
  pub reads : ReadsUpTo (columns s.tree.table.width * level) s s'

standing : (t : Rooted) → IsGapped t → t.root ≢ 0 → (h : ℕ) × Stands (tree_on true t) h
standing t tree some = elim (gapped_words t tree) [ inl empty ↦ absurd (some empty) | inr full ↦ (full.0, full.1) ]

pub goes_root : (side : Side) (s : Sheet) (w : Window) (path : List PathStep) (x : Span) → IsGapped s.tree → s.tree.root ≢ 0 → x ≡ root_span s.tree.table s.tree.root → path ≡ [] → GoesOn side s s w 0 path x
goes_root side s w path x tree some is none =
    let full = standing s.tree tree some in
    record {
      child = root_child s.tree.table s.tree.root;
      is = sym is;
      asks = (come_root s w (pick_for side w) 0 (root_child s.tree.table s.tree.root ∷ []) tree some refl).asks;
      leads = subst (λ (l : List PathStep). IsWayTo s.tree l x) (sym none) (subst (IsWayTo s.tree []) (sym is) (leads_root s.tree full.0 full.1));
      long = ap length none;
      reads = reads_up 0 (columns s.tree.table.width * 0) s s (omega arith) (no_reads s);
    }

module _ (side : Side) (s s' : Sheet) (w : Window) (size : 1 ≤ w.size) (tree : IsGapped s.tree) (some : s.tree.root ≢ 0) (level : ℕ) (path : List PathStep) (x : Span) (goes : GoesOn side s s' w level path x) where
  abbrev whole : Tree
  whole = tree_on true s.tree

  abbrev answer : Option ℕ
  answer = sought_in side w s.tree

  pub same_tree : s'.tree ≡ s.tree
  same_tree = tree_kept (columns s.tree.table.width * level) s s' goes.reads

  row_here : IsRow whole goes.asks.left x
  row_here = subst (IsRow whole goes.asks.left) goes.is (levels_here (IsRow whole) s.tree.table goes.asks.left (goes.child.span ∷ []) goes.asks.rows).0

  pub may_load_it : MayLoad s'.tree x
  may_load_it = subst (λ (t : Rooted). MayLoad t x) (sym same_tree) (row_may_load true s.tree goes.asks.left x row_here)

  pub shallow : length path < deepest
  shallow = let low = goes.asks.low in let long = goes.long in omega arith

  pub level_low : level < deepest
  level_low = let low = goes.asks.low in omega arith

  level_in : level + 1 ≤ height_in s.tree.table s.tree.root
  level_in = let height = goes.asks.height in omega arith

  times : (a b c : ℕ) → b ≤ c → a * b ≤ c * a
  times a b c low = grind (arith, low)

  pub reads_here : ReadsUpTo (height_in s.tree.table s.tree.root * columns s.tree.table.width) s s'
  reads_here =
      let low = level_in in
      reads_up (columns s.tree.table.width * level) (height_in s.tree.table s.tree.root * columns s.tree.table.width) s s' (times (columns s.tree.table.width) level (height_in s.tree.table s.tree.root) (omega arith)) goes.reads

  -- above a leaf there are fewer rows than levels
  pub reads_above : ReadsUpTo ((height_in s.tree.table s.tree.root - 1) * columns s.tree.table.width) s s'
  reads_above =
      let low = level_in in
      reads_up (columns s.tree.table.width * level) ((height_in s.tree.table s.tree.root - 1) * columns s.tree.table.width) s s' (times (columns s.tree.table.width) level (height_in s.tree.table s.tree.root - 1) (omega (arith, low))) goes.reads

  -- a row without gaps is a leaf
  pub ends_in_leaf : named_kind x.word ≢ Some Gapped → EndsInLeaf side s.tree w path x
  ends_in_leaf other =
      let leaf = is_leaf goes.asks.left row_here in
      record {
        leads = goes.leads;
        is_leaf = leaf;
        row = row_may_load true s.tree goes.asks.left x row_here;
        fills = row_here.pivots.fills;
        found = ap (λ (l : List Child). picked (pick_for side w) w (flat_map child_hole l)) (ap (children_in s.tree.table) (sym goes.is) ∙ sym (append-nil (children_in s.tree.table goes.child.span)))
            ∙ leaves_have whole (pick_for side w) w answer goes.asks.left (goes.child ∷ []) (ap (λ (y : Span). named_kind y.word) goes.is ∙ leaf) goes.asks.rows goes.asks.found;
      }
    where
      is_leaf : (left : ℕ) → IsRow whole left x → named_kind x.word ≡ Some Leaf
      is_leaf zero row = row.name.named
      is_leaf (suc k) row = absurd (other row.name.named)

  module _ (gapped : named_kind x.word ≡ Some Gapped) (row : ℕ) (number : row ≡ row_in x.word) (s'' : Sheet) (reads : ReadsUpTo (columns s'.tree.table.width) s' s'') where
    abbrev xs : List Child
    xs = row_children s'.tree.table row Gapped x.first x.last

    reads_more_rows : ReadsUpTo (columns s.tree.table.width * (level + 1)) s s''
    reads_more_rows =
        reads_up (columns s.tree.table.width * level + columns s.tree.table.width) (columns s.tree.table.width * (level + 1)) s s'' (one_row_more (columns s.tree.table.width) level)
        (reads_more (columns s.tree.table.width * level) (columns s.tree.table.width) s s' s'' goes.reads (subst (λ (t : Rooted). ReadsUpTo (columns t.table.width) s' s'') same_tree reads))

    pub reads_there : ReadsUpTo (height_in s.tree.table s.tree.root * columns s.tree.table.width) s s''
    reads_there = reads_up (columns s.tree.table.width * (level + 1)) (height_in s.tree.table s.tree.root * columns s.tree.table.width) s s'' (times (columns s.tree.table.width) (level + 1) (height_in s.tree.table s.tree.root) level_in) reads_more_rows

    children_are : xs ≡ children_in s.tree.table x
    children_are =
        (λ i. row_children (same_tree i).table (number i) Gapped x.first x.last)
        ∙ ap (λ (k : Option RowKind). children_by s.tree.table k x) (sym gapped)

    not_leaves : AreLeaves (goes.child ∷ []) → ⊥
    not_leaves leaf = let clash : Some Gapped ≡ Some Leaf = sym gapped ∙ (ap (λ (y : Span). named_kind y.word) (sym goes.is) ∙ leaf) in cc

    asked_are : asked_for side w (children_below s.tree.table (goes.child ∷ [])) ≡ asked_for side w xs
    asked_are = ap (asked_for side w) (append-nil (children_in s.tree.table goes.child.span) ∙ (ap (children_in s.tree.table) goes.is ∙ sym children_are))

    asks_next : (next : List Child) → asked_for side w xs ≡ next → Asks whole (pick_for side w) w answer (level + 1) next
    asks_next next is = subst (Asks whole (pick_for side w) w answer (level + 1)) (asked_are ∙ is) (next_for side whole w refl size (goes.child ∷ []) answer level goes.asks not_leaves)

    pub goes_nowhere : IsSearchedBelow side w xs below_row.Nothing → answer ≡ None
    goes_nowhere none =
        let asks = asks_next [] none in
        sym (leaves_have whole (pick_for side w) w answer asks.left [] tt asks.rows asks.found) ∙ none_picked side w

    pub goes_below : (slot : ℕ) (y : Span) → IsSearchedBelow side w xs (below_row.One slot y) → (path' : List PathStep) → path' ≡ path ++ (record { row = row; slot = slot; min = x.first; max = x.last } ∷ []) → GoesOn side s s'' w (level + 1) path' y
    goes_below slot y one path' pushed =
        let asks = asks_next (one.child ∷ []) one.alone in
        let full = standing s.tree tree some in
        let tall : height_in s.tree.table s.tree.root ≡ full.0 + 1 = height_by_depth whole deepest full.0 (root_span s.tree.table s.tree.root) full.1.low full.1.rows in
        let front = spans one.stands.front in
        let back = spans one.stands.back in
        let parts : spans_in s.tree.table x ≡ front ++ (y ∷ back) =
        sym (spans_of_row s.tree.table x) ∙ (ap spans (sym children_are ∙ one.stands.parts) ∙ (spans-append one.stands.front (one.child ∷ one.stands.back) ∙ ap (λ (z : Span). front ++ (z ∷ back)) one.is)) in
        let height = asks.height in
        let long = goes.long in
        let order : y.first ≤ y.last = subst (λ (z : Span). z.first ≤ z.last) one.is asks.rising.1 in
        let leads = leads_on s.tree full.0 full.1 path x y front back goes.leads row_here.pivots.fills parts (omega (arith, tall, height, long)) order in
        let count : length front ≡ slot = spans_long one.stands.front ∙ one.stands.count in
        let step_is : record { row = row; slot = slot; min = x.first; max = x.last } ≡ record { row = row_in x.word; slot = length front; min = x.first; max = x.last } = (λ i. record { row = number i; slot = sym count i; min = x.first; max = x.last }) in
        let path_is : path' ≡ path ++ (record { row = row_in x.word; slot = length front; min = x.first; max = x.last } ∷ []) = pushed ∙ ap (λ (p : PathStep). path ++ (p ∷ [])) step_is in
        record {
          child = one.child;
          is = one.is;
          asks = asks;
          leads = subst (λ (l : List PathStep). IsWayTo s.tree l y) (sym path_is) leads;
          long = ap length pushed ∙ (length-append path (record { row = row; slot = slot; min = x.first; max = x.last } ∷ []) ∙ ap (λ (n : ℕ). n + 1) goes.long);
          reads = reads_more_rows;
        }
      where
        spans_long : (l : List Child) → length (spans l) ≡ length l
        spans_long [] = refl
        spans_long (z ∷ l) = ap suc (spans_long l)

-- ---- the place

pub some_kind : (t : Rooted) → IsGapped t → (kind : Kind) × IsTreeOf t kind
some_kind t tree = (tree.kind, record { width = tree.lawful.width; words = elim tree.lawful.words [ inl empty ↦ inl empty | inr full ↦ inr (full.0, full.1) ] })

-- ---- a place lies where the holes do

highest_between : (n lo hi a b start : ℕ) (xs : List Hole) → 1 ≤ n → AllByRecursion (Between a b) xs → highest_in n (kept n lo hi xs) ≡ Some start → (a ≤ start) × (start < b)
highest_between n lo hi a b start [] some each is = absurd (cc)
highest_between n lo hi a b start (x ∷ xs) some each is =
    let begins = each.0.0 in let ends = each.0.2 in
    kept_either (λ (l : List Hole). highest_in n l ≡ Some start → (a ≤ start) × (start < b)) n lo hi x xs
    (λ room here. by_rest (kept n lo hi xs)
    (λ none. let both : Some (min hi x.last + 1 - n) ≡ Some start = ap (λ (l : List Hole). highest_in n (clip lo hi x ∷ l)) (sym none) ∙ here in let same : min hi x.last + 1 - n ≡ start = cc in (omega arith, omega arith))
    (λ more. highest_between n lo hi a b start xs some each.1 (sym (highest_more n (clip lo hi x) (kept n lo hi xs) more) ∙ here)))
    (λ short. highest_between n lo hi a b start xs some each.1) is
  where
    by_rest : {P : Type 0} (l : List Hole) → (l ≡ [] → P) → (0 < length l → P) → P
    by_rest [] none more = none refl
    by_rest (y ∷ l) none more = more (omega arith)

place_between : (side : Side) (w : Window) (a b start : ℕ) (xs : List Hole) → 1 ≤ w.size → AllByRecursion (Between a b) xs → picked (pick_for side w) w xs ≡ Some start → (a ≤ start) × (start < b)
place_between sides.Low w a b start xs some each is = lowest_between w.size w.lo w.hi a b start xs some each is
place_between sides.High w a b start xs some each is = highest_between w.size w.lo w.hi a b start xs some each is

module _ (side : Side) (t : Rooted) (w : Window) (path : List PathStep) (leaf : Span) (ends : EndsInLeaf side t w path leaf) (size : 1 ≤ w.size) (start : ℕ) (is : Some start ≡ picked (pick_for side w) w (flat_map child_hole (children_in t.table leaf))) where
  in_leaf : (leaf.first ≤ start) × (start < leaf.last + 1)
  in_leaf = place_between side w leaf.first (leaf.last + 1) start (flat_map child_hole (children_in t.table leaf)) size
      (subst (AllByRecursion (Between leaf.first (leaf.last + 1))) (sym (holes_of_children (children_in t.table leaf) ∙ ap (flat_map leaf_hole) (spans_of_row t.table leaf))) (leaf_between leaf.first (leaf.last + 1) (spans_in t.table leaf) ends.fills))
      (sym is)

  from_leaf : leaf.first ≤ start
  from_leaf = in_leaf.0

  to_leaf : start ≤ leaf.last
  to_leaf = let high = in_leaf.1 in omega arith

  pub start_within : start ≤ greatest t.table.width
  start_within = let high = to_leaf in let all = ends.leads.within in omega arith

  pub enters_leaf : EntersLeaf t start path leaf
  enters_leaf = record { front = ends.leads.front start from_leaf to_leaf; low = ends.leads.low start from_leaf to_leaf; enters = ends.leads.enters start from_leaf to_leaf; is_leaf = ends.is_leaf }

  pub is_area : (path' : List PathStep) (here : Handle) → path' ≡ path_in t.table t.root start → here ≡ handle_in t start → IsAreaAt t path' (record { start = start; here = Some here })
  is_area path' here way handle = record {
    way = way;
    none = ((λ none. absurd (cc)), (λ empty. absurd (some_root t start (length path) (ends.leads.low start from_leaf to_leaf) empty)));
    some = handle;
  }

-- every place lies in the tree
pub place_within : (side : Side) (t : Rooted) (w : Window) (start : ℕ) → IsGapped t → 1 ≤ w.size → Some start ≡ sought_to side w t → start ≤ greatest t.table.width
place_within side t w start tree some is = elim (cases_root t.root) [
  | inl empty ↦ (
      let hole : AllByRecursion (Between 0 (greatest t.table.width + 1)) (flat_map child_hole (record { span = record { first = 0; last = greatest t.table.width; word = 0 }; gap = 0 } ∷ [])) = ((omega arith, omega arith, omega arith), tt) in
      let found = place_between side w 0 (greatest t.table.width + 1) start (flat_map child_hole (record { span = record { first = 0; last = greatest t.table.width; word = 0 }; gap = 0 } ∷ [])) some hole (empty_for side t w empty ∙ sym is) in
      let high = found.1 in omega arith)
  | inr more ↦ (
      let asks = asks_root t tree more w (pick_for side w) in
      let found = place_between side w 0 (greatest t.table.width + 1) start (holes_below t.table asks.left (root_span t.table t.root ∷ [])) some (holes_between (tree_on true t) asks.left 0 (greatest t.table.width + 1) (root_span t.table t.root ∷ []) asks.rows (refl, omega arith, refl)) (asks.found ∙ sym is) in
      let high = found.1 in omega arith)
]
  where
    cases_root : (n : ℕ) → (n ≡ 0) ⊎ (n ≢ 0)
    cases_root zero = inl refl
    cases_root (suc n) = inr (λ e. omega arith)

    empty_for : (side : Side) (t : Rooted) (w : Window) → t.root ≡ 0 → picked (pick_for side w) w (flat_map child_hole (record { span = record { first = 0; last = greatest t.table.width; word = 0 }; gap = 0 } ∷ [])) ≡ sought_to side w t
    empty_for sides.Low t w empty = low_empty t w empty
    empty_for sides.High t w empty = high_empty t w empty

-- the place in a tree is the place by its map
pub sought_is : (side : Side) (w : Window) (t : Rooted) → sought_in side w t ≡ sought_to side w t
sought_is sides.Low w t = low_in_tree w t
sought_is sides.High w t = high_in_tree w t

-- ---- how many words were loaded

triple : (a b : ℕ) → 3 * (a * b) ≡ 3 * a * b
triple a b = grind arith

least : (a b : ℕ) → 1 ≤ a → b ≤ a * b
least a b some = grind (arith, some)

less_one : (a b : ℕ) → 1 ≤ a → (a - 1) * b + b ≡ a * b
less_one zero b some = absurd (omega (arith, some))
less_one (suc k) b some = ap (λ (n : ℕ). n * b + b) one ∙ turned k b
  where
    one : suc k - 1 ≡ k
    one = omega arith

    turned : (m b : ℕ) → m * b + b ≡ suc m * b
    turned m b = grind arith

-- in the empty tree only the root word is loaded before
pub few_empty : (s s₀ s₁ : Sheet) → s₀ ≡ loaded s → ReadsUpTo (3 * height_in s₀.tree.table s₀.tree.root * columns s₀.tree.table.width + 1) s₀ s₁ → ReadsUpTo (2 * (3 * height_in s.tree.table s.tree.root * columns s.tree.table.width + 1)) s s₁
few_empty s s₀ s₁ load reads =
    let h = height_in s.tree.table s.tree.root in let c = columns s.tree.table.width in
    reads_up (1 + (3 * h * c + 1)) (2 * (3 * h * c + 1)) s s₁ (omega arith)
    (reads_more 1 (3 * h * c + 1) s s₀ s₁ (one_read s s₀ load) (subst (λ (t : Rooted). ReadsUpTo (3 * height_in t.table t.root * columns t.table.width + 1) s₀ s₁) (ap (λ (r : Sheet). r.tree) load) reads))

pub found_empty : (s s₀ s₁ : Sheet) (n : ℕ) → s₀ ≡ loaded s → ReadsUpTo (3 * height_in s₀.tree.table s₀.tree.root * columns s₀.tree.table.width + 1 + n) s₀ s₁ → ReadsUpTo (2 * (3 * height_in s.tree.table s.tree.root * columns s.tree.table.width + 1) + n) s s₁
found_empty s s₀ s₁ n load reads =
    let h = height_in s.tree.table s.tree.root in let c = columns s.tree.table.width in
    reads_up (1 + (3 * h * c + 1 + n)) (2 * (3 * h * c + 1) + n) s s₁ (omega arith)
    (reads_more 1 (3 * h * c + 1 + n) s s₀ s₁ (one_read s s₀ load) (subst (λ (t : Rooted). ReadsUpTo (3 * height_in t.table t.root * columns t.table.width + 1 + n) s₀ s₁) (ap (λ (r : Sheet). r.tree) load) reads))

module _ (s s₀ s₁ : Sheet) (load : s₀ ≡ loaded s) (one_way : ReadsUpTo (height_in s₀.tree.table s₀.tree.root * columns s₀.tree.table.width) s₀ s₁) where
  abbrev h : ℕ
  h = height_in s.tree.table s.tree.root

  abbrev c : ℕ
  c = columns s.tree.table.width

  pub same_begin : s₀.tree ≡ s.tree
  same_begin = ap (λ (r : Sheet). r.tree) load

  pub same_end : s₁.tree ≡ s.tree
  same_end = ap (λ (r : Sheet). r.tree) one_way.rest ∙ same_begin

  way_reads : ReadsUpTo (1 + h * c) s s₁
  way_reads = reads_more 1 (h * c) s s₀ s₁ (one_read s s₀ load) (subst (λ (t : Rooted). ReadsUpTo (height_in t.table t.root * columns t.table.width) s₀ s₁) same_begin one_way)

  pub few_nowhere : ReadsUpTo (2 * (3 * h * c + 1)) s s₁
  few_nowhere = let all = triple h c in reads_up (1 + h * c) (2 * (3 * h * c + 1)) s s₁ (omega (arith, all)) way_reads

  pub few_leaf : IsGapped s.tree → s.tree.root ≢ 0 → (s₂ : Sheet) → ReadsUpTo (columns s₁.tree.table.width) s₁ s₂ → ReadsUpTo (2 * (3 * h * c + 1)) s s₂
  few_leaf tree some s₂ reads =
      let asks = asks_root s.tree tree some (record { size = 1; lo = 0; hi = 0 }) lowest_in in
      let tall = asks.height in
      let all = triple h c in
      let low = least h c (omega arith) in
      reads_up (1 + h * c + c) (2 * (3 * h * c + 1)) s s₂ (omega (arith, all, low)) (reads_more (1 + h * c) c s s₁ s₂ way_reads (subst (λ (t : Rooted). ReadsUpTo (columns t.table.width) s₁ s₂) same_end reads))

  pub few_levels : (s₂ : Sheet) → ReadsUpTo (3 * height_in s₁.tree.table s₁.tree.root * columns s₁.tree.table.width + 1) s₁ s₂ → ReadsUpTo (2 * (3 * h * c + 1)) s s₂
  few_levels s₂ reads =
      let all = triple h c in
      reads_up (1 + h * c + (3 * h * c + 1)) (2 * (3 * h * c + 1)) s s₂ (omega (arith, all))
      (reads_more (1 + h * c) (3 * h * c + 1) s s₁ s₂ way_reads (subst (λ (t : Rooted). ReadsUpTo (3 * height_in t.table t.root * columns t.table.width + 1) s₁ s₂) same_end reads))

  -- where a place was found, with so many loads on the path to it
  pub found_levels : (s₂ : Sheet) (n : ℕ) → ReadsUpTo (3 * height_in s₁.tree.table s₁.tree.root * columns s₁.tree.table.width + 1 + n) s₁ s₂ → ReadsUpTo (2 * (3 * h * c + 1) + n) s s₂
  found_levels s₂ n reads =
      let all = triple h c in
      reads_up (1 + h * c + (3 * h * c + 1 + n)) (2 * (3 * h * c + 1) + n) s s₂ (omega (arith, all))
      (reads_more (1 + h * c) (3 * h * c + 1 + n) s s₁ s₂ way_reads (subst (λ (t : Rooted). ReadsUpTo (3 * height_in t.table t.root * columns t.table.width + 1 + n) s₁ s₂) same_end reads))

  tall : IsGapped s.tree → s.tree.root ≢ 0 → 1 ≤ h
  tall tree some = let high = (asks_root s.tree tree some (record { size = 1; lo = 0; hi = 0 }) lowest_in).height in omega (arith, high)

  pub found_leaf : IsGapped s.tree → s.tree.root ≢ 0 → (s₂ : Sheet) (n m : ℕ) → n ≤ m → ReadsUpTo (columns s₁.tree.table.width + n) s₁ s₂ → ReadsUpTo (2 * (3 * h * c + 1) + m) s s₂
  found_leaf tree some s₂ n m few reads =
      let all = triple h c in
      let low = least h c (tall tree some) in
      reads_up (1 + h * c + (c + n)) (2 * (3 * h * c + 1) + m) s s₂ (omega (arith, all, low, few))
      (reads_more (1 + h * c) (c + n) s s₁ s₂ way_reads (subst (λ (t : Rooted). ReadsUpTo (columns t.table.width + n) s₁ s₂) same_end reads))

  -- where one row of each level was looked at
  pub one_leaf : IsGapped s.tree → s.tree.root ≢ 0 → ReadsUpTo ((height_in s₀.tree.table s₀.tree.root - 1) * columns s₀.tree.table.width) s₀ s₁ → (s₂ : Sheet) (n : ℕ) → ReadsUpTo (columns s₁.tree.table.width + (n + 1)) s₁ s₂ → ReadsUpTo (h * c + n + 2) s s₂
  one_leaf tree some above s₂ n reads =
      let all = less_one h c (tall tree some) in
      reads_up (1 + (h - 1) * c + (c + (n + 1))) (h * c + n + 2) s s₂ (omega (arith, all))
      (reads_more (1 + (h - 1) * c) (c + (n + 1)) s s₁ s₂
      (reads_more 1 ((h - 1) * c) s s₀ s₁ (one_read s s₀ load) (subst (λ (t : Rooted). ReadsUpTo ((height_in t.table t.root - 1) * columns t.table.width) s₀ s₁) same_begin above))
      (subst (λ (t : Rooted). ReadsUpTo (columns t.table.width + (n + 1)) s₁ s₂) same_end reads))
