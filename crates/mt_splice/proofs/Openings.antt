-- A climb begins: what is to stand in the leaves of the first window is gathered, and nothing was done yet.
use Rattle.mt_splice.proofs.Prelude.{◌≡◌, ◌≢◌, ℕ, ◌+◌, ◌-◌, ◌<◌, ◌≤◌, ◌==◌, List, [], ◌∷◌, ◌++◌, true, false, length, refl, sym, ap, ◌∙◌, subst, inl, inr, ⊎_elim, arith, AllByRecursion, flat_map, cases_Bool, eqb-false, flat_map-append, Call, Kind, Range, Reply, acted, reserved, over, deepest, all_map, all_front, all_back, Book, Item, Leaf, Span, leaf_range, spans_from, Fills, fills-append, fills_parts, length-spans_from, edited, ends_with_hole, stored, full_unless_hole, apart_joined, fills_edited, ranges_edited, PathStep, last_step, path_in, step_at, levels, place, Tree, IsRow, Stands, top_of, expand, map_of, map_by, tree_as, root_of, IsWhole, Sheet, inner_kind, root_span, spans_in, leaf_between, over_between, height_by_depth, ranges_by_depth, level_rows, map_of_split, Filled, all_expand, expand-append, expand_fills, Climb, MaySplice, region_of, IsClimbing, IsBegunBy, before_of, start_for, Before, IsAnswer, MayWiden, before, behind, between, high_of, low_of, row_at, Gathered, Start, rows_at}
use Rattle.mt_splice.proofs.EditedRegions.{Leaves, all_edited, region_leaves, IsLeafRun}
use Rattle.mt_splice.proofs.SpliceBegins.{case_of, no_path, nothing_done, stands_at_start}
use Rattle.mt_splice.proofs.Splits.{split_same}
use Rattle.mt_splice.proofs.Widened.{step_is}
use Rattle.mt_splice.proofs.WindowRows.{before_fills, behind_fills, window_parts}

same_begin : (m k hi : ℕ) (xs : List Span) → Fills m hi xs → Fills k hi xs → m ≡ k
same_begin m k hi [] one other = one ∙ sym other
same_begin m k hi (x ∷ xs) one other = sym one.0 ∙ other.0

-- ---- the leaves after a store

module _ (start : Start) (stands : Stands start.tree start.height) (left right : List PathStep) (first last entry : ℕ) (order : first ≤ last) (within : last ≤ top_of start.tree) (is_left : left ≡ path_in start.tree.table start.tree.root first) (is_right : right ≡ path_in start.tree.table start.tree.root last)
    (map_is : start.map ≡ over (map_of start.tree.table start.height (root_of start.tree)) first last entry) (free : reserved entry ≡ false) where
  abbrev t : Tree
  t = start.tree

  abbrev h : ℕ
  h = start.height

  abbrev rows : List Span
  rows = rows_at t h

  first_within : first ≤ top_of t
  first_within = omega (arith, order, within)

  leaves : Leaves t h stands first last order within entry (region_of t.table left right)
  leaves = region_leaves t h stands first last order within left right is_left is_right entry

  abbrev lo : ℕ
  lo = low_of t h first

  abbrev hi : ℕ
  hi = high_of t h last

  abbrev items : List Span
  items = edited (expand t.table leaves.old) first last entry

  from_low : lo ≤ first
  from_low = (place t h stands first h first_within (omega arith)).from

  to_high : last < hi
  to_high = let to = (place t h stands last h within (omega arith)).to in omega arith

  rows_all : AllByRecursion (IsRow t 0) (leaves.front ++ (leaves.old ++ leaves.back))
  rows_all = subst (AllByRecursion (IsRow t 0)) leaves.stretch.parts (level_rows (IsRow t) t.table h 0 h (root_of t) (omega arith) stands.rows)

  rows_front : AllByRecursion (IsRow t 0) leaves.front
  rows_front = all_front (IsRow t 0) leaves.front (leaves.old ++ leaves.back) rows_all

  rows_old : AllByRecursion (IsRow t 0) leaves.old
  rows_old = all_front (IsRow t 0) leaves.old leaves.back (all_back (IsRow t 0) leaves.front (leaves.old ++ leaves.back) rows_all)

  rows_back : AllByRecursion (IsRow t 0) leaves.back
  rows_back = all_back (IsRow t 0) leaves.old leaves.back (all_back (IsRow t 0) leaves.front (leaves.old ++ leaves.back) rows_all)

  filled : (from upto : ℕ) (xs : List Span) → AllByRecursion (IsRow t 0) xs → Fills from upto xs → Fills from upto (expand t.table xs)
  filled from upto xs rows fills = expand_fills t.table from upto xs (all_map (IsRow t 0) (Filled t.table) (λ x row. row.pivots.fills) xs rows) fills

  abbrev ranges : List Span → List Range
  ranges xs = flat_map leaf_range xs

  map_there : start.map ≡ over (ranges (expand t.table leaves.front) ++ (ranges (expand t.table leaves.old) ++ ranges (expand t.table leaves.back))) first last entry
  map_there =
      map_is
      ∙ ap (λ (m : List Range). over m first last entry)
      (map_of_split t.table h 0 h (root_of t) (omega arith)
      ∙ (ap ranges (ap (expand t.table) leaves.stretch.parts ∙ (expand-append t.table leaves.front (leaves.old ++ leaves.back) ∙ ap (λ (l : List Span). expand t.table leaves.front ++ l) (expand-append t.table leaves.old leaves.back)))
      ∙ (flat_map-append leaf_range (expand t.table leaves.front) (expand t.table leaves.old ++ expand t.table leaves.back)
      ∙ ap (λ (m : List Range). ranges (expand t.table leaves.front) ++ m) (flat_map-append leaf_range (expand t.table leaves.old) (expand t.table leaves.back)))))

  items_stand : ranges (expand t.table leaves.front ++ (items ++ expand t.table leaves.back)) ≡ start.map
  items_stand =
      flat_map-append leaf_range (expand t.table leaves.front) (items ++ expand t.table leaves.back)
      ∙ (ap (λ (m : List Range). ranges (expand t.table leaves.front) ++ m)
      (flat_map-append leaf_range items (expand t.table leaves.back) ∙ ap (λ (m : List Range). m ++ ranges (expand t.table leaves.back)) (ranges_edited (expand t.table leaves.old) first last entry))
      ∙ (sym
      (over_between 0 lo hi (top_of t + 1) first last entry (ranges (expand t.table leaves.front)) (ranges (expand t.table leaves.old)) (ranges (expand t.table leaves.back))
      (leaf_between 0 lo (expand t.table leaves.front) (filled 0 lo leaves.front rows_front leaves.stretch.before))
      (leaf_between hi (top_of t + 1) (expand t.table leaves.back) (filled hi (top_of t + 1) leaves.back rows_back leaves.stretch.after))
      from_low order to_high)
      ∙ sym map_there))

  free_items : AllByRecursion (λ (x : Span). reserved x.word ≡ false) items
  free_items =
      all_edited (λ (x : Span). reserved x.word ≡ false) (λ x last none. none) (λ x first none. none) (expand t.table leaves.old) first last entry free
      (all_expand (λ (x : Span). reserved x.word ≡ false) t.table leaves.old (all_map (IsRow t 0) (λ (x : Span). AllByRecursion (λ (y : Span). reserved y.word ≡ false) (spans_in t.table x)) (λ x row. row.entries) leaves.old rows_old))

  -- the rows beside them are those beside the window
  sides : (leaves.front ≡ before first rows) × (leaves.back ≡ behind last rows)
  sides =
      let ahead = before_fills t h stands first last h order within (omega arith) in
      let after = behind_fills t h stands first last h order within (omega arith) in
      let parts = window_parts t h stands first last h order within (omega arith) in
      let one = split_same 0 lo leaves.front (leaves.old ++ leaves.back) (before first rows) (between first last rows ++ behind last rows) (sym leaves.stretch.parts ∙ parts) leaves.stretch.before ahead in
      let all : Fills lo (top_of t + 1) (between first last rows ++ behind last rows) = subst (Fills lo (top_of t + 1)) one.1 (fills_both leaves.old leaves.back leaves.stretch.here leaves.stretch.after) in
      let middle = fills_parts lo (top_of t + 1) (between first last rows) (behind last rows) all in
      let same = same_begin middle.0 hi (top_of t + 1) (behind last rows) middle.2 after in
      let here : Fills lo hi (between first last rows) = subst (λ (n : ℕ). Fills lo n (between first last rows)) same middle.1 in
      (one.0, (split_same lo hi leaves.old leaves.back (between first last rows) (behind last rows) one.1 leaves.stretch.here here).1)
    where
      fills_both : (xs ys : List Span) → Fills lo hi xs → Fills hi (top_of t + 1) ys → Fills lo (top_of t + 1) (xs ++ ys)
      fills_both xs ys one other = fills-append lo hi (top_of t + 1) xs ys one other

  module _ (first_in : lo ≤ start.first) (last_in : start.last < hi) (stored_items : List Item) (are : spans_from lo stored_items ≡ edited (region_of t.table left right) first last entry) where
    run_is : spans_from lo stored_items ≡ items
    run_is = are ∙ leaves.edits

    pub leaves_gathered : Gathered start [] first last h 0 (spans_from lo stored_items)
    leaves_gathered = subst (Gathered start [] first last h 0) (sym run_is) (record {
      stands = stands;
      levels = omega arith;
      order = order;
      within = within;
      first = first_in;
      last = last_in;
      fills = fills_edited lo hi first last entry (expand t.table leaves.old) (filled lo hi leaves.old rows_old leaves.stretch.here) from_low order to_high;
      fit = (apart_joined (stored (expand t.table leaves.old) first last entry), free_items);
      level = (λ i. ranges (expand t.table (sym sides.0 i) ++ (items ++ expand t.table (sym sides.1 i)))) ∙ items_stand;
    })

    leaf_run : IsLeafRun t (row_at t h last).last (spans_from lo stored_items)
    leaf_run = subst (IsLeafRun t (row_at t h last).last) (sym are) leaves.run

    pub leaves_may_widen : MayWiden start [] left right h 0 stored_items
    leaves_may_widen =
        let same = length-spans_from lo stored_items in
        record {
          window = record { from = first; to = last; is_left = is_left; is_right = is_right; gathered = leaves_gathered };
          few = let few = leaf_run.few in omega arith;
          ends = λ leaf more.
              ⊎_elim (λ (hole : ends_with_hole (spans_from lo stored_items) ≡ true). inl (let few = leaf_run.ends (omega arith) hole in omega arith))
              (λ (full : ends_with_hole (spans_from lo stored_items) ≡ false). inr (full_unless_hole (spans_from lo stored_items) full)) (cases_Bool (ends_with_hole (spans_from lo stored_items)));
          two = λ k inner. absurd (omega arith);
        }

-- ---- a climb

module _ {kind : Kind} {s : Sheet} {book : Book} {left right : List PathStep} {items : List Item} {number : ℕ} {call : Call} {reply : Reply} (may : MaySplice kind s book left right items number call reply) (whole : IsWhole s) where
  abbrev t₀ : Tree
  t₀ = tree_as kind s.tree

  abbrev start₀ : Start
  start₀ = start_for kind s call (last_step left).min (last_step right).max

  abbrev b₀ : Before
  b₀ = before_of kind s book number

  module _ (stands : Stands t₀ start₀.height) where
    inside : may.first ≤ top_of t₀
    inside = let order = may.store.order in let within = may.store.within in omega arith

    left_levels : length left ≡ start₀.height + 1
    left_levels = ap length may.left_path ∙ levels t₀ start₀.height stands may.first inside

    right_levels : length right ≡ start₀.height + 1
    right_levels = ap length may.right_path ∙ levels t₀ start₀.height stands may.last may.store.within

    begins : (last_step left).min ≡ low_of t₀ start₀.height may.first
    begins =
        let at : length left - 1 ≡ start₀.height = (let all = left_levels in omega arith) in
        ap (λ (d : ℕ). (step_at left d).min) at ∙ ap (λ (z : PathStep). z.min) (step_is t₀ start₀.height stands left may.first start₀.height inside (omega arith) may.left_path)

    ends : (last_step right).max ≡ (row_at t₀ start₀.height may.last).last
    ends =
        let at : length right - 1 ≡ start₀.height = (let all = right_levels in omega arith) in
        ap (λ (d : ℕ). (step_at right d).max) at ∙ ap (λ (z : PathStep). z.max) (step_is t₀ start₀.height stands right may.last start₀.height may.store.within (omega arith) may.right_path)

    first_widens : MayWiden start₀ [] left right start₀.height 0 items
    first_widens =
        let first = begins in let last = ends in
        leaves_may_widen start₀ stands left right may.first may.last may.entry may.store.order may.store.within may.left_path may.right_path
        (ap (λ (a : List Range × Reply). a.0) may.store.acts ∙ ap (λ (m : List Range). over m may.first may.last may.entry) (ranges_by_depth t₀ deepest start₀.height (root_span s.tree.table s.tree.root) stands.low stands.rows)) may.store.lawful (omega arith) (omega arith) items
        (subst (λ (n : ℕ). spans_from n items ≡ edited (region_of s.tree.table left right) may.first may.last may.entry) begins may.edits)

    begun_climb : {c : Climb} → c.ways.left.items ≡ left → c.ways.right.items ≡ right → c.gathered.run.items ≡ items → c.windows.items ≡ [] → c.made.items ≡ [] → c.inner ≡ inner_kind kind → IsClimbing b₀ start₀ s book Leaf start₀.height c
    begun_climb {c} left_is right_is run_is windows made inner = record {
      layers = [];
      case = case_of whole may.kept start₀ refl may.told may.unpublished;
      of_kind = refl;
      planned = tt;
      held = tt;
      ledger = nothing_done whole may.kept;
      gathered = subst (λ (p : (List PathStep × List PathStep) × List Item). MayWiden start₀ [] p.0.0 p.0.1 start₀.height 0 p.1) (λ i. ((sym left_is i, sym right_is i), sym run_is i)) first_widens;
      from_below = tt;
      told = tt;
      windows = windows;
      made = made;
      inner = inner;
      room = let room = may.room in let high = height_by_depth t₀ deepest start₀.height (root_span s.tree.table s.tree.root) stands.low stands.rows in omega arith;
    }

-- the entry names what it begins with
module _ {b : Before} {start : Start} {kind : Kind} {s : Sheet} {book : Book} {left right : List PathStep} {items : List Item} {number : ℕ} {call : Call} {reply : Reply} (begun : IsBegunBy b start kind s book number call (last_step left).min (last_step right).max)
    (may : MaySplice kind s book left right items number call reply) (whole : IsWhole s) where
  pub climb_begins : {c : Climb} → left ≢ [] → c.ways.left.items ≡ left → c.ways.right.items ≡ right → c.gathered.run.items ≡ items → c.windows.items ≡ [] → c.made.items ≡ [] → c.inner ≡ inner_kind kind → IsClimbing b start s book Leaf (length c.ways.left.items - 1) c
  climb_begins {c} some left_is right_is run_is windows made inner =
      let stands = stands_at_start (tree_as kind s.tree) may.kept.lawful.words (λ empty. some (may.left_path ∙ no_path s.tree.table s.tree.root may.first empty)) in
      let deep : (start_for kind s call (last_step left).min (last_step right).max).height ≡ length c.ways.left.items - 1 = (let all = left_levels may whole stands in let same = ap length left_is in omega arith) in
      subst (λ (x : (Before × Start) × ℕ). IsClimbing x.0.0 x.0.1 s book Leaf x.1 c) (λ i. ((sym begun.before i, sym begun.start i), deep i)) (begun_climb may whole stands left_is right_is run_is windows made inner)

  pub answer_is : IsAnswer b start call reply
  answer_is = subst (λ (x : Before × Start). IsAnswer x.0 x.1 call reply) (λ i. (sym begun.before i, sym begun.start i)) (ap (λ (r : Reply). ((acted kind (map_by s.tree) call).0, r)) (ap (λ (a : List Range × Reply). a.1) may.store.acts))

-- ---- nothing is to be left of a tree

pub some_path : (path : List PathStep) → (length path == 0) ≡ false → path ≢ []
some_path path some none = let zero_long = ap length none in let other = eqb-false (length path) 0 some in other zero_long
