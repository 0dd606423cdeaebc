-- Where a climb ends: what is to be published, and which windows are to be buried.
use Rattle.mt_splice.proofs.Prelude.{◌≡◌, ℕ, zero, suc, ◌+◌, ◌*◌, ◌-◌, ◌<◌, ◌≤◌, List, ◌∷◌, ◌++◌, length, take, refl, sym, ap, ◌∙◌, subst, ◌⊎◌, inl, inr, ⊎_elim, arith, append-nil, Bool, true, eq-eqb, slice_index_or, if◌then◌else◌, take-length, cases_lt, Width, columns, Book, Item, Span, RowKind, RiseFrom, end_of, slot_column, name_at, slots_of, least_items, spans_from, Fills, sizes, after, fills_after, fills_end, fills_rise, length-spans_from, PathStep, path_in, row_on, step_at, at_within, place, child, lawful, same_row, slot_used, Root, Slot, Tree, Stands, covers_all, kind_on, top_of, Sheet, Table, column, inner_of, spans_in, row_most, Climb, Top, Next, RootAbove, NewRow, IsNothingLeft, IsLevelDrafted, HasClimbed, EndsEmpty, EndsAtRoot, EndsAbove, EndsInSlot, Window, windows_over, IsRowTaken, AreRowsTaken, noted_row, noted_rows, IsPieceDrafted, AreHeld, part_of, heads, was_seen, IsLedger, depth_at, begin_at, new_at, level_of, AreAllHeld, newest_first, taken_by, windows_above, Before, new_rows_of, span_to, MayBeCut, Seen, row_at, low_of, high_of, Gathered, IsNewRow, Start, rows_at, tree_with, [], Head, row_in, row_in-name_at}
use Rattle.mt_splice.specs.declared.decisions.Next.TheVariants.{Root as AtRoot, Slot as InSlot}
use Rattle.mt_splice.proofs.Besides.{begin_within}
use Rattle.mt_splice.proofs.DraftedLedger.{taken_behind, all_held_stay, ledger_then, taken_stay, width_then, held_then, noted_then}
use Rattle.mt_splice.proofs.Heads.{heads_fill, length-heads}
use Rattle.mt_splice.proofs.LedgerNow.{now_by}
use Rattle.mt_splice.proofs.LevelRuns.{AreParts, some_items, some_ends}
use Rattle.mt_splice.proofs.Rooms.{few_taken}
use Rattle.mt_splice.proofs.Widened.{step_is}

sub_none : (n : ℕ) → n - 0 ≡ n
sub_none n = omega arith

-- ---- windows of whole levels

pub windows_over_are : (start : Start) → Stands start.tree start.height → (from to : ℕ) → from ≤ top_of start.tree → to ≤ top_of start.tree → (left right : List PathStep) → left ≡ path_in start.tree.table start.tree.root from → right ≡ path_in start.tree.table start.tree.root to
    → (depth : ℕ) → depth ≤ suc start.height → windows_over left right depth ≡ windows_above start from to depth
windows_over_are start stands from to from_within to_within left right left_is right_is zero low = refl
windows_over_are start stands from to from_within to_within left right left_is right_is (suc depth) low =
    let first = step_is start.tree start.height stands left from depth from_within (omega arith) left_is in
    let last = step_is start.tree start.height stands right to depth to_within (omega arith) right_is in
    let rest = windows_over_are start stands from to from_within to_within left right left_is right_is depth (omega arith) in
    λ i. record { first = first i; last = last i } ∷ rest i

-- ---- levels above one that stands for every index

module _ (start : Start) (stands : Stands start.tree start.height) where
  begins_above : (i d : ℕ) → i ≤ top_of start.tree → suc d ≤ start.height → low_of start.tree (suc d) i ≡ 0 → low_of start.tree d i ≡ 0
  begins_above i d within low begin =
      let row = row_at start.tree d i in
      let inside = (at_within row.first (row.last + 1) (spans_in start.tree.table row) i (row_at start.tree (suc d) i) (child start.tree start.height stands i d within (omega arith))).0 in omega arith

  ends_above_it : (j d : ℕ) → j ≤ top_of start.tree → suc d ≤ start.height → high_of start.tree (suc d) j ≡ top_of start.tree + 1 → high_of start.tree d j ≡ top_of start.tree + 1
  ends_above_it j d within low end =
      let row = row_at start.tree d j in
      let inside = (at_within row.first (row.last + 1) (spans_in start.tree.table row) j (row_at start.tree (suc d) j) (child start.tree start.height stands j d within (omega arith))).1 in
      let here = (at_within 0 (top_of start.tree + 1) (rows_at start.tree d) j row (place start.tree start.height stands j d within (omega arith))).1 in omega arith

  pub whole_above : (i j : ℕ) → i ≤ top_of start.tree → j ≤ top_of start.tree → (d : ℕ) → d ≤ start.height → low_of start.tree d i ≡ 0 → high_of start.tree d j ≡ top_of start.tree + 1 → (e : ℕ) → e ≤ d
      → (e ≤ start.height) × (low_of start.tree e i ≡ 0) × (high_of start.tree e j ≡ top_of start.tree + 1)
  whole_above i j i_within j_within zero low begin end e less = let same : zero ≡ e = omega arith in subst (λ (n : ℕ). (n ≤ start.height) × (low_of start.tree n i ≡ 0) × (high_of start.tree n j ≡ top_of start.tree + 1)) same (low, begin, end)
  whole_above i j i_within j_within (suc d) low begin end e less =
      ⊎_elim (λ (lower : e < suc d). whole_above i j i_within j_within d (omega arith) (begins_above i d i_within low begin) (ends_above_it j d j_within low end) e (omega arith))
      (λ (here : suc d ≤ e). let same : suc d ≡ e = omega arith in subst (λ (n : ℕ). (n ≤ start.height) × (low_of start.tree n i ≡ 0) × (high_of start.tree n j ≡ top_of start.tree + 1)) same (low, begin, end)) (cases_lt e (suc d))

-- ---- nothing is left

pub ends_empty : {b : Before} {start : Start} {s : Sheet} {book : Book} {depth : ℕ} {c c' : Climb} {top : Top} (d : IsNothingLeft b start s book depth c) → c'.windows.items ≡ c.windows.items ++ windows_over c.ways.left.items c.ways.right.items depth → c'.made.items ≡ c.made.items → c'.inner ≡ c.inner
    → top.place ≡ Root → top.word ≡ 0 → top.gap ≡ 0 → top.row ≡ 0 → HasClimbed b start s book c' top
ends_empty {b} {start} {s} {book} {depth} {c} {c'} {top} d windows made inner place word gap row =
    let low : depth ≤ start.height = (let leaves = d.leaves in omega arith) in
    let from_within : d.from ≤ top_of start.tree = (let order = d.order in let within = d.within in omega arith) in
    let over = windows_over_are start d.stands d.from d.to from_within d.within c.ways.left.items c.ways.right.items d.left d.right depth (omega arith) in
    record {
      layers = [];
      root = [];
      from = d.from;
      to = d.to;
      over = suc depth;
      case = d.case;
      stands = d.stands;
      planned = tt;
      told = tt;
      held = tt;
      ledger = d.ledger;
      made = made ∙ d.made;
      few = omega arith;
      order = d.order;
      within = d.within;
      windows = windows ∙ (λ i. d.windows i ++ over i);
      whole = λ e less. whole_above start d.stands d.from d.to from_within d.within depth low d.first d.last e (omega arith);
      joined = λ some. let leaves = d.leaves in omega arith;
      inner = inner ∙ d.inner;
      names = row ∙ ap row_in (sym word);
      ends = inl (record { no_layers = refl; no_root = refl; all = ap suc (sym d.leaves); none = d.none; place = place; word = word; gap = gap });
    }

-- ---- a level drafted

only_item : (items : List Item) (x : Item) → length items ≡ 1 → items ≡ slice_index_or items 0 x ∷ []
only_item [] x one = absurd (omega arith)
only_item (y ∷ []) x one = refl
only_item (y ∷ z ∷ items) x one = absurd (omega arith)

head_named : (above kind : RowKind) (first : ℕ) (items : List Item) (from : ℕ) (ends rows : List ℕ) → 1 ≤ length ends → length rows ≡ length ends → (x : Item) (r : ℕ) → row_in (slice_index_or (heads above kind first items from ends rows) 0 x).word ≡ slice_index_or rows 0 r
head_named above kind first items from [] rows some many x r = absurd (omega arith)
head_named above kind first items from (to ∷ ends) [] some many x r = absurd (omega arith)
head_named above kind first items from (to ∷ ends) (row ∷ rows) some many x r = row_in-name_at row kind

module _ {b : Before} {start : Start} {s : Sheet} {book : Book} {depth : ℕ} {c : Climb} {rows : List ℕ} {new : List Item} {next : Next} (d : IsLevelDrafted b start s book depth c rows new next) where
  abbrev h : ℕ
  h = length d.lower

  abbrev at : ℕ
  at = begin_at start h d.l

  pub depth_is : depth_at start h ≡ depth
  depth_is = let levels = d.at in omega arith

  from_within : d.l.from ≤ top_of start.tree
  from_within = begin_within d.planned.0.gathered

  new_is : new_at start h d.l ≡ spans_from at new
  new_is = ap (spans_from at) (sym d.up)

  pub many_new : length new ≡ length d.l.ends
  many_new = ap length d.up ∙ length-heads (inner_of start.tree.gapped) (kind_on start.tree.gapped h) at d.l.items 0 d.l.ends d.l.rows d.planned.0.many

  new_fills : Fills at (high_of start.tree (depth_at start h) d.l.to) (spans_from at new)
  new_fills = subst (λ (l : List Item). Fills at (high_of start.tree (depth_at start h) d.l.to) (spans_from at l)) (sym d.up) (heads_fill start.tree h (inner_of start.tree.gapped) (kind_on start.tree.gapped h) d.l.items d.l.rows d.planned.0.cut d.planned.0.fewest d.planned.0.many)

  few_all : length (taken_by start (d.l ∷ d.lower)) ≤ 3 * (start.height + 1)
  few_all = let few = few_taken start (d.l ∷ d.lower) d.planned in let low = d.planned.0.low in omega arith

  left_min : (step_at c.ways.left.items depth).min ≡ at
  left_min = ap (λ (z : PathStep). z.min) (step_is start.tree start.height d.planned.0.gathered.stands c.ways.left.items d.l.from depth from_within (let levels = d.at in omega arith) d.left) ∙ ap (λ (n : ℕ). low_of start.tree n d.l.from) (sym depth_is)

  right_max : (step_at c.ways.right.items depth).max + 1 ≡ high_of start.tree (depth_at start h) d.l.to
  right_max = ap (λ (z : PathStep). z.max + 1) (step_is start.tree start.height d.planned.0.gathered.stands c.ways.right.items d.l.to depth d.planned.0.gathered.within (let levels = d.at in omega arith) d.right) ∙ ap (λ (n : ℕ). high_of start.tree n d.l.to) (sym depth_is)

  pub many_rows : length rows ≡ length d.l.ends
  many_rows = ap length d.numbers ∙ d.planned.0.many

  -- the row that the first item names
  pub first_row_is : 1 ≤ length new → (x : Item) (r : ℕ) → row_in (slice_index_or new 0 x).word ≡ slice_index_or rows 0 r
  first_row_is some x r = subst (λ (p : List Item × List ℕ). row_in (slice_index_or p.0 0 x).word ≡ slice_index_or p.1 0 r) (λ i. (sym d.up i, sym d.numbers i))
      (head_named (inner_of start.tree.gapped) (kind_on start.tree.gapped h) at d.l.items 0 d.l.ends d.l.rows (let many = many_new in omega arith) d.planned.0.many x r)

  -- the climb ends on this level, with windows of whole levels above it, and a new root or none
  has_ended : {s' : Sheet} {book' : Book} {c' : Climb} {top : Top} (root : List Seen) (over : ℕ) → let layers = d.l ∷ d.lower in let taken = root ++ taken_by start layers in
      AreAllHeld start s'.tree.table.words (was_seen taken) layers → IsLedger b s' book' taken [] → c'.made.items ≡ new_rows_of s'.tree.table taken → length taken ≤ length (taken_by start layers) + 1
      → c'.windows.items ≡ c.windows.items ++ windows_above start d.l.from d.l.to over → ((e : ℕ) → e < over → (e ≤ start.height) × (low_of start.tree e d.l.from ≡ 0) × (high_of start.tree e d.l.to ≡ top_of start.tree + 1)) → (0 < over → over ≡ depth)
      → c'.inner ≡ c.inner → top.row ≡ row_in top.word → EndsEmpty start layers root over top ⊎ (EndsAtRoot start layers root over top ⊎ (EndsAbove start s' layers root over top ⊎ EndsInSlot start layers root over top)) → HasClimbed b start s' book' c' top
  has_ended root over held ledger made one windows whole all inner names ends = record {
    layers = d.l ∷ d.lower;
    root = root;
    from = d.l.from;
    to = d.l.to;
    over = over;
    case = d.case;
    stands = d.planned.0.gathered.stands;
    planned = d.planned;
    told = d.told;
    held = held;
    ledger = ledger;
    made = made;
    few = let few = few_all in omega arith;
    order = d.planned.0.gathered.order;
    within = d.planned.0.gathered.within;
    windows = windows ∙ ap (λ (l : List Window). l ++ windows_above start d.l.from d.l.to over) d.windows;
    whole = whole;
    joined = λ some. let is = all some in let levels = d.at in omega arith;
    inner = inner ∙ d.inner;
    names = names;
    ends = ends;
  }

  -- the one row, where there is one
  module _ (one : length d.l.ends ≡ 1) (x : Item) where
    abbrev item : Item
    item = slice_index_or new 0 x

    abbrev span : Span
    span = record { first = at; last = item.last; word = item.word }

    one_span : new_at start h d.l ≡ span ∷ []
    one_span = new_is ∙ ap (spans_from at) (only_item new x (many_new ∙ one))

    span_ends : item.last + 1 ≡ high_of start.tree (depth_at start h) d.l.to
    span_ends = (subst (Fills at (high_of start.tree (depth_at start h) d.l.to)) (ap (spans_from at) (only_item new x (many_new ∙ one))) new_fills).2

-- one row stands for every index
pub ends_at_root : {b : Before} {start : Start} {s : Sheet} {book : Book} {depth : ℕ} {c c' : Climb} {rows : List ℕ} {new : List Item} {top : Top} (d : IsLevelDrafted b start s book depth c rows new AtRoot) (x : Item) (r : ℕ)
    → c'.windows.items ≡ c.windows.items ++ windows_over c.ways.left.items c.ways.right.items depth → c'.made.items ≡ c.made.items → c'.inner ≡ c.inner → top.place ≡ Root → top.word ≡ (slice_index_or new 0 x).word → top.gap ≡ 0 → top.row ≡ slice_index_or rows 0 r → HasClimbed b start s book c' top
ends_at_root {b} {start} {s} {book} {depth} {c} {c'} {rows} {new} {top} d x r windows made inner place word gap row =
    let one = d.goes_on.1 in let all = d.goes_on.2 in
    let g = d.planned.0.gathered in
    let low : depth ≤ start.height = (let levels = d.at in omega arith) in
    let over = windows_over_are start g.stands d.l.from d.l.to (from_within d) g.within c.ways.left.items c.ways.right.items d.left d.right depth (omega arith) in
    let min = left_min d in let max = right_max d in let end = span_ends d one x in let first = all.first in let last = all.last in
    let same = depth_is d in
    let begin : low_of start.tree depth d.l.from ≡ 0 = ap (λ (n : ℕ). low_of start.tree n d.l.from) (sym same) ∙ (sym min ∙ first) in
    let behind : high_of start.tree depth d.l.to ≡ top_of start.tree + 1 = ap (λ (n : ℕ). high_of start.tree n d.l.to) (sym same) ∙ (sym max ∙ ap (λ (n : ℕ). n + 1) last) in
    has_ended d [] depth d.held d.ledger (made ∙ d.made) (omega arith) (windows ∙ ap (λ (l : List Window). c.windows.items ++ l) over)
    (λ e less. whole_above start g.stands d.l.from d.l.to (from_within d) g.within depth low begin behind e (omega arith)) (λ _. refl) inner
    (row ∙ (sym (first_row_is d (let many = many_new d in omega arith) x r) ∙ ap row_in (sym word)))
    (inr (inl (record {
      l = d.l;
      lower = d.lower;
      are = refl;
      x = span d one x;
      one = one_span d one x;
      first = omega arith;
      last = omega arith;
      no_root = refl;
      above = sym same;
      place = place;
      word = word;
      gap = gap;
    })))

-- the rows have the width of the tree, and as many slots
slots_same : {b : Before} {start : Start} {s : Sheet} {book : Book} {depth : ℕ} {c : Climb} {rows : List ℕ} {new : List Item} {next : Next} → IsLevelDrafted b start s book depth c rows new next → {width : Width} → width ≡ s.tree.table.width
    → slots_of width c.inner ≡ slots_of start.tree.table.width (inner_of start.tree.gapped)
slots_same {start = start} {c = c} d {width} width_is =
    let wide = width_is ∙ (now_by d.case.was d.ledger d.planned.0.gathered.stands).width in
    λ i. slots_of (wide i) (d.inner i)

-- one row takes the place of one
pub ends_in_slot : {b : Before} {start : Start} {s : Sheet} {book : Book} {depth : ℕ} {c : Climb} {rows : List ℕ} {new : List Item} {top : Top} (d : IsLevelDrafted b start s book depth c rows new InSlot) (x : Item) (r : ℕ) {width : Width}
    → width ≡ s.tree.table.width → top.place ≡ Slot (step_at c.ways.left.items (depth - 1)).row (slot_column (slots_of width c.inner) (step_at c.ways.left.items (depth - 1)).slot) → top.word ≡ (slice_index_or new 0 x).word → top.gap ≡ (slice_index_or new 0 x).gap → top.row ≡ slice_index_or rows 0 r → HasClimbed b start s book c top
ends_in_slot {b} {start} {s} {book} {depth} {c} {rows} {new} {top} d x r {width} width_is place word gap row =
    let below = d.goes_on.1 in let one = d.goes_on.2 in let same = d.goes_on.3 in
    let g = d.planned.0.gathered in
    let levels = d.at in
    let here = ap (λ (z : PathStep). z.min) (step_is start.tree start.height g.stands c.ways.left.items d.l.from depth (from_within d) (omega arith) d.left) in
    let there = ap (λ (z : PathStep). z.min) (step_is start.tree start.height g.stands c.ways.right.items d.l.to depth g.within (omega arith) d.right) in
    let deeper : depth ≡ suc (depth - 1) = omega arith in
    let parent = step_is start.tree start.height g.stands c.ways.left.items d.l.from (depth - 1) (from_within d) (omega arith) d.left in
    has_ended d [] 0 d.held d.ledger d.made (omega arith) (sym (append-nil c.windows.items)) (λ e less. absurd (omega arith)) (λ some. absurd (omega arith)) refl
    (row ∙ (sym (first_row_is d (let many = many_new d in omega arith) x r) ∙ ap row_in (sym word)))
    (inr (inr (inr (record {
      l = d.l;
      lower = d.lower;
      are = refl;
      depth = depth - 1;
      above = depth_is d ∙ deeper;
      x = span d one x;
      one = one_span d one x;
      tells = sym d.up ∙ (only_item new x (many_new d ∙ one) ∙ (λ i. record { last = (slice_index_or new 0 x).last; word = (slice_index_or new 0 x).word; gap = sym gap i } ∷ []));
      same = subst (λ (n : ℕ). row_at start.tree n d.l.from ≡ row_at start.tree n d.l.to) deeper (same_row start.tree start.height g.stands d.l.from d.l.to depth (from_within d) g.within (omega arith) (omega arith));
      no_root = refl;
      none = refl;
      place = place ∙ (λ i. Slot (parent i).row (slot_column (slots_same d width_is i) (parent i).slot));
      word = word;
    }))))

-- its slot is one of the row above
pub slot_fits : {b : Before} {start : Start} {s : Sheet} {book : Book} {depth : ℕ} {c : Climb} {rows : List ℕ} {new : List Item} → IsLevelDrafted b start s book depth c rows new InSlot → {width : Width} → width ≡ s.tree.table.width → (step_at c.ways.left.items (depth - 1)).slot < slots_of width c.inner
slot_fits {start = start} {depth = depth} {c = c} d {width} width_is =
    let below = d.goes_on.1 in let levels = d.at in let g = d.planned.0.gathered in
    let high : start.height ≡ (depth - 1) + suc (length d.lower) = omega arith in
    let used = slot_used start.tree start.height g.stands d.l.from (depth - 1) (from_within d) (omega arith) in
    let most = row_most (lawful start.tree start.height g.stands d.l.from (depth - 1) (suc (length d.lower)) (from_within d) high).name in
    let there = ap (λ (l : List PathStep). (step_at l (depth - 1)).slot) d.left in
    let slots = slots_same d width_is in
    omega arith

-- ---- a new root

pub root_begins : (t : Tree) (i : ℕ) → low_of t 0 i ≡ 0
unfolding row_on
root_begins t i = refl

pub root_ends : (t : Tree) (i : ℕ) → high_of t 0 i ≡ top_of t + 1
unfolding row_on
root_ends t i = refl

module _ {b : Before} {start : Start} {s : Sheet} {book : Book} {depth : ℕ} {c : Climb} {rows : List ℕ} {new : List Item} (d : IsLevelDrafted b start s book depth c rows new RootAbove) where
  abbrev g : Gathered start (level_of start d.lower) d.l.from d.l.to (depth_at start (length d.lower)) (length d.lower) (spans_from (begin_at start (length d.lower) d.l) d.l.items)
  g = d.planned.0.gathered

  abbrev I : RowKind
  I = inner_of start.tree.gapped

  abbrev H : ℕ
  H = suc start.height

  at_top : depth_at start (length d.lower) ≡ 0
  at_top = depth_is d ∙ d.goes_on.1

  high : length d.lower ≡ start.height
  high = let top = at_top in let low = d.planned.0.low in omega arith

  begin : begin_at start (length d.lower) d.l ≡ 0
  begin = ap (λ (n : ℕ). low_of start.tree n d.l.from) at_top ∙ root_begins start.tree d.l.from

  end : high_of start.tree (depth_at start (length d.lower)) d.l.to ≡ top_of start.tree + 1
  end = ap (λ (n : ℕ). high_of start.tree n d.l.to) at_top ∙ root_ends start.tree d.l.to

  some : 1 ≤ length d.l.ends
  some = some_ends d.planned.0.fewest (some_items d.l.items d.planned.0.cut)

  -- more than one, or it would stand for every index
  two : 2 ≤ length d.l.ends
  two =
      ⊎_elim (λ (many : 1 < length d.l.ends). many)
      (λ (few : length d.l.ends ≤ 1).
      let least = some in let first = left_min d in let last = right_max d in let b = begin in let e = end in
      absurd (d.goes_on.2 (omega arith) (record { first = omega arith; last = omega arith }))) (cases_lt 1 (length d.l.ends))

  new_all : Fills 0 (top_of start.tree + 1) (spans_from 0 new)
  new_all = subst (λ (p : ℕ × ℕ). Fills p.0 p.1 (spans_from p.0 new)) (λ i. (begin i, end i)) (new_fills d)

  pub new_some : 1 ≤ length new
  new_some = let many = many_new d in let some = some in omega arith

  pub new_rises : {new' : List Item} → new' ≡ new → RiseFrom 0 new'
  new_rises same = subst (RiseFrom 0) (sym same) (fills_rise 0 (top_of start.tree + 1) new new_all)

  module _ {s' : Sheet} {book' : Book} {made' : List NewRow} {root : Head} (piece : IsPieceDrafted s s' book book' c.inner c.inner 0 new c.made.items made' root) where
    part_is : part_of new 0 (length new) ≡ new
    part_is = ap (λ (n : ℕ). take n new) (sub_none (length new)) ∙ take-length new

    run_is : MayBeCut start.tree H 0 (after 0 new) (spans_from 0 new)
    run_is =
        let many = many_new d in let few = d.planned.0.few in let more = two in
        let same = length-spans_from 0 new in let size = sizes start.tree.table.width I in
        let ends = fills_after 0 (top_of start.tree + 1) new new_all in
        let covers : covers_all start.tree (span_to 0 (after 0 new)) ≡ true = (let last : after 0 new - 1 ≡ top_of start.tree = omega arith in rw (eq-eqb (after 0 new - 1) (top_of start.tree) last) refl) in
        record {
          fills = subst (λ (n : ℕ). Fills 0 n (spans_from 0 new)) ends new_all;
          some = omega arith;
          few = omega (arith, size.least, size.some);
          least = let is = ap (λ (c : Bool). if c then 2 else least_items start.tree.table.width I) covers in omega arith;
          fit = tt;
          leaves = λ none. absurd (omega arith);
        }

    parts : AreParts start.tree H 0 new 0 (length new ∷ [])
    parts =
        let many = many_new d in let few = d.planned.0.few in let more = two in let size = sizes start.tree.table.width I in (
          record { some = omega arith; within = omega arith; fit = omega (arith, size.least, size.some); run = subst (λ (l : List Item). MayBeCut start.tree H 0 (after 0 l) (spans_from 0 l)) (sym part_is) run_is },
          refl,
        )

    are : AreRowsTaken I new 0 (length new ∷ []) (root.row ∷ []) s s' book book'
    are = (s', book', subst (λ (p : RowKind × List Item). IsRowTaken s s' book book' p.0 p.1 root.row) (λ i. (d.inner i, sym part_is i)) piece.taken, (refl, refl))

    wide : s.tree.table.width ≡ start.tree.table.width
    wide = (now_by d.case.was d.ledger g.stands).width

    wide' : s'.tree.table.width ≡ start.tree.table.width
    wide' = width_then d.case.was H I I new 0 (length new ∷ []) (root.row ∷ []) s s' book book' are ∙ wide

    abbrev root_seen : Seen
    root_seen = record { height = H; at = record { first = 0; last = top_of start.tree; word = name_at root.row I } }

    seen_is : newest_first H (spans_from 0 (heads I I 0 new 0 (length new ∷ []) (root.row ∷ []))) ≡ root_seen ∷ []
    seen_is =
        let many = many_new d in let more = two in
        let ends = fills_end 0 0 (top_of start.tree + 1) 0 new (omega arith) new_all in
        let last : end_of 0 (part_of new 0 (length new)) ≡ top_of start.tree = ap (end_of 0) part_is ∙ omega (arith, ends) in
        λ i. record { height = H; at = record { first = 0; last = last i; word = name_at root.row I } } ∷ []

    ledger' : IsLedger b s' book' (root_seen ∷ taken_by start (d.l ∷ d.lower)) []
    ledger' = subst (λ (l : List Seen). IsLedger b s' book' (l ++ taken_by start (d.l ∷ d.lower)) []) seen_is (ledger_then d.case.was H I I new 0 0 (length new ∷ []) (root.row ∷ []) d.ledger are)

    table_of : (x : Sheet) → x.tree.table.width ≡ start.tree.table.width → (tree_with start.tree x.tree.table.words).table ≡ x.tree.table
    table_of x wide = λ i. record { width = sym wide i; words = x.tree.table.words }

    held' : AreAllHeld start s'.tree.table.words (was_seen (root_seen ∷ taken_by start (d.l ∷ d.lower))) (d.l ∷ d.lower)
    held' = all_held_stay start s.tree.table.words s'.tree.table.words (was_seen (taken_by start (d.l ∷ d.lower))) (was_seen (root_seen ∷ taken_by start (d.l ∷ d.lower)))
        (λ row some. taken_behind (root_seen ∷ []) (taken_by start (d.l ∷ d.lower)) row some)
        (λ row c some within.
        ap (λ (t : Table). column t row c) (table_of s' wide')
        ∙ (taken_stay d.case.was H I I new 0 0 (length new ∷ []) (root.row ∷ []) s s' book book' d.ledger are row some c (subst (λ (v : Width). c < columns v) (sym wide) within) ∙ sym (ap (λ (t : Table). column t row c) (table_of s wide))))
        (d.l ∷ d.lower) d.held

    root_held : AreHeld (tree_with start.tree s'.tree.table.words) (was_seen (newest_first H (spans_from 0 (heads I I 0 new 0 (length new ∷ []) (root.row ∷ []))) ++ taken_by start (d.l ∷ d.lower))) I new 0 (length new ∷ []) (root.row ∷ [])
    root_held = held_then d.case.was H I I new refl 0 0 (length new ∷ []) (root.row ∷ []) s s' book book' d.ledger are parts wide'

    root_holds : IsNewRow s'.tree.table I root.row new
    root_holds = subst (λ (p : Table × List Item). IsNewRow p.0 I root.row p.1) (λ i. (table_of s' wide' i, part_is i)) root_held.0

    notes : made' ≡ c.made.items ++ noted_rows I 0 (length new ∷ []) (root.row ∷ [])
    notes =
        piece.noted
        ∙ ((λ i. c.made.items ++ noted_row (d.inner i) root.row (sym (sub_none (length new)) i))
        ∙ ap (λ (l : List NewRow). c.made.items ++ l) (sym (append-nil (noted_row I root.row (length new - 0)))))

    made_is : made' ≡ new_rows_of s'.tree.table (root_seen ∷ taken_by start (d.l ∷ d.lower))
    made_is =
        noted_then d.case.was H I I new refl 0 0 (length new ∷ []) (root.row ∷ []) s s' book book' d.ledger are parts refl wide' d.made notes
        ∙ ap (λ (l : List Seen). new_rows_of s'.tree.table (l ++ taken_by start (d.l ∷ d.lower))) seen_is

    pub ends_above : {c' : Climb} {top : Top} → c'.made.items ≡ made' → c'.windows.items ≡ c.windows.items → c'.inner ≡ c.inner → top.place ≡ Root → top.word ≡ root.item.word → top.gap ≡ 0 → top.row ≡ root.row → HasClimbed b start s' book' c' top
    ends_above {c'} {top} made windows inner place word gap row =
        has_ended d (root_seen ∷ []) 0 held' ledger' (made ∙ made_is) (omega arith) (windows ∙ sym (append-nil c.windows.items)) (λ e less. absurd (omega arith)) (λ some. absurd (omega arith)) inner
        (row ∙ (sym (row_in-name_at root.row c.inner) ∙ ap row_in (sym (word ∙ ap (λ (x : Item). x.word) piece.up))))
        (inr (inr (inl (record {
          l = d.l;
          lower = d.lower;
          are = refl;
          height = high;
          holds = subst (IsNewRow s'.tree.table I root.row) d.up root_holds;
          two = two;
          row = root.row;
          inside = root_held.2;
          run = subst (λ (p : ℕ × List Item). MayBeCut start.tree H 0 p.0 (spans_from 0 p.1)) (λ i. (sym (fills_after 0 (top_of start.tree + 1) new new_all) i, d.up i)) run_is;
          one_root = refl;
          none = refl;
          place = place;
          word = word ∙ (ap (λ (x : Item). x.word) piece.up ∙ ap (name_at root.row) d.inner);
          gap = gap;
        }))))
