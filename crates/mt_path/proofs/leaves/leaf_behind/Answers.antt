use Rattle.mt_path.proofs.Prelude.{◌≡◌, ◌+◌, ◌<◌, ◌≤◌, ◌==◌, length, sym, ap, ◌∙◌, subst, arith, greatest, greatest_fits, few_slots_of, slots_of, IsPlace, Rooted, PathStep, Row, Leaf, found_span, handle_in, path_in, IsOnWay, BeginsAt, WalksTo}
use Rattle.mt_path.proofs.Beginnings.{leap_reads}
use Rattle.mt_path.proofs.Bounds.{next_within}
use Rattle.mt_path.proofs.Groups.{slot_fits, sought}
use Rattle.mt_path.proofs.Kept.{tree_kept, width_kept}
use Rattle.mt_path.proofs.Middles.{lawful_row}
use Rattle.mt_path.proofs.Onward.{named_root, onward_begins, onward_front, onward_way, some_row}
use Rattle.mt_path.proofs.leaves.leaf_behind.Given.{Over}
use Rattle.mt_path.proofs.leaves.leaf_behind.Goals.{After-end_of-leaf, After-row_of_step-row, After-descend_first-found}
use Rattle.mt_path.proofs.leaves.leaf_behind.Goals as goal

-- the index behind the leaf is one of the tree
next : (g : Over) (c : After-end_of-leaf g) → c.end_of-leaf.result.max + 1 ≤ greatest (g.R.Rows.sheet c.args.rows.now).tree.table.width
next g c =
    let path = c.requires.path in
    next_within (g.R.Rows.sheet c.args.rows.now).tree c.requires.tree.0 path.0 c.args.path.now.items c.end_of-leaf.result c.requires.tree.1 path.1 path.2 c.requires.some c.end_of-leaf.ensures c.requires.more

-- the row that covers it, and the slot there that begins at it
module _ (g : Over) (c : After-row_of_step-row g) (within : c.end_of-leaf.result.max + 1 ≤ greatest (g.R.Rows.sheet c.args.rows.now).tree.table.width) where
  abbrev t : Rooted
  t = (g.R.Rows.sheet c.args.rows.now).tree

  abbrev row : Row
  row = record { number = c.in-Some.step.row; kind = c.row_of_step-row.result.kind; min = c.in-Some.step.min; max = c.in-Some.step.max }

  way : IsOnWay t (c.end_of-leaf.result.max + 1) (length c.pop_to.new.path.items) row
  way =
      onward_way t c.requires.tree.0 c.requires.tree.1 c.requires.path.0 (c.end_of-leaf.result.max + 1) c.requires.path.1 within c.args.path.now.items c.requires.path.2 c.pop_to.new.path.items c.in-Some.step c.in-Some.ensures.some
      ((c.len.result + 1) == c.len-levels.result) (λ i. (c.len.ensures.value i + 1) == c.len-levels.ensures.value i) c.row_of_step-row.result.kind c.row_of_step-row.ensures.leaf c.row_of_step-row.ensures.inner

  begins : BeginsAt t.table row (c.in-Some.step.slot + 1) (c.end_of-leaf.result.max + 1)
  begins =
      onward_begins t c.requires.tree.0 c.requires.tree.1 c.requires.path.0 (c.end_of-leaf.result.max + 1) c.requires.path.1 within c.args.path.now.items c.requires.path.2 c.pop_to.new.path.items c.in-Some.step c.in-Some.ensures.some (ap (λ (s : PathStep). s.max + 1) c.end_of-leaf.ensures)
      ((c.len.result + 1) == c.len-levels.result) (λ i. (c.len.ensures.value i + 1) == c.len-levels.ensures.value i) c.row_of_step-row.result.kind c.row_of_step-row.ensures.leaf c.row_of_step-row.ensures.inner

  -- the tree is as it was
  same : (g.R.Rows.sheet c.row_of_step-row.new.rows).tree ≡ t
  same = tree_kept 1 (g.R.Rows.sheet c.args.rows.now) (g.R.Rows.sheet c.row_of_step-row.new.rows) c.row_of_step-row.ensures.reads

-- after the walk down as well
still : (g : Over) (c : After-descend_first-found g) → (g.R.Rows.sheet c.descend_first-found.new.rows).tree ≡ (g.R.Rows.sheet c.row_of_step-row.new.rows).tree
still g c = tree_kept _ (g.R.Rows.sheet c.row_of_step-row.new.rows) (g.R.Rows.sheet c.descend_first-found.new.rows) c.descend_first-found.ensures.reads

pub overflow_add-index : goal.overflow_add-index
overflow_add-index g c = omega (arith, next g (goal.at.overflow_add-index g c).After-end_of-leaf, greatest_fits (g.R.Rows.sheet c.args.rows.now).tree.table.width)

pub unreachable-requires : goal.unreachable-requires
unreachable-requires g c =
    let path = c.requires.path in
    absurd (some_row (g.R.Rows.sheet c.args.rows.now).tree c.requires.tree.0 c.requires.tree.1 path.0 (c.end_of-leaf.result.max + 1) path.1 (next g (goal.at.unreachable-requires g c).After-end_of-leaf) c.args.path.now.items path.2 c.requires.some c.in_default.ensures.none)

pub row_of_step-row-requires : goal.row_of_step-row-requires
row_of_step-row-requires g c = λ _.
    let path = c.requires.path in
    named_root (g.R.Rows.sheet c.args.rows.now).tree c.requires.tree.0 c.requires.tree.1 path.0 (c.end_of-leaf.result.max + 1) path.1 (next g (goal.at.row_of_step-row-requires g c).After-end_of-leaf) c.args.path.now.items path.2 c.pop_to.new.path.items c.in-Some.step c.in-Some.ensures.some

pub overflow_add-slot : goal.overflow_add-slot
overflow_add-slot g c =
    let at = goal.at.overflow_add-slot g c in
    let t = (g.R.Rows.sheet c.args.rows.now).tree in
    let row : Row = record { number = c.in-Some.step.row; kind = c.row_of_step-row.result.kind; min = c.in-Some.step.min; max = c.in-Some.step.max } in
    let within = next g at.After-end_of-leaf in
    let lawful = lawful_row t c.requires.tree.0 c.requires.tree.1 (c.end_of-leaf.result.max + 1) within (length c.pop_to.new.path.items) row (way g at.After-row_of_step-row within) in
    let fits = slot_fits t.table row (sought t.table row lawful) (c.in-Some.step.slot + 1) (begins g at.After-row_of_step-row within).used in
    omega (arith, fits, few_slots_of t.table.width c.row_of_step-row.result.kind)

pub descend_first-found-requires-clause-width : goal.descend_first-found-requires-clause-width
descend_first-found-requires-clause-width g c = c.width-width.ensures

pub descend_first-found-requires-clause-way : goal.descend_first-found-requires-clause-way
descend_first-found-requires-clause-way g c =
    let at = goal.at.descend_first-found-requires-clause-way g c in
    let path = c.requires.path in
    let within = next g at.After-end_of-leaf in
    let kept = same g at.After-row_of_step-row within in
    subst (λ (x : Rooted × Row). WalksTo x.0 (c.end_of-leaf.result.max + 1) c.pop_to.new.path.items x.1) (λ i. (sym kept i, sym c.row_of_step-row.ensures.row i))
    (record {
      within = within;
      front = onward_front (g.R.Rows.sheet c.args.rows.now).tree c.requires.tree.0 c.requires.tree.1 path.0 (c.end_of-leaf.result.max + 1) path.1 within c.args.path.now.items path.2 c.pop_to.new.path.items c.in-Some.step c.in-Some.ensures.some;
      way = way g at.After-row_of_step-row within;
    })

pub descend_first-found-requires-clause-begins : goal.descend_first-found-requires-clause-begins
descend_first-found-requires-clause-begins g c =
    let at = goal.at.descend_first-found-requires-clause-begins g c in
    let within = next g at.After-end_of-leaf in
    let kept = same g at.After-row_of_step-row within in
    subst (λ (x : Rooted × Row). BeginsAt x.0.table x.1 (c.in-Some.step.slot + 1) (c.end_of-leaf.result.max + 1)) (λ i. (sym kept i, sym c.row_of_step-row.ensures.row i))
    (begins g at.After-row_of_step-row within)

-- the leaf is at the end of the path

pub load_found-requires-clause-width : goal.load_found-requires-clause-width
load_found-requires-clause-width g c = width_kept _ _ _ c.width-width.result c.descend_first-found.ensures.reads c.width-width.ensures

pub load_found-requires-clause-row : goal.load_found-requires-clause-row
load_found-requires-clause-row g c =
    subst (λ (t : Rooted). IsPlace t c.descend_first-found.result.step.row 0) (sym (still g (goal.at.load_found-requires-clause-row g c).After-descend_first-found)) c.descend_first-found.ensures.end.place

pub load_found-requires-clause-slot : goal.load_found-requires-clause-slot
load_found-requires-clause-slot g c =
    subst (λ (t : Rooted). c.descend_first-found.result.step.slot < slots_of t.table.width Leaf) (sym (still g (goal.at.load_found-requires-clause-slot g c).After-descend_first-found)) c.descend_first-found.ensures.end.used

pub returns-clause-path : goal.returns-clause-path
returns-clause-path g c =
    let at = goal.at.returns-clause-path g c in
    let t = (g.R.Rows.sheet c.args.rows.now).tree in
    c.descend_first-found.ensures.path
    ∙ (ap (λ (t : Rooted). path_in t.table t.root (c.end_of-leaf.result.max + 1)) (same g at.After-row_of_step-row (next g at.After-end_of-leaf))
    ∙ ap (λ (p : PathStep). path_in t.table t.root (p.max + 1)) c.end_of-leaf.ensures)

pub returns-clause-handle : goal.returns-clause-handle
returns-clause-handle g c =
    let at = goal.at.returns-clause-handle g c in
    let t = (g.R.Rows.sheet c.args.rows.now).tree in
    let found = c.descend_first-found.result in
    let span = c.load_found.ensures.span ∙ ap (λ (t : Rooted). found_span t.table Leaf found) (still g at.After-descend_first-found) in
    (λ i. record { leaf = found.step; span = span i })
    ∙ (c.descend_first-found.ensures.end.handle
    ∙ (ap (λ (t : Rooted). handle_in t (c.end_of-leaf.result.max + 1)) (same g at.After-row_of_step-row (next g at.After-end_of-leaf))
    ∙ ap (λ (p : PathStep). handle_in t (p.max + 1)) c.end_of-leaf.ensures))

pub returns-clause-reads : goal.returns-clause-reads
returns-clause-reads g c =
    let at = goal.at.returns-clause-reads g c in
    let within = next g at.After-end_of-leaf in
    let whole = ap length (c.descend_first-found.ensures.path ∙ ap (λ (t : Rooted). path_in t.table t.root (c.end_of-leaf.result.max + 1)) (same g at.After-row_of_step-row within)) in
    let low = (way g at.After-row_of_step-row within).low in
    leap_reads (g.R.Rows.sheet c.args.rows.now) (g.R.Rows.sheet c.row_of_step-row.new.rows) (g.R.Rows.sheet c.descend_first-found.new.rows) (g.R.Rows.sheet c.load_found.new.rows) c.pop_to.new.path.items c.descend_first-found.new.path.items (omega (arith, whole, low))
    c.row_of_step-row.ensures.reads c.descend_first-found.ensures.reads c.load_found.ensures.rest
