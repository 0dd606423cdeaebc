use Rattle.mt_check.proofs.Prelude.{◌≢◌, ◌≤◌, ◌==◌, ◌&&◌, List, length, filter, not, sym, ap, ◌∙◌, subst, rules, arith, Ok, Any, err_from_is_err_and, Item, RiseFrom, longest_hole, Below, tree_from, IsAnswerAt, reads_on}
use Rattle.mt_check.proofs.Descending.{risen, leaf_entry, leaf_answer, leaf_depth}
use Rattle.mt_check.proofs.Children.{child_low, child_falls, child_depth, child_answer, rows_fit_in, ranges_fit_in, goes_next, gaps_answer, last_answer, last_depth, inner_walk, still_leads, still_entered, answer_back, depth_back, walk_back, own_first, not_leaf}
use Rattle.mt_check.proofs.walks.Walk.+walk.Goals as goal

pub check_children-child-requires-clause-rise : goal.check_children-child-requires-clause-rise
check_children-child-requires-clause-rise g t c = risen (tree_from c.args.self.now (g.R.Rows.sheet c.args.rows.now).tree) c.args.visit c.args.row.now c.requires.row

pub check_children-check_row-requires : goal.check_children-check_row-requires
check_children-check_row-requires g t c κs within =
    let falls = child_falls (g.R.Rows.sheet c.args.rows.now) (g.R.Rows.sheet c.loop-slot.rows) c.args.self.now c.loop-slot.self c.args.visit c.args.row.now c.loop-slot.slot c.loop-slot.below c.loop-slot.gaps_hold c.requires.left c.requires.depth c.requires.row c.requires.inner c.loop-slot.invariant c.child.result c.child.ensures.visit c.child.ensures.span in
    let depth = c.decreases in
    (omega arith, (within, (child_low (g.R.Rows.sheet c.args.rows.now) (g.R.Rows.sheet c.loop-slot.rows) c.args.self.now c.loop-slot.self c.args.visit c.args.row.now c.loop-slot.slot c.loop-slot.below c.loop-slot.gaps_hold c.requires.left c.requires.depth c.requires.row c.requires.inner c.loop-slot.invariant c.child.result c.child.ensures.visit c.child.ensures.span, child_depth (g.R.Rows.sheet c.args.rows.now) (g.R.Rows.sheet c.loop-slot.rows) c.args.self.now c.loop-slot.self c.args.visit c.args.row.now c.loop-slot.slot c.loop-slot.below c.loop-slot.gaps_hold c.requires.left c.requires.depth c.requires.row c.requires.inner c.loop-slot.invariant c.child.result c.child.ensures.visit c.child.ensures.span)))

pub check_children-returns-in_err-child-clause-answer : goal.check_children-returns-in_err-child-clause-answer
check_children-returns-in_err-child-clause-answer g t c =
    let p = err_from_is_err_and c.from_residual.result c.from_residual.ensures.1 in
    rw (p.1, p.2) (child_answer (g.R.Rows.sheet c.args.rows.now) (g.R.Rows.sheet c.loop-slot.rows) c.args.self.now c.loop-slot.self c.args.visit c.args.row.now c.loop-slot.slot c.loop-slot.below c.loop-slot.gaps_hold c.requires.left c.requires.depth c.requires.row c.requires.inner c.loop-slot.invariant c.child.result c.child.ensures.visit c.child.ensures.span c.in_err-child.field-0.0 c.in_err-child.ensures.answer)

pub check_children-plus-below-requires-clause-rows : goal.check_children-plus-below-requires-clause-rows
check_children-plus-below-requires-clause-rows g t c = rows_fit_in (g.R.Rows.sheet c.args.rows.now) (g.R.Rows.sheet c.loop-slot.rows) c.args.self.now c.loop-slot.self c.args.visit c.args.row.now c.loop-slot.slot c.loop-slot.below c.loop-slot.gaps_hold c.requires.left c.requires.depth c.requires.row c.requires.inner c.loop-slot.invariant c.child.result c.child.ensures.visit c.child.ensures.span c.in_ok-child.child c.in_ok-child.ensures.answer

pub check_children-plus-below-requires-clause-ranges : goal.check_children-plus-below-requires-clause-ranges
check_children-plus-below-requires-clause-ranges g t c = ranges_fit_in (g.R.Rows.sheet c.args.rows.now) (g.R.Rows.sheet c.loop-slot.rows) c.args.self.now c.loop-slot.self c.args.visit c.args.row.now c.loop-slot.slot c.loop-slot.below c.loop-slot.gaps_hold c.requires.left c.requires.depth c.requires.row c.requires.inner c.loop-slot.invariant c.child.result c.child.ensures.visit c.child.ensures.span c.in_ok-child.child c.in_ok-child.ensures.answer

pub check_children-loop-slot-preserved : goal.check_children-loop-slot-preserved
check_children-loop-slot-preserved g t c =
    goes_next (g.R.Rows.sheet c.args.rows.now) (g.R.Rows.sheet c.loop-slot.rows) c.args.self.now c.loop-slot.self c.args.visit c.args.row.now c.loop-slot.slot c.loop-slot.below c.loop-slot.gaps_hold c.requires.left c.requires.depth c.requires.row c.requires.inner c.loop-slot.invariant c.child.result c.child.ensures.visit c.child.ensures.span c.in_ok-child.child c.in_ok-child.ensures.answer (g.R.Rows.sheet c.check_row.new.rows) c.check_row.new.self c.plus-below.result _
    c.in_ok-child.ensures.rest c.in_ok-child.ensures.walk c.in_ok-child.ensures.depth (ap (λ b. c.loop-slot.gaps_hold && b) c.tells_gap-gaps_hold.ensures) c.plus-below.ensures

pub check_children-returns-then-not-gaps_hold-clause-answer : goal.check_children-returns-then-not-gaps_hold-clause-answer
check_children-returns-then-not-gaps_hold-clause-answer g t c =
    let past : length c.args.row.now.items.items ≤ c.loop-slot.slot = search rules in
    gaps_answer (g.R.Rows.sheet c.args.rows.now) (g.R.Rows.sheet c.loop-slot.rows) c.args.self.now c.loop-slot.self c.args.visit c.args.row.now c.loop-slot.slot c.loop-slot.below c.loop-slot.gaps_hold c.requires.left c.requires.depth c.requires.row c.requires.inner c.loop-slot.invariant past (search rules)

pub check_children-returns-clause-answer : goal.check_children-returns-clause-answer
check_children-returns-clause-answer g t c =
    let past : length c.args.row.now.items.items ≤ c.loop-slot.slot = search rules in
    last_answer (g.R.Rows.sheet c.args.rows.now) (g.R.Rows.sheet c.loop-slot.rows) c.args.self.now c.loop-slot.self c.args.visit c.args.row.now c.loop-slot.slot c.loop-slot.below c.loop-slot.gaps_hold c.requires.left c.requires.depth c.requires.row c.requires.inner c.loop-slot.invariant past (search rules)

pub check_children-returns-clause-depth : goal.check_children-returns-clause-depth
check_children-returns-clause-depth g t c =
    let past : length c.args.row.now.items.items ≤ c.loop-slot.slot = search rules in
    last_depth (g.R.Rows.sheet c.args.rows.now) (g.R.Rows.sheet c.loop-slot.rows) c.args.self.now c.loop-slot.self c.args.visit c.args.row.now c.loop-slot.slot c.loop-slot.below c.loop-slot.gaps_hold c.requires.left c.requires.depth c.requires.row c.requires.inner c.loop-slot.invariant past

pub check_row-returns-in_err-enter-clause-answer : goal.check_row-returns-in_err-enter-clause-answer
check_row-returns-in_err-enter-clause-answer g t c =
    let p = err_from_is_err_and c.from_residual.result c.from_residual.ensures.1 in
    rw (p.1, p.2) (own_first (tree_from c.args.self.now (g.R.Rows.sheet c.args.rows.now).tree) c.args.visit c.in_err-enter.field-0.0 c.in_err-enter.ensures.err)

pub check_row-leaf_below-requires-clause-rise : goal.check_row-leaf_below-requires-clause-rise
check_row-leaf_below-requires-clause-rise g t c =
    subst (RiseFrom c.args.visit.span.first) (sym c.as_slice.ensures.value) (risen (tree_from c.args.self.now (g.R.Rows.sheet c.args.rows.now).tree) c.args.visit c.enter.new.row c.in_ok-enter.ensures.ok)

pub check_row-leaf_below-requires-clause-entry : goal.check_row-leaf_below-requires-clause-entry
check_row-leaf_below-requires-clause-entry g t c =
    subst (Any (λ (i : Item). i.word ≢ 0)) (sym c.as_slice.ensures.value) (leaf_entry (tree_from c.args.self.now (g.R.Rows.sheet c.args.rows.now).tree) c.args.visit c.enter.new.row c.in_ok-enter.ensures.ok c.in-Leaf.is)

pub check_row-check_children-requires : goal.check_row-check_children-requires
check_row-check_children-requires g t c κs within =
    let s = g.R.Rows.sheet c.args.rows.now in
    let s' = g.R.Rows.sheet c.enter.new.rows in
    let inner = not_leaf c.enter.new.row.kind c.in-Inner.is in
    let same = inner_walk c.args.self.now c.enter.new.self c.args.visit.left c.enter.new.row.kind inner c.in_ok-enter.ensures.known in
    let depth = c.decreases in (
      omega arith,
      (
        within,
        (
          c.requires.left,
          (
            still_leads s s' c.args.self.now c.enter.new.self c.args.visit c.enter.new.row c.enter.ensures.rest same c.requires.depth,
            (still_entered s s' c.args.self.now c.enter.new.self c.args.visit c.enter.new.row c.enter.ensures.rest same c.in_ok-enter.ensures.ok, inner),
          ),
        ),
      ),
    )

pub check_row-returns-in-Leaf-clause-answer : goal.check_row-returns-in-Leaf-clause-answer
check_row-returns-in-Leaf-clause-answer g t c =
    let tree = tree_from c.args.self.now (g.R.Rows.sheet c.args.rows.now).tree in
    let first = c.args.visit.span.first in
    subst (λ (b : Below). IsAnswerAt tree c.args.visit (Ok b)) (sym (c.leaf_below.ensures ∙ ap (λ (l : List Item). record { rows = 1; ranges = length (filter (λ (x : Item). not (x.word == 0)) l); longest = longest_hole first l }) c.as_slice.ensures.value))
    (leaf_answer tree c.args.visit c.enter.new.row c.in_ok-enter.ensures.ok c.in-Leaf.is)

pub check_row-returns-in-Leaf-clause-depth : goal.check_row-returns-in-Leaf-clause-depth
check_row-returns-in-Leaf-clause-depth g t c =
    leaf_depth (tree_from c.args.self.now (g.R.Rows.sheet c.args.rows.now).tree) c.args.visit c.enter.new.row c.in_ok-enter.ensures.ok c.in-Leaf.is c.args.self.now c.enter.new.self c.in_ok-enter.ensures.known c.requires.depth

pub check_row-returns-in-Inner : goal.check_row-returns-in-Inner
check_row-returns-in-Inner g t c =
    let s = g.R.Rows.sheet c.args.rows.now in
    let s' = g.R.Rows.sheet c.enter.new.rows in
    let inner = not_leaf c.enter.new.row.kind c.in-Inner.is in
    let same = inner_walk c.args.self.now c.enter.new.self c.args.visit.left c.enter.new.row.kind inner c.in_ok-enter.ensures.known in
    record {
      answer = answer_back s s' c.args.self.now c.enter.new.self c.args.visit c.enter.new.row c.enter.ensures.rest same c.check_children.result c.check_children.ensures.answer;
      depth = depth_back s s' c.args.self.now c.enter.new.self c.args.visit c.enter.new.row c.enter.ensures.rest same c.check_children.result c.check_children.new.self.leaf_depth c.check_children.ensures.depth;
      walk = walk_back s s' c.args.self.now c.enter.new.self c.args.visit c.enter.new.row c.enter.ensures.rest same c.check_children.new.self c.check_children.ensures.walk;
      rest = reads_on s s' (g.R.Rows.sheet c.check_children.new.rows) c.enter.ensures.rest c.check_children.ensures.rest;
    }
