use Rattle.mt_splice.proofs.Prelude.{length, sym, ap, ◌∙◌, arith, Leaf, slots_of, spans_from, PathStep, Rooted, same_tree}
use Rattle.mt_splice.proofs.LeafRegions.{left_leaf_step, right_leaf_step, right_some, leaf_read, room_below, some_with_joined, leaves_edited}
use Rattle.mt_splice.proofs.leaves.push_edited.Goals as goal

pub leaf_of-right-requires : goal.leaf_of-right-requires
leaf_of-right-requires g c = right_some c.requires.ends.1 c.requires.some

pub push_below-requires-clause-leaf : goal.push_below-requires-clause-leaf
push_below-requires-clause-leaf g c = left_leaf_step c.requires.ends.1 c.requires.some c.leaf_of-left.ensures

pub push_joined-requires : goal.push_joined-requires
push_joined-requires g c = let room = room_below (left_leaf_step c.requires.ends.1 c.requires.some c.leaf_of-left.ensures) c.push_below.ensures.items in omega arith

pub overflow_sub-at : goal.overflow_sub-at
overflow_sub-at g c =
    let some = some_with_joined c.push_below.new.run.items (record { last = c.args.edit.now.last; word = c.args.edit.now.entry; gap = 0 }) in
    let same = ap length c.push_joined.ensures.items in let count = c.len-at.ensures.value in
    omega arith

pub push_above-requires-clause-leaf : goal.push_above-requires-clause-leaf
push_above-requires-clause-leaf g c = leaf_read (right_leaf_step c.requires.ends.1 c.requires.some c.leaf_of-right.ensures) (same_tree (g.R.Rows.sheet c.args.rows.now) (g.R.Rows.sheet c.push_below.new.rows) c.push_below.ensures.rest)

pub push_above-requires-clause-room : goal.push_above-requires-clause-room
push_above-requires-clause-room g c =
    let room = room_below (left_leaf_step c.requires.ends.1 c.requires.some c.leaf_of-left.ensures) c.push_below.ensures.items in
    let slots = ap (λ (t : Rooted). slots_of t.table.width Leaf) (same_tree (g.R.Rows.sheet c.args.rows.now) (g.R.Rows.sheet c.push_below.new.rows) c.push_below.ensures.rest) in
    let count = c.push_joined.ensures.count in
    omega arith

pub returns-clause-run : goal.returns-clause-run
returns-clause-run g c =
    ap (λ (z : PathStep). spans_from z.min c.push_above.new.run.items) (sym c.leaf_of-left.ensures)
    ∙ leaves_edited c.requires.ends.1 c.requires.some c.args.edit.now.entry c.leaf_of-left.ensures c.leaf_of-right.ensures c.push_below.ensures.items c.push_joined.ensures.items
    (same_tree (g.R.Rows.sheet c.args.rows.now) (g.R.Rows.sheet c.push_below.new.rows) c.push_below.ensures.rest) c.push_above.ensures.items
