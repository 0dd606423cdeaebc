use Rattle.mt_splice.proofs.Prelude.{fold, ap, sym, ◌∙◌, arith, Width, Leaf, slots_of, with_joined, Rooted, same_tree}
use Rattle.mt_splice.proofs.LeafRegions.{leaf_row}
use Rattle.mt_splice.proofs.LeafAbove.{one_pushed, last_pushed, one_more_pushed, all_pushed_above, from_slot}
use Rattle.mt_splice.proofs.leaves.push_above.Goals as goal

pub load_item-item-requires-clause-first : goal.load_item-item-requires-clause-first
load_item-item-requires-clause-first g c = (leaf_row c.requires.leaf).0

pub load_item-item-requires-clause-last : goal.load_item-item-requires-clause-last
load_item-item-requires-clause-last g c = let below = (leaf_row c.requires.leaf).1 in let rows = ap (λ (t : Rooted). t.rows) (same_tree (g.R.Rows.sheet c.args.rows.now) (g.R.Rows.sheet c.loop-slot.rows) c.loop-slot.invariant.rest) in omega arith

pub returns-then-leaf-item-clause-items : goal.returns-then-leaf-item-clause-items
returns-then-leaf-item-clause-items g c =
    let slots = ap (λ (t : Rooted). slots_of t.table.width Leaf) (same_tree (g.R.Rows.sheet c.args.rows.now) (g.R.Rows.sheet c.loop-slot.rows) c.loop-slot.invariant.rest) ∙ sym (c.slots-slots.ensures ∙ ap (λ (w : Width). slots_of w Leaf) c.width.ensures) in
    let within = c.loop-slot-test.true in
    let one = one_pushed c.args.last c.loop-slot.run.items c.push_if_above.new.run.items c.load_item-item.result c.push_if_above.ensures.above c.push_if_above.ensures.below in
    last_pushed c.loop-slot.invariant c.load_item-item.ensures.rest c.load_item-item.ensures.item c.load_item-item.ensures.last (omega arith) one c.if-leaf-item.true ∙ ap (fold with_joined c.args.run.now.items) (from_slot c.requires.leaf)

pub loop-slot-preserved : goal.loop-slot-preserved
loop-slot-preserved g c =
    let slots = ap (λ (t : Rooted). slots_of t.table.width Leaf) (same_tree (g.R.Rows.sheet c.args.rows.now) (g.R.Rows.sheet c.loop-slot.rows) c.loop-slot.invariant.rest) ∙ sym (c.slots-slots.ensures ∙ ap (λ (w : Width). slots_of w Leaf) c.width.ensures) in
    let within = c.loop-slot-test.true in
    let one = one_pushed c.args.last c.loop-slot.run.items c.push_if_above.new.run.items c.load_item-item.result c.push_if_above.ensures.above c.push_if_above.ensures.below in
    one_more_pushed c.loop-slot.invariant c.load_item-item.ensures.rest c.load_item-item.ensures.item c.load_item-item.ensures.last (omega arith) one c.if-leaf-item.false c.push_if_above.ensures.count

pub returns-clause-items : goal.returns-clause-items
returns-clause-items g c =
    let slots = ap (λ (t : Rooted). slots_of t.table.width Leaf) (same_tree (g.R.Rows.sheet c.args.rows.now) (g.R.Rows.sheet c.loop-slot.rows) c.loop-slot.invariant.rest) ∙ sym (c.slots-slots.ensures ∙ ap (λ (w : Width). slots_of w Leaf) c.width.ensures) in
    let past = c.loop-slot-test.false in
    all_pushed_above c.loop-slot.invariant (omega arith) ∙ ap (fold with_joined c.args.run.now.items) (from_slot c.requires.leaf)
