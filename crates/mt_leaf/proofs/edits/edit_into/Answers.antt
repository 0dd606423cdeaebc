use Rattle.mt_leaf.proofs.Prelude.{◌≡◌, [], drop, take, fold, length, length-drop, ◌-◌, arith, take_all, Item, slot_above, with_joined, items_below}
use Rattle.mt_leaf.proofs.EditSteps.{item_stored, pushed_edit, no_gaps-edit}
use Rattle.mt_leaf.proofs.edits.edit_into.Goals as goal

pub returns : goal.returns
returns c =
    let items = c.args.items.now in
    let made = c.push_joined_all.new.run.items in
    let slot = c.slot_above.result in
    let rest : take (length items - slot) (drop slot items) ≡ drop slot items = take_all (length items - slot) (drop slot items) (omega (arith, length-drop {A = Item})) in
    let is : made ≡ fold with_joined (with_joined (fold with_joined [] (items_below c.args.min items c.args.first)) (item_stored c.args.last c.args.entry)) (drop (slot_above items c.args.last) items) =
    cc (c.push_joined_all.ensures.items, c.push_joined.ensures.items, c.push_below.ensures.items, c.slot_above.ensures.slot, c.requires.empty) in
    record {
      spans = pushed_edit c.args.min c.args.first c.args.last c.args.entry items made c.requires.some c.requires.rise c.requires.from c.requires.order c.requires.to is;
      no_gaps = no_gaps-edit c.args.min c.args.first c.args.last c.args.entry items made is;
    }
