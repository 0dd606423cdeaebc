use Rattle.mt_engine.proofs.Prelude.{ℕ, ◌+◌, ◌^◌, ◌<◌, ap, ◌∙◌, arith, Width, Leaf, slots_of, few_slots_of, slot_fits}
use Rattle.mt_engine.proofs.stores.place_of.Goals as goal

column_fits : (width : Width) (slot : ℕ) → slot < slots_of width Leaf → slots_of width Leaf + slot < 2 ^ 32
column_fits width slot low = omega (arith, few_slots_of width Leaf)

pub overflow_add-result : goal.overflow_add-result
overflow_add-result g c =
    let t = (g.R.Rows.sheet c.args.rows.now).tree in
    let fits = column_fits t.table.width c.args.at.now.leaf.slot (slot_fits t c.requires.tree.0 c.requires.tree.1 c.args.at.now c.requires.at) in
    let slots = c.slots.ensures ∙ ap (λ (w : Width). slots_of w Leaf) c.width.ensures in
    omega (arith, fits, slots)
