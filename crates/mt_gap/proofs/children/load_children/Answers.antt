use Rattle.mt_gap.proofs.Prelude.{◌≡◌, ◌++◌, List, [], ◌∷◌, ap, ◌∙◌, arith, Width, Gapped, slots_of, Rooted, Child, child_in}
use Rattle.mt_gap.proofs.RowReads.{AtSlot, tree_is, slot_on, slot_last}
use Rattle.mt_gap.proofs.children.load_children.Given.{Over}
use Rattle.mt_gap.proofs.children.load_children.Goals.{After-load_last-last, After-push}
use Rattle.mt_gap.proofs.children.load_children.Goals as goal

-- the slot whose child is loaded
at_slot : (g : Over) (c : After-load_last-last g) → AtSlot (g.R.Rows.sheet c.args.rows.now) (g.R.Rows.sheet c.loop-slot.rows) (g.R.Rows.sheet c.load_last-last.new.rows) Gapped c.args.row c.args.first c.args.max c.loop-slot.slot c.loop-slot.begin c.load_last-last.result c.loop-slot.invariant.before
at_slot g c = record { read = c.loop-slot.invariant.read; last_is = c.load_last-last.ensures.last; pivot = c.load_last-last.ensures.reads; within = omega (arith, c.slots-slot-end.ensures ∙ ap (λ (w : Width). slots_of w Gapped) c.width-width.ensures, c.loop-slot-test.true) }

-- with it the children up to the slot are there
children_are : (g : Over) (c : After-push g) (at : AtSlot (g.R.Rows.sheet c.args.rows.now) (g.R.Rows.sheet c.loop-slot.rows) (g.R.Rows.sheet c.load_last-last.new.rows) Gapped c.args.row c.args.first c.args.max c.loop-slot.slot c.loop-slot.begin c.load_last-last.result c.loop-slot.invariant.before)
    → c.push.new.self.items ≡ c.loop-slot.invariant.before ++ (child_in (g.R.Rows.sheet c.args.rows.now).tree.table Gapped c.args.row c.loop-slot.slot c.loop-slot.begin c.load_last-last.result ∷ [])
children_are g c at =
    let child = c.load_child-child.ensures.child ∙ ap (λ (r : Rooted). child_in r.table Gapped c.args.row c.loop-slot.slot c.loop-slot.begin c.load_last-last.result) (tree_is at) in
    c.push.ensures.items ∙ (λ i. c.loop-slot.invariant.holds i ++ (child i ∷ []))

pub returns-then-max-last-clause-items : goal.returns-then-max-last-clause-items
returns-then-max-last-clause-items g c =
    let at = goal.at.returns-then-max-last-clause-items g c in
    let here = at_slot g at.After-load_last-last in
    children_are g at.After-push here ∙ slot_last here c.if-max-last.true

pub loop-slot-preserved : goal.loop-slot-preserved
loop-slot-preserved g c =
    let at = goal.at.loop-slot-preserved g c in
    let here = at_slot g at.After-load_last-last in
    slot_on here 2 (g.R.Rows.sheet c.load_child-child.new.rows) (omega arith) c.load_child-child.ensures.reads (λ (before : List Child). c.push.new.self.items ≡ before) c.if-max-last.false (children_are g at.After-push here)
