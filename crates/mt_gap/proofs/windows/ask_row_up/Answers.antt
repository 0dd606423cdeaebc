use Rattle.mt_gap.proofs.Prelude.{◌≡◌, ◌≤◌, ◌++◌, [], ◌∷◌, length, sym, ap, ◌∙◌, subst, arith, Width, Gapped, slots_of, Rooted, child_in, next_up, narrow_up}
use Rattle.mt_gap.proofs.RowReads.{AtSlot, tree_is, slot_on, slot_last, slot_part, read_all}
use Rattle.mt_gap.proofs.Asking.{HasAskedUp, up_room, up_on}
use Rattle.mt_gap.proofs.windows.ask_row_up.Given.{Over}
use Rattle.mt_gap.proofs.windows.ask_row_up.Goals.{After-load_last-last, After-ask_slot_up}
use Rattle.mt_gap.proofs.windows.ask_row_up.Goals as goal

-- the slot that is asked, from the right
at_slot : (g : Over) (c : After-load_last-last g) → AtSlot (g.R.Rows.sheet c.args.rows.now) (g.R.Rows.sheet c.loop-slot.rows) (g.R.Rows.sheet c.load_last-last.new.rows) Gapped c.args.row c.args.first c.args.max c.loop-slot.slot c.loop-slot.begin c.load_last-last.result c.loop-slot.invariant.before
at_slot g c = record { read = c.loop-slot.invariant.read; last_is = c.load_last-last.ensures.last; pivot = c.load_last-last.ensures.reads; within = omega (arith, c.slots-slot-end.ensures ∙ ap (λ (w : Width). slots_of w Gapped) c.width-width.ensures, c.loop-slot-test.true) }

-- those up to it are asked
goes_on : (g : Over) (c : After-ask_slot_up g) (at : AtSlot (g.R.Rows.sheet c.args.rows.now) (g.R.Rows.sheet c.loop-slot.rows) (g.R.Rows.sheet c.load_last-last.new.rows) Gapped c.args.row c.args.first c.args.max c.loop-slot.slot c.loop-slot.begin c.load_last-last.result c.loop-slot.invariant.before)
    → let w = c.args.window in c.ask_slot_up.new.asked.items ≡ narrow_up w.size w.lo w.hi c.args.asked.now.items (c.loop-slot.invariant.before ++ (child_in (g.R.Rows.sheet c.args.rows.now).tree.table Gapped c.args.row c.loop-slot.slot c.loop-slot.begin c.load_last-last.result ∷ []))
goes_on g c at =
    let w = c.args.window in
    let done = c.loop-slot.invariant in
    let items = c.ask_slot_up.ensures.items ∙ ap (λ (r : Rooted). next_up w.size w.lo w.hi c.loop-slot.asked.items (child_in r.table Gapped c.args.row c.loop-slot.slot c.loop-slot.begin c.load_last-last.result)) (tree_is at) in
    up_on w.size w.lo w.hi c.args.asked.now.items c.loop-slot.asked.items done.before done.holds (child_in (g.R.Rows.sheet c.args.rows.now).tree.table Gapped c.args.row c.loop-slot.slot c.loop-slot.begin c.load_last-last.result) c.ask_slot_up.new.asked.items items

pub ask_slot_up-requires-clause-room : goal.ask_slot_up-requires-clause-room
ask_slot_up-requires-clause-room g c =
    let w = c.args.window in
    let done = c.loop-slot.invariant in
    let at = at_slot g (goal.at.ask_slot_up-requires-clause-room g c).After-load_last-last in
    subst (λ (r : Rooted). length (next_up w.size w.lo w.hi c.loop-slot.asked.items (child_in r.table Gapped c.args.row c.loop-slot.slot c.loop-slot.begin c.load_last-last.result)) ≤ 3) (sym (tree_is at))
    (up_room w.size w.lo w.hi c.args.asked.now.items c.loop-slot.asked.items done.before (slot_part at).0 _ done.holds (child_in (g.R.Rows.sheet c.args.rows.now).tree.table Gapped c.args.row c.loop-slot.slot c.loop-slot.begin c.load_last-last.result) (slot_part at).1 c.requires.room)

pub returns-then-max-last-clause-items : goal.returns-then-max-last-clause-items
returns-then-max-last-clause-items g c =
    let w = c.args.window in
    let at = goal.at.returns-then-max-last-clause-items g c in
    let here = at_slot g at.After-load_last-last in
    goes_on g at.After-ask_slot_up here ∙ ap (narrow_up w.size w.lo w.hi c.args.asked.now.items) (slot_last here c.if-max-last.true)

pub loop-slot-preserved : goal.loop-slot-preserved
loop-slot-preserved g c =
    let w = c.args.window in let at = goal.at.loop-slot-preserved g c in
    let here = at_slot g at.After-load_last-last in
    slot_on here 2 (g.R.Rows.sheet c.ask_slot_up.new.rows) (omega arith) c.ask_slot_up.ensures.reads (HasAskedUp w.size w.lo w.hi c.args.asked.now.items c.ask_slot_up.new.asked.items) c.if-max-last.false (goes_on g at.After-ask_slot_up here)

pub returns-clause-items : goal.returns-clause-items
returns-clause-items g c =
    let w = c.args.window in let done = c.loop-slot.invariant in
    let at_end : c.loop-slot.slot ≡ slots_of (g.R.Rows.sheet c.args.rows.now).tree.table.width Gapped = omega (arith, c.slots-slot-end.ensures ∙ ap (λ (w : Width). slots_of w Gapped) c.width-width.ensures, c.loop-slot-test.false, c.loop-slot.auto.slot-end) in
    done.holds ∙ ap (narrow_up w.size w.lo w.hi c.args.asked.now.items) (read_all (g.R.Rows.sheet c.args.rows.now) (g.R.Rows.sheet c.loop-slot.rows) Gapped c.args.row c.args.first c.args.max c.loop-slot.slot c.loop-slot.begin done.before done.read at_end).0
