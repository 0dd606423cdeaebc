use Rattle.mt_gap.proofs.Prelude.{◌≡◌, ◌+◌, ◌≤◌, ◌++◌, [], ◌∷◌, List, true, false, length, sym, ap, ◌∙◌, subst, arith, Width, Gapped, slots_of, Rooted, Child, row_children, child_in, narrow, has_sure}
use Rattle.mt_gap.proofs.RowReads.{AtSlot, tree_is, slot_on, slot_last, slot_part, read_all}
use Rattle.mt_gap.proofs.Asking.{HasAsked, ask_room, ask_on, ask_stops, asked_all}
use Rattle.mt_gap.proofs.windows.ask_row.Given.{Over}
use Rattle.mt_gap.proofs.windows.ask_row.Goals.{After-load_last-last, After-ask_slot, After-loop-slot}
use Rattle.mt_gap.proofs.windows.ask_row.Goals as goal

-- the slot that is asked
at_slot : (g : Over) (c : After-load_last-last g) → AtSlot (g.R.Rows.sheet c.args.rows.now) (g.R.Rows.sheet c.loop-slot.rows) (g.R.Rows.sheet c.load_last-last.new.rows) Gapped c.args.row c.args.first c.args.max c.loop-slot.slot c.loop-slot.begin c.load_last-last.result c.loop-slot.invariant.before
at_slot g c = record { read = c.loop-slot.invariant.read; last_is = c.load_last-last.ensures.last; pivot = c.load_last-last.ensures.reads; within = omega (arith, c.slots-slot-end.ensures ∙ ap (λ (w : Width). slots_of w Gapped) c.width-width.ensures, c.loop-slot-test.true) }

module _ (g : Over) (c : After-ask_slot g) (at : AtSlot (g.R.Rows.sheet c.args.rows.now) (g.R.Rows.sheet c.loop-slot.rows) (g.R.Rows.sheet c.load_last-last.new.rows) Gapped c.args.row c.args.first c.args.max c.loop-slot.slot c.loop-slot.begin c.load_last-last.result c.loop-slot.invariant.before) where
  abbrev all : List Child
  all = row_children (g.R.Rows.sheet c.args.rows.now).tree.table c.args.row Gapped c.args.first c.args.max

  abbrev x : Child
  x = child_in (g.R.Rows.sheet c.args.rows.now).tree.table Gapped c.args.row c.loop-slot.slot c.loop-slot.begin c.load_last-last.result

  -- what it adds to those that are asked, and whether it lies in the window
  items : let w = c.args.window in c.ask_slot.new.asked.items ≡ c.loop-slot.asked.items ++ narrow w.size w.lo w.hi (x ∷ [])
  items = let w = c.args.window in c.ask_slot.ensures.items ∙ ap (λ (r : Rooted). c.loop-slot.asked.items ++ narrow w.size w.lo w.hi (child_in r.table Gapped c.args.row c.loop-slot.slot c.loop-slot.begin c.load_last-last.result ∷ [])) (tree_is at)

  found : let w = c.args.window in c.ask_slot.result ≡ has_sure w.size w.lo w.hi (x ∷ [])
  found = let w = c.args.window in c.ask_slot.ensures.found ∙ ap (λ (r : Rooted). has_sure w.size w.lo w.hi (child_in r.table Gapped c.args.row c.loop-slot.slot c.loop-slot.begin c.load_last-last.result ∷ [])) (tree_is at)

  -- where it does, none behind it is asked
  stops : c.ask_slot.result ≡ true → let w = c.args.window in (c.ask_slot.new.asked.items ≡ c.args.asked.now.items ++ narrow w.size w.lo w.hi all) × (true ≡ has_sure w.size w.lo w.hi all)
  stops sure =
      let w = c.args.window in
      let done = c.loop-slot.invariant in
      let part = slot_part at in
      ask_stops w.size w.lo w.hi c.args.asked.now.items c.loop-slot.asked.items done.before done.holds x c.ask_slot.new.asked.items part.0 all c.ask_slot.result part.1 items found sure

  -- where it does not, those up to it are asked
  goes_on : c.ask_slot.result ≡ false → let w = c.args.window in HasAsked w.size w.lo w.hi c.args.asked.now.items c.ask_slot.new.asked.items (c.loop-slot.invariant.before ++ (x ∷ []))
  goes_on not =
      let w = c.args.window in
      let done = c.loop-slot.invariant in
      ask_on w.size w.lo w.hi c.args.asked.now.items c.loop-slot.asked.items done.before done.holds x c.ask_slot.new.asked.items c.ask_slot.result items found not

  all_asked : c.ask_slot.result ≡ false → c.args.max ≤ c.load_last-last.result → let w = c.args.window in (c.ask_slot.new.asked.items ≡ c.args.asked.now.items ++ narrow w.size w.lo w.hi all) × (false ≡ has_sure w.size w.lo w.hi all)
  all_asked not reaches = let w = c.args.window in asked_all w.size w.lo w.hi c.args.asked.now.items c.ask_slot.new.asked.items (c.loop-slot.invariant.before ++ (x ∷ [])) all (goes_on not) (slot_last at reaches)

-- where no slot is left, all were asked
none_left : (g : Over) (c : After-loop-slot g) → let w = c.args.window in let all = row_children (g.R.Rows.sheet c.args.rows.now).tree.table c.args.row Gapped c.args.first c.args.max in
    (c.loop-slot.asked.items ≡ c.args.asked.now.items ++ narrow w.size w.lo w.hi all) × (false ≡ has_sure w.size w.lo w.hi all)
none_left g c =
    let w = c.args.window in
    let done = c.loop-slot.invariant in
    let at_end : c.loop-slot.slot ≡ slots_of (g.R.Rows.sheet c.args.rows.now).tree.table.width Gapped = omega (arith, c.slots-slot-end.ensures ∙ ap (λ (w : Width). slots_of w Gapped) c.width-width.ensures, c.loop-slot-test.false, c.loop-slot.auto.slot-end) in
    asked_all w.size w.lo w.hi c.args.asked.now.items c.loop-slot.asked.items done.before _ done.holds (read_all (g.R.Rows.sheet c.args.rows.now) (g.R.Rows.sheet c.loop-slot.rows) Gapped c.args.row c.args.first c.args.max c.loop-slot.slot c.loop-slot.begin done.before done.read at_end).0

pub ask_slot-requires-clause-room : goal.ask_slot-requires-clause-room
ask_slot-requires-clause-room g c =
    let w = c.args.window in
    let done = c.loop-slot.invariant in
    let at = at_slot g (goal.at.ask_slot-requires-clause-room g c).After-load_last-last in
    let x = child_in (g.R.Rows.sheet c.args.rows.now).tree.table Gapped c.args.row c.loop-slot.slot c.loop-slot.begin c.load_last-last.result in
    subst (λ (r : Rooted). length c.loop-slot.asked.items + length (narrow w.size w.lo w.hi (child_in r.table Gapped c.args.row c.loop-slot.slot c.loop-slot.begin c.load_last-last.result ∷ [])) ≤ 3) (sym (tree_is at))
    (ask_room w.size w.lo w.hi c.args.asked.now.items c.loop-slot.asked.items done.before done.holds x (slot_part at).0 _ (slot_part at).1 c.requires.room)

pub returns-then-ask_slot-clause-items : goal.returns-then-ask_slot-clause-items
returns-then-ask_slot-clause-items g c = let at = goal.at.returns-then-ask_slot-clause-items g c in (stops g at.After-ask_slot (at_slot g at.After-load_last-last) c.if-ask_slot.true).0

pub returns-then-ask_slot-clause-found : goal.returns-then-ask_slot-clause-found
returns-then-ask_slot-clause-found g c = let at = goal.at.returns-then-ask_slot-clause-found g c in (stops g at.After-ask_slot (at_slot g at.After-load_last-last) c.if-ask_slot.true).1

pub returns-then-max-last-clause-items : goal.returns-then-max-last-clause-items
returns-then-max-last-clause-items g c =
    let at = goal.at.returns-then-max-last-clause-items g c in
    (all_asked g at.After-ask_slot (at_slot g at.After-load_last-last) c.if-ask_slot.false c.if-max-last.true).0

pub returns-then-max-last-clause-found : goal.returns-then-max-last-clause-found
returns-then-max-last-clause-found g c =
    let at = goal.at.returns-then-max-last-clause-found g c in
    (all_asked g at.After-ask_slot (at_slot g at.After-load_last-last) c.if-ask_slot.false c.if-max-last.true).1

pub loop-slot-preserved : goal.loop-slot-preserved
loop-slot-preserved g c =
    let w = c.args.window in
    let at = goal.at.loop-slot-preserved g c in
    let here = at_slot g at.After-load_last-last in
    slot_on here 2 (g.R.Rows.sheet c.ask_slot.new.rows) (omega arith) c.ask_slot.ensures.reads (HasAsked w.size w.lo w.hi c.args.asked.now.items c.ask_slot.new.asked.items) c.if-max-last.false (goes_on g at.After-ask_slot here c.if-ask_slot.false)

pub returns-clause-items : goal.returns-clause-items
returns-clause-items g c = (none_left g (goal.at.returns-clause-items g c).After-loop-slot).0

pub returns-clause-found : goal.returns-clause-found
returns-clause-found g c = (none_left g (goal.at.returns-clause-found g c).After-loop-slot).1
