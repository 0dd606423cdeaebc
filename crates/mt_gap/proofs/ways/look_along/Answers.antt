use Rattle.mt_gap.proofs.Prelude.{◌≡◌, ◌++◌, [], ◌∷◌, false, refl, ap, ◌∙◌, arith, Width, Gapped, slots_of, Rooted, child_in, ends_with, with_child}
use Rattle.mt_gap.specs.declared.ways.Below.TheVariants as below_row
use Rattle.mt_gap.proofs.RowReads.{AtSlot, read_none, tree_is, slot_on, slot_last, slot_part, read_all}
use Rattle.mt_gap.proofs.OneWay.{HasLooked, looked_none, looked_on, looked_stops, looked_all}
use Rattle.mt_gap.proofs.ways.look_along.Given.{Over}
use Rattle.mt_gap.proofs.ways.look_along.Goals.{After-load_last-last, After-take_slot}
use Rattle.mt_gap.proofs.ways.look_along.Goals as goal

-- the slot that is taken
at_slot : (g : Over) (c : After-load_last-last g) → AtSlot (g.R.Rows.sheet c.args.rows.now) (g.R.Rows.sheet c.loop-slot.rows) (g.R.Rows.sheet c.load_last-last.new.rows) Gapped c.args.row c.args.first c.args.max c.loop-slot.slot c.loop-slot.begin c.load_last-last.result c.loop-slot.invariant.before
at_slot g c = record { read = c.loop-slot.invariant.read; last_is = c.load_last-last.ensures.last; pivot = c.load_last-last.ensures.reads; within = omega (arith, c.slots-slot-end.ensures ∙ ap (λ (w : Width). slots_of w Gapped) c.width-width.ensures, c.loop-slot-test.true) }

pub loop-slot-init : goal.loop-slot-init
loop-slot-init g c = read_none (HasLooked c.args.side c.args.window below_row.Nothing) (g.R.Rows.sheet c.args.rows.now) (g.R.Rows.sheet c.args.rows.now) Gapped c.args.row c.args.first c.args.max refl (looked_none c.args.side c.args.window)

module _ (g : Over) (c : After-take_slot g) (at : AtSlot (g.R.Rows.sheet c.args.rows.now) (g.R.Rows.sheet c.loop-slot.rows) (g.R.Rows.sheet c.load_last-last.new.rows) Gapped c.args.row c.args.first c.args.max c.loop-slot.slot c.loop-slot.begin c.load_last-last.result c.loop-slot.invariant.before) where
  -- what is gone into with it
  below : c.take_slot.new.below ≡ with_child c.args.side c.args.window c.loop-slot.slot (child_in (g.R.Rows.sheet c.args.rows.now).tree.table Gapped c.args.row c.loop-slot.slot c.loop-slot.begin c.load_last-last.result) c.loop-slot.below
  below = c.take_slot.ensures.below ∙ ap (λ (r : Rooted). with_child c.args.side c.args.window c.loop-slot.slot (child_in r.table Gapped c.args.row c.loop-slot.slot c.loop-slot.begin c.load_last-last.result) c.loop-slot.below) (tree_is at)

  -- whether the search ends with it
  found : c.take_slot.result ≡ ends_with c.args.side c.args.window (child_in (g.R.Rows.sheet c.args.rows.now).tree.table Gapped c.args.row c.loop-slot.slot c.loop-slot.begin c.load_last-last.result)
  found = c.take_slot.ensures.ends ∙ ap (λ (r : Rooted). ends_with c.args.side c.args.window (child_in r.table Gapped c.args.row c.loop-slot.slot c.loop-slot.begin c.load_last-last.result)) (tree_is at)

  goes_on : c.take_slot.result ≡ false → HasLooked c.args.side c.args.window c.take_slot.new.below (c.loop-slot.invariant.before ++ (child_in (g.R.Rows.sheet c.args.rows.now).tree.table Gapped c.args.row c.loop-slot.slot c.loop-slot.begin c.load_last-last.result ∷ []))
  goes_on not =
      let done = c.loop-slot.invariant in
      looked_on c.args.side c.args.window c.loop-slot.below done.before done.holds (child_in (g.R.Rows.sheet c.args.rows.now).tree.table Gapped c.args.row c.loop-slot.slot c.loop-slot.begin c.load_last-last.result) c.loop-slot.slot done.read.count c.take_slot.new.below below c.take_slot.result found not

pub returns-then-take_slot-clause-below : goal.returns-then-take_slot-clause-below
returns-then-take_slot-clause-below g c =
    let done = c.loop-slot.invariant in
    let at = goal.at.returns-then-take_slot-clause-below g c in
    let here = at_slot g at.After-load_last-last in
    let part = slot_part here in
    looked_stops c.args.side c.args.window c.loop-slot.below done.before done.holds (child_in (g.R.Rows.sheet c.args.rows.now).tree.table Gapped c.args.row c.loop-slot.slot c.loop-slot.begin c.load_last-last.result) c.loop-slot.slot done.read.count c.take_slot.new.below (below g at.After-take_slot here) c.take_slot.result (found g at.After-take_slot here) part.0 _ part.1 c.if-take_slot.true

pub returns-then-max-last-clause-below : goal.returns-then-max-last-clause-below
returns-then-max-last-clause-below g c =
    let at = goal.at.returns-then-max-last-clause-below g c in
    let here = at_slot g at.After-load_last-last in
    looked_all c.args.side c.args.window c.take_slot.new.below _ _ (goes_on g at.After-take_slot here c.if-take_slot.false) (slot_last here c.if-max-last.true)

pub loop-slot-preserved : goal.loop-slot-preserved
loop-slot-preserved g c =
    let at = goal.at.loop-slot-preserved g c in
    let here = at_slot g at.After-load_last-last in
    slot_on here 2 (g.R.Rows.sheet c.take_slot.new.rows) (omega arith) c.take_slot.ensures.reads (HasLooked c.args.side c.args.window c.take_slot.new.below) c.if-max-last.false (goes_on g at.After-take_slot here c.if-take_slot.false)

pub returns-clause-below : goal.returns-clause-below
returns-clause-below g c =
    let done = c.loop-slot.invariant in
    let at_end : c.loop-slot.slot ≡ slots_of (g.R.Rows.sheet c.args.rows.now).tree.table.width Gapped = omega (arith, c.slots-slot-end.ensures ∙ ap (λ (w : Width). slots_of w Gapped) c.width-width.ensures, c.loop-slot-test.false, c.loop-slot.auto.slot-end) in
    looked_all c.args.side c.args.window c.loop-slot.below done.before _ done.holds (read_all (g.R.Rows.sheet c.args.rows.now) (g.R.Rows.sheet c.loop-slot.rows) Gapped c.args.row c.args.first c.args.max c.loop-slot.slot c.loop-slot.begin done.before done.read at_end).0
