use Rattle.mt_gap.proofs.Prelude.{◌≡◌, ◌++◌, [], ◌∷◌, ℕ, ap, ◌∙◌, arith, Width, kept, highest_in, slots_of, one_read, Rooted, leaf_hole, child_in, word_in}
use Rattle.mt_gap.proofs.RowReads.{AtSlot, two_loads_of, tree_is, slot_on, slot_last, read_all}
use Rattle.mt_gap.proofs.Asking.{HighIs, high_on, high_of_all}
use Rattle.mt_gap.proofs.windows.highest_of.Given.{Over}
use Rattle.mt_gap.proofs.windows.highest_of.Goals.{After-load_last-last, After-or-found}
use Rattle.mt_gap.proofs.windows.highest_of.Goals as goal

-- the slot whose room is sought
at_slot : (g : Over) (c : After-load_last-last g) → AtSlot (g.R.Rows.sheet c.args.rows.now) (g.R.Rows.sheet c.loop-slot.rows) (g.R.Rows.sheet c.load_last-last.new.rows) c.args.kind c.args.row c.args.first c.args.max c.loop-slot.slot c.loop-slot.begin c.load_last-last.result c.loop-slot.invariant.before
at_slot g c = record { read = c.loop-slot.invariant.read; last_is = c.load_last-last.ensures.last; pivot = c.load_last-last.ensures.reads; within = omega (arith, c.slots-slot-end.ensures ∙ ap (λ (w : Width). slots_of w c.args.kind) c.width-width.ensures, c.loop-slot-test.true) }

-- the highest place up to it
high_yet : (g : Over) (c : After-or-found g) (at : AtSlot (g.R.Rows.sheet c.args.rows.now) (g.R.Rows.sheet c.loop-slot.rows) (g.R.Rows.sheet c.load_last-last.new.rows) c.args.kind c.args.row c.args.first c.args.max c.loop-slot.slot c.loop-slot.begin c.load_last-last.result c.loop-slot.invariant.before)
    → HighIs c.args.window.size c.args.window.lo c.args.window.hi c.or-found.result (c.loop-slot.invariant.before ++ (child_in (g.R.Rows.sheet c.args.rows.now).tree.table c.args.kind c.args.row c.loop-slot.slot c.loop-slot.begin c.load_last-last.result ∷ []))
high_yet g c at =
    let w = c.args.window in
    let done = c.loop-slot.invariant in
    let word = c.load_word-word.ensures.word ∙ ap (λ (r : Rooted). word_in r.table c.args.kind c.args.row c.loop-slot.slot) (tree_is at) in
    let place = c.high_place.ensures.place ∙ ap (λ (k : ℕ). highest_in w.size (kept w.size w.lo w.hi (leaf_hole (record { first = c.loop-slot.begin; last = c.load_last-last.result; word = k })))) word in
    high_on w.size w.lo w.hi c.loop-slot.found done.before done.holds (child_in (g.R.Rows.sheet c.args.rows.now).tree.table c.args.kind c.args.row c.loop-slot.slot c.loop-slot.begin c.load_last-last.result) c.high_place.result c.or-found.result place c.or-found.ensures

pub returns-then-max-last-clause-place : goal.returns-then-max-last-clause-place
returns-then-max-last-clause-place g c =
    let w = c.args.window in
    let at = goal.at.returns-then-max-last-clause-place g c in
    let here = at_slot g at.After-load_last-last in
    high_of_all w.size w.lo w.hi c.or-found.result _ _ (high_yet g at.After-or-found here) (slot_last here c.if-max-last.true)

pub loop-slot-preserved : goal.loop-slot-preserved
loop-slot-preserved g c =
    let w = c.args.window in let at = goal.at.loop-slot-preserved g c in
    let here = at_slot g at.After-load_last-last in
    slot_on here 1 (g.R.Rows.sheet c.load_word-word.new.rows) (two_loads_of c.args.kind) (one_read (g.R.Rows.sheet c.load_last-last.new.rows) (g.R.Rows.sheet c.load_word-word.new.rows) c.load_word-word.ensures.rest) (HighIs w.size w.lo w.hi c.or-found.result) c.if-max-last.false (high_yet g at.After-or-found here)

pub returns-clause-place : goal.returns-clause-place
returns-clause-place g c =
    let w = c.args.window in let done = c.loop-slot.invariant in
    let at_end : c.loop-slot.slot ≡ slots_of (g.R.Rows.sheet c.args.rows.now).tree.table.width c.args.kind = omega (arith, c.slots-slot-end.ensures ∙ ap (λ (w : Width). slots_of w c.args.kind) c.width-width.ensures, c.loop-slot-test.false, c.loop-slot.auto.slot-end) in
    high_of_all w.size w.lo w.hi c.loop-slot.found done.before _ done.holds (read_all (g.R.Rows.sheet c.args.rows.now) (g.R.Rows.sheet c.loop-slot.rows) c.args.kind c.args.row c.args.first c.args.max c.loop-slot.slot c.loop-slot.begin done.before done.read at_end).0
