use Rattle.mt_gap.proofs.Prelude.{◌≡◌, ◌++◌, [], ◌∷◌, ℕ, false, sym, ap, ◌∙◌, arith, Width, kept, lowest_in, slots_of, one_read, Rooted, leaf_hole, child_in, word_in}
use Rattle.mt_gap.proofs.RowReads.{AtSlot, two_loads_of, tree_is, slot_on, slot_last, slot_part, read_all}
use Rattle.mt_gap.proofs.Asking.{NoneLow, none_low_on, low_here, low_nowhere}
use Rattle.mt_gap.proofs.windows.lowest_of.Given.{Over}
use Rattle.mt_gap.proofs.windows.lowest_of.Goals.{After-load_last-last, After-is_some}
use Rattle.mt_gap.proofs.windows.lowest_of.Goals as goal

-- the slot whose room is sought
at_slot : (g : Over) (c : After-load_last-last g) → AtSlot (g.R.Rows.sheet c.args.rows.now) (g.R.Rows.sheet c.loop-slot.rows) (g.R.Rows.sheet c.load_last-last.new.rows) c.args.kind c.args.row c.args.first c.args.max c.loop-slot.slot c.loop-slot.begin c.load_last-last.result c.loop-slot.invariant.before
at_slot g c = record { read = c.loop-slot.invariant.read; last_is = c.load_last-last.ensures.last; pivot = c.load_last-last.ensures.reads; within = omega (arith, c.slots-slot-end.ensures ∙ ap (λ (w : Width). slots_of w c.args.kind) c.width-width.ensures, c.loop-slot-test.true) }

-- the place in what it holds
place_is : (g : Over) (c : After-is_some g) (at : AtSlot (g.R.Rows.sheet c.args.rows.now) (g.R.Rows.sheet c.loop-slot.rows) (g.R.Rows.sheet c.load_last-last.new.rows) c.args.kind c.args.row c.args.first c.args.max c.loop-slot.slot c.loop-slot.begin c.load_last-last.result c.loop-slot.invariant.before)
    → let w = c.args.window in c.low_place-place.result ≡ lowest_in (kept w.size w.lo w.hi (leaf_hole (child_in (g.R.Rows.sheet c.args.rows.now).tree.table c.args.kind c.args.row c.loop-slot.slot c.loop-slot.begin c.load_last-last.result).span))
place_is g c at =
    let w = c.args.window in
    let word = c.load_word-word.ensures.word ∙ ap (λ (r : Rooted). word_in r.table c.args.kind c.args.row c.loop-slot.slot) (tree_is at) in
    c.low_place-place.ensures.place ∙ ap (λ (k : ℕ). lowest_in (kept w.size w.lo w.hi (leaf_hole (record { first = c.loop-slot.begin; last = c.load_last-last.result; word = k })))) word

-- where there is none, there is none up to it
none_yet : (g : Over) (c : After-is_some g) (at : AtSlot (g.R.Rows.sheet c.args.rows.now) (g.R.Rows.sheet c.loop-slot.rows) (g.R.Rows.sheet c.load_last-last.new.rows) c.args.kind c.args.row c.args.first c.args.max c.loop-slot.slot c.loop-slot.begin c.load_last-last.result c.loop-slot.invariant.before)
    → c.is_some.result ≡ false → NoneLow c.args.window.size c.args.window.lo c.args.window.hi (c.loop-slot.invariant.before ++ (child_in (g.R.Rows.sheet c.args.rows.now).tree.table c.args.kind c.args.row c.loop-slot.slot c.loop-slot.begin c.load_last-last.result ∷ []))
none_yet g c at not = let w = c.args.window in let done = c.loop-slot.invariant in none_low_on w.size w.lo w.hi done.before done.holds (child_in (g.R.Rows.sheet c.args.rows.now).tree.table c.args.kind c.args.row c.loop-slot.slot c.loop-slot.begin c.load_last-last.result) c.low_place-place.result (place_is g c at) (sym c.is_some.ensures ∙ not)

pub returns-then-is_some-clause-place : goal.returns-then-is_some-clause-place
returns-then-is_some-clause-place g c =
    let w = c.args.window in
    let done = c.loop-slot.invariant in
    let at = goal.at.returns-then-is_some-clause-place g c in
    let here = at_slot g at.After-load_last-last in
    low_here w.size w.lo w.hi done.before (slot_part here).0 _ done.holds (child_in (g.R.Rows.sheet c.args.rows.now).tree.table c.args.kind c.args.row c.loop-slot.slot c.loop-slot.begin c.load_last-last.result) c.low_place-place.result (slot_part here).1 (place_is g at.After-is_some here) (sym c.is_some.ensures ∙ c.if-is_some.true)

pub returns-then-max-last-clause-place : goal.returns-then-max-last-clause-place
returns-then-max-last-clause-place g c =
    let w = c.args.window in let at = goal.at.returns-then-max-last-clause-place g c in
    let here = at_slot g at.After-load_last-last in
    low_nowhere w.size w.lo w.hi _ _ (none_yet g at.After-is_some here c.if-is_some.false) (slot_last here c.if-max-last.true)

pub loop-slot-preserved : goal.loop-slot-preserved
loop-slot-preserved g c =
    let w = c.args.window in
    let at = goal.at.loop-slot-preserved g c in
    let here = at_slot g at.After-load_last-last in
    slot_on here 1 (g.R.Rows.sheet c.load_word-word.new.rows) (two_loads_of c.args.kind) (one_read (g.R.Rows.sheet c.load_last-last.new.rows) (g.R.Rows.sheet c.load_word-word.new.rows) c.load_word-word.ensures.rest) (NoneLow w.size w.lo w.hi) c.if-max-last.false (none_yet g at.After-is_some here c.if-is_some.false)

pub returns-clause-place : goal.returns-clause-place
returns-clause-place g c =
    let w = c.args.window in let done = c.loop-slot.invariant in
    let at_end : c.loop-slot.slot ≡ slots_of (g.R.Rows.sheet c.args.rows.now).tree.table.width c.args.kind = omega (arith, c.slots-slot-end.ensures ∙ ap (λ (w : Width). slots_of w c.args.kind) c.width-width.ensures, c.loop-slot-test.false, c.loop-slot.auto.slot-end) in
    low_nowhere w.size w.lo w.hi done.before _ done.holds (read_all (g.R.Rows.sheet c.args.rows.now) (g.R.Rows.sheet c.loop-slot.rows) c.args.kind c.args.row c.args.first c.args.max c.loop-slot.slot c.loop-slot.begin done.before done.read at_end).0
