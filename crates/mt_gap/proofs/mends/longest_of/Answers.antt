use Rattle.mt_gap.proofs.Prelude.{◌≡◌, ◌++◌, [], ◌∷◌, ℕ, ◌^◌, ◌<◌, ◌≤◌, List, max, rules, sym, ap, ◌∙◌, subst, arith, AllByRecursion, Width, Leaf, Span, slots_of, hole_length, longest_in, one_read, Rooted, Child, child_in, word_in}
use Rattle.mt_gap.proofs.ChildLists.{spans, spans_are}
use Rattle.mt_gap.proofs.RowReads.{AtSlot, two_loads_of, tree_is, slot_on, slot_last, slot_part, read_all}
use Rattle.mt_gap.proofs.Asking.{LongestIs, longest_on, hole_fits, child_rises}
use Rattle.mt_gap.proofs.mends.longest_of.Given.{Over}
use Rattle.mt_gap.proofs.mends.longest_of.Goals.{After-load_last-last, After-load_word-word, After-max-longest}
use Rattle.mt_gap.proofs.mends.longest_of.Goals as goal

-- the slot whose hole is measured
at_slot : (g : Over) (c : After-load_last-last g) → AtSlot (g.R.Rows.sheet c.args.rows.now) (g.R.Rows.sheet c.loop-slot.rows) (g.R.Rows.sheet c.load_last-last.new.rows) Leaf c.args.row c.args.first c.args.max c.loop-slot.slot c.loop-slot.begin c.load_last-last.result c.loop-slot.invariant.before
at_slot g c = record { read = c.loop-slot.invariant.read; last_is = c.load_last-last.ensures.last; pivot = c.load_last-last.ensures.reads; within = omega (arith, c.slots-slot-end.ensures ∙ ap (λ (w : Width). slots_of w Leaf) c.width-width.ensures, c.loop-slot-test.true) }

word_is : (g : Over) (c : After-load_word-word g) (at : AtSlot (g.R.Rows.sheet c.args.rows.now) (g.R.Rows.sheet c.loop-slot.rows) (g.R.Rows.sheet c.load_last-last.new.rows) Leaf c.args.row c.args.first c.args.max c.loop-slot.slot c.loop-slot.begin c.load_last-last.result c.loop-slot.invariant.before)
    → c.load_word-word.result ≡ word_in (g.R.Rows.sheet c.args.rows.now).tree.table Leaf c.args.row c.loop-slot.slot
word_is g c at = c.load_word-word.ensures.word ∙ ap (λ (r : Rooted). word_in r.table Leaf c.args.row c.loop-slot.slot) (tree_is at)

-- the longest hole up to it
longest_yet : (g : Over) (c : After-max-longest g) (at : AtSlot (g.R.Rows.sheet c.args.rows.now) (g.R.Rows.sheet c.loop-slot.rows) (g.R.Rows.sheet c.load_last-last.new.rows) Leaf c.args.row c.args.first c.args.max c.loop-slot.slot c.loop-slot.begin c.load_last-last.result c.loop-slot.invariant.before)
    → c.load_word-word.result ≡ word_in (g.R.Rows.sheet c.args.rows.now).tree.table Leaf c.args.row c.loop-slot.slot
    → LongestIs c.max-longest.result (c.loop-slot.invariant.before ++ (child_in (g.R.Rows.sheet c.args.rows.now).tree.table Leaf c.args.row c.loop-slot.slot c.loop-slot.begin c.load_last-last.result ∷ []))
longest_yet g c at word =
    let done = c.loop-slot.invariant in
    let chosen : c.max-longest.result ≡ max c.loop-slot.longest c.hole_length.result = search rules in
    longest_on c.loop-slot.longest done.before done.holds (child_in (g.R.Rows.sheet c.args.rows.now).tree.table Leaf c.args.row c.loop-slot.slot c.loop-slot.begin c.load_last-last.result) c.max-longest.result
    (chosen ∙ (λ i. max c.loop-slot.longest ((c.hole_length.ensures ∙ ap (λ (k : ℕ). hole_length (record { first = c.loop-slot.begin; last = c.load_last-last.result; word = k })) word) i)))

pub hole_length-requires-clause-order : goal.hole_length-requires-clause-order
hole_length-requires-clause-order g c =
    let part = slot_part (at_slot g (goal.at.hole_length-requires-clause-order g c).After-load_last-last) in
    child_rises c.loop-slot.invariant.before part.0 _ (child_in (g.R.Rows.sheet c.args.rows.now).tree.table Leaf c.args.row c.loop-slot.slot c.loop-slot.begin c.load_last-last.result) part.1 (subst (AllByRecursion (λ (y : Span). y.first ≤ y.last)) (sym (spans_are c.args.first _)) c.requires.rise)

pub hole_length-requires-clause-fits : goal.hole_length-requires-clause-fits
hole_length-requires-clause-fits g c =
    let at = goal.at.hole_length-requires-clause-fits g c in
    let here = at_slot g at.After-load_last-last in
    subst (λ (k : ℕ). hole_length (record { first = c.loop-slot.begin; last = c.load_last-last.result; word = k }) < 2 ^ 64) (sym (word_is g at.After-load_word-word here))
    (hole_fits c.loop-slot.invariant.before (slot_part here).0 _ (child_in (g.R.Rows.sheet c.args.rows.now).tree.table Leaf c.args.row c.loop-slot.slot c.loop-slot.begin c.load_last-last.result) (slot_part here).1 (subst (λ (l : List Span). longest_in l < 2 ^ 64) (sym (spans_are c.args.first _)) c.requires.fits))

pub returns-then-max-last-clause-longest : goal.returns-then-max-last-clause-longest
returns-then-max-last-clause-longest g c =
    let at = goal.at.returns-then-max-last-clause-longest g c in
    let here = at_slot g at.After-load_last-last in
    longest_yet g at.After-max-longest here (word_is g at.After-load_word-word here)
    ∙ (ap (λ (l : List Child). longest_in (spans l)) (slot_last here c.if-max-last.true) ∙ ap longest_in (spans_are c.args.first _))

pub loop-slot-preserved : goal.loop-slot-preserved
loop-slot-preserved g c =
    let at = goal.at.loop-slot-preserved g c in let here = at_slot g at.After-load_last-last in
    slot_on here 1 (g.R.Rows.sheet c.load_word-word.new.rows) (two_loads_of Leaf) (one_read (g.R.Rows.sheet c.load_last-last.new.rows) (g.R.Rows.sheet c.load_word-word.new.rows) c.load_word-word.ensures.rest) (LongestIs c.max-longest.result) c.if-max-last.false (longest_yet g at.After-max-longest here (word_is g at.After-load_word-word here))

pub returns-clause-longest : goal.returns-clause-longest
returns-clause-longest g c =
    let done = c.loop-slot.invariant in
    let at_end : c.loop-slot.slot ≡ slots_of (g.R.Rows.sheet c.args.rows.now).tree.table.width Leaf = omega (arith, c.slots-slot-end.ensures ∙ ap (λ (w : Width). slots_of w Leaf) c.width-width.ensures, c.loop-slot-test.false, c.loop-slot.auto.slot-end) in
    done.holds ∙ (ap (λ (l : List Child). longest_in (spans l)) (read_all (g.R.Rows.sheet c.args.rows.now) (g.R.Rows.sheet c.loop-slot.rows) Leaf c.args.row c.args.first c.args.max c.loop-slot.slot c.loop-slot.begin done.before done.read at_end).0 ∙ ap longest_in (spans_are c.args.first _))
