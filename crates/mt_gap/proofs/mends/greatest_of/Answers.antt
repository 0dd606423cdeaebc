use Rattle.mt_gap.proofs.Prelude.{◌≡◌, ◌+◌, max, suc, refl, rules, sym, ap, ◌∙◌, arith, Width, columns, Gapped, slots_of, slots_of-columns, place_kept, tree_kept, no_reads, reads_more, reads_up, one_read, Rooted, most_gap, gap_in}
use Rattle.mt_gap.proofs.mends.greatest_of.Goals as goal

pub loop-slot-init : goal.loop-slot-init
loop-slot-init g c = (refl, no_reads (g.R.Rows.sheet c.args.rows.now))

pub load_gap-requires-clause-row : goal.load_gap-requires-clause-row
load_gap-requires-clause-row g c =
    place_kept (g.R.Rows.sheet c.args.rows.now) (g.R.Rows.sheet c.loop-slot.rows) c.args.row 0 c.loop-slot.invariant.1.rest c.requires.place

pub load_gap-requires-clause-slot : goal.load_gap-requires-clause-slot
load_gap-requires-clause-slot g c =
    let s = g.R.Rows.sheet c.args.rows.now in let t = g.R.Rows.sheet c.loop-slot.rows in
    let count = c.slots-slot-end.ensures ∙ ap (λ (v : Width). slots_of v Gapped) c.width-width.ensures in
    let same = ap (λ (r : Rooted). slots_of r.table.width Gapped) (tree_kept c.loop-slot.slot s t c.loop-slot.invariant.1) in
    let test = c.loop-slot-test.true in
    omega arith

pub loop-slot-preserved : goal.loop-slot-preserved
loop-slot-preserved g c =
    let s = g.R.Rows.sheet c.args.rows.now in let t = g.R.Rows.sheet c.loop-slot.rows in let u = g.R.Rows.sheet c.load_gap.new.rows in
    let greatest = c.loop-slot.invariant.0 in
    let gap = c.load_gap.ensures.gap ∙ ap (λ (r : Rooted). gap_in r.table Gapped c.args.row c.loop-slot.slot) (tree_kept c.loop-slot.slot s t c.loop-slot.invariant.1) in
    let chosen : c.max-greatest.result ≡ max c.loop-slot.greatest c.load_gap.result = search rules in
    let next : c.loop-slot.slot + 1 ≡ suc c.loop-slot.slot = omega arith in
    let more : c.max-greatest.result ≡ most_gap s.tree.table c.args.row (suc c.loop-slot.slot) = omega arith in
    (more ∙ ap (most_gap s.tree.table c.args.row) (sym next), reads_more c.loop-slot.slot 1 s t u c.loop-slot.invariant.1 (one_read t u c.load_gap.ensures.rest))

pub returns-clause-greatest : goal.returns-clause-greatest
returns-clause-greatest g c =
    let s = g.R.Rows.sheet c.args.rows.now in
    let count = c.slots-slot-end.ensures ∙ ap (λ (v : Width). slots_of v Gapped) c.width-width.ensures in
    let test = c.loop-slot-test.false in let most = c.loop-slot.auto.slot-end in
    let all : c.loop-slot.slot ≡ slots_of s.tree.table.width Gapped = omega arith in
    c.loop-slot.invariant.0 ∙ ap (most_gap s.tree.table c.args.row) all

pub returns-clause-reads : goal.returns-clause-reads
returns-clause-reads g c =
    let s = g.R.Rows.sheet c.args.rows.now in let t = g.R.Rows.sheet c.loop-slot.rows in
    let count = c.slots-slot-end.ensures ∙ ap (λ (v : Width). slots_of v Gapped) c.width-width.ensures in
    let test = c.loop-slot-test.false in let most = c.loop-slot.auto.slot-end in
    let few = slots_of-columns s.tree.table.width Gapped in
    reads_up c.loop-slot.slot (columns s.tree.table.width) s t (omega arith) c.loop-slot.invariant.1
