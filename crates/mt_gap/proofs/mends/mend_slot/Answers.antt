use Rattle.mt_gap.proofs.Prelude.{◌<◌, sym, ap, subst, columns, Gapped, gap_column, slots_of, tree_kept, Rooted}
use Rattle.mt_gap.proofs.Tells.{may_tend, is_mended}
use Rattle.mt_gap.proofs.mends.mend_slot.Goals as goal

pub tend_gap-requires-clause-slot : goal.tend_gap-requires-clause-slot
tend_gap-requires-clause-slot g c =
    let s = g.R.Rows.sheet c.args.rows.now in
    let s' = g.R.Rows.sheet c.told_by-gap.new.rows in
    subst (λ (t : Rooted). c.args.above.slot < slots_of t.table.width Gapped) (sym (tree_kept (columns s.tree.table.width) s s' c.told_by-gap.ensures.reads)) c.requires.slot

pub tend_gap-requires-clause-tend : goal.tend_gap-requires-clause-tend
tend_gap-requires-clause-tend g c =
    let s = g.R.Rows.sheet c.args.rows.now in
    let s' = g.R.Rows.sheet c.told_by-gap.new.rows in
    let n = columns s.tree.table.width in
    may_tend s s' c.args.kind c.args.above c.args.below n c.told_by-gap.result _ c.requires c.told_by-gap.ensures.reads
    (ap (λ (t : Rooted). gap_column (slots_of t.table.width Gapped) c.args.above.slot) (tree_kept n s s' c.told_by-gap.ensures.reads))

pub returns : goal.returns
returns g c =
    let s = g.R.Rows.sheet c.args.rows.now in
    let s' = g.R.Rows.sheet c.told_by-gap.new.rows in
    let n = columns s.tree.table.width in
    is_mended s s' (g.R.Rows.sheet c.tend_gap.new.rows) c.args.kind c.args.above c.args.below n c.told_by-gap.result _ c.told_by-gap.ensures.reads c.told_by-gap.ensures.told
    (ap (λ (t : Rooted). gap_column (slots_of t.table.width Gapped) c.args.above.slot) (tree_kept n s s' c.told_by-gap.ensures.reads))
    c.tend_gap.ensures
