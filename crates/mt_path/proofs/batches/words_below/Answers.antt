use Rattle.mt_path.proofs.Prelude.{◌≤◌, ◌+◌, ◌∙◌, ap, subst, sym, arith, slice_index, greatest, Rooted, reads_on, same_tree, IsLevel, word_on, length-set}
use Rattle.mt_path.proofs.Kept.{tree_over}
use Rattle.mt_path.proofs.SideBySide.{next_name, word_more}
use Rattle.mt_path.proofs.batches.words_below.Goals as goal

pub word_below-requires-clause-over : goal.word_below-requires-clause-over
word_below-requires-clause-over g c = tree_over (g.R.Rows.sheet c.args.rows.now) (g.R.Rows.sheet c.loop-i.rows) c.args.width c.loop-i.invariant.held.reads c.requires.over

pub word_below-requires-clause-index : goal.word_below-requires-clause-index
word_below-requires-clause-index g c =
    subst (λ (t : Rooted). slice_index c.args.indexes.now c.loop-i.i ≤ greatest t.table.width) (sym (same_tree (g.R.Rows.sheet c.args.rows.now) (g.R.Rows.sheet c.loop-i.rows) c.loop-i.invariant.held.reads)) (c.requires.indexes c.loop-i.i 0 (omega (arith, c.loop-i-test.true)))

pub word_below-requires-clause-level : goal.word_below-requires-clause-level
word_below-requires-clause-level g c = subst (λ (t : Rooted). IsLevel t c.args.depth c.args.kind) (sym (same_tree (g.R.Rows.sheet c.args.rows.now) (g.R.Rows.sheet c.loop-i.rows) c.loop-i.invariant.held.reads)) c.requires.level

pub word_below-requires-clause-name : goal.word_below-requires-clause-name
word_below-requires-clause-name g c =
    let s = g.R.Rows.sheet c.args.rows.now in
    next_name s.tree c.args.depth c.args.indexes.now c.args.words.now c.loop-i.words c.loop-i.i (omega (arith, c.loop-i-test.true)) c.requires.names c.loop-i.invariant.words
    ∙ ap (λ (t : Rooted). word_on t c.args.depth (slice_index c.args.indexes.now c.loop-i.i)) (sym (same_tree s (g.R.Rows.sheet c.loop-i.rows) c.loop-i.invariant.held.reads))

pub loop-i-preserved : goal.loop-i-preserved
loop-i-preserved g c =
    let s = g.R.Rows.sheet c.args.rows.now in
    let s' = g.R.Rows.sheet c.loop-i.rows in
    let word = c.word_below.ensures.word ∙ ap (λ (t : Rooted). word_on t (c.args.depth + 1) (slice_index c.args.indexes.now c.loop-i.i)) (same_tree s s' c.loop-i.invariant.held.reads) in
    record {
      held = record { reads = reads_on s s' (g.R.Rows.sheet c.word_below.new.rows) c.loop-i.invariant.held.reads c.word_below.ensures.rest; size = length-set _ _ _ ∙ c.loop-i.invariant.held.size };
      words = word_more s.tree c.args.depth c.args.indexes.now c.args.words.now c.loop-i.words c.loop-i.i (omega (arith, c.loop-i-test.true)) c.requires.names c.loop-i.invariant.words c.word_below.result word;
    }
