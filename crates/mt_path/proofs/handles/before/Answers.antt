use Rattle.mt_path.proofs.Prelude.{◌-◌, ap, ◌∙◌, arith, PathStep, Rooted, same_tree}
use Rattle.mt_path.proofs.HandleSteps.{handle_within, handle_before}
use Rattle.mt_path.proofs.LeafSteps.{here_in}
use Rattle.mt_path.proofs.handles.before.Goals as goal

pub handle_far-requires-clause-index : goal.handle_far-requires-clause-index
handle_far-requires-clause-index g c =
    let within = handle_within (g.R.Rows.sheet c.args.rows.now).tree c.requires.tree.0 c.requires.tree.1 c.args.here.now c.requires.here in
    let order = within.0 in let end = within.1 in
    omega arith

pub returns-clause-some : goal.returns-clause-some
returns-clause-some g c =
    let s = g.R.Rows.sheet c.args.rows.now in
    let leaf : PathStep = record c.args.here.now.leaf { slot = c.args.here.now.leaf.slot - 1 } in
    let same = same_tree s (g.R.Rows.sheet c.load_first-begin.new.rows) c.load_first-begin.ensures.reads.rest in
    handle_before s.tree c.requires.tree.0 c.requires.tree.1 c.args.here.now c.requires.here c.if-here-eq0.false c.load_first-begin.result c.load_word-word.result c.load_first-begin.ensures.first
    (c.load_word-word.ensures.word ∙ ap (λ (t : Rooted). (here_in t.table leaf).word) same)
