use Rattle.mt_path.proofs.Prelude.{◌+◌, ap, ◌∙◌, sym, subst, arith, Leaf, slots_of-room, Rooted, PathStep, IsStepOfLeaf, same_tree}
use Rattle.mt_path.proofs.HandleSteps.{inner_behind, slot_fits, step_behind, handle_behind}
use Rattle.mt_path.proofs.LeafSteps.{here_in}
use Rattle.mt_path.proofs.handles.next_in_leaf.Goals as goal

pub overflow_add-leaf : goal.overflow_add-leaf
overflow_add-leaf g c =
    let t = (g.R.Rows.sheet c.args.rows.now).tree in
    omega (arith, slot_fits t c.requires.tree.0 c.requires.tree.1 c.args.here.now c.requires.here, slots_of-room t.table.width Leaf)

pub overflow_add-result : goal.overflow_add-result
overflow_add-result g c =
    let t = (g.R.Rows.sheet c.args.rows.now).tree in
    let end = inner_behind t c.requires.tree.0 c.requires.tree.1 c.args.here.now c.requires.here c.requires.inner in
    let fits = end.1 in
    omega arith

pub load_last-end-requires-clause-leaf : goal.load_last-end-requires-clause-leaf
load_last-end-requires-clause-leaf g c = step_behind (g.R.Rows.sheet c.args.rows.now).tree c.requires.tree.0 c.requires.tree.1 c.args.here.now c.requires.here c.requires.inner

pub load_word-word-requires-clause-leaf : goal.load_word-word-requires-clause-leaf
load_word-word-requires-clause-leaf g c =
    let s = g.R.Rows.sheet c.args.rows.now in
    let leaf : PathStep = record c.args.here.now.leaf { slot = c.args.here.now.leaf.slot + 1 } in
    let same = same_tree s (g.R.Rows.sheet c.load_last-end.new.rows) c.load_last-end.ensures.reads.rest in
    subst (λ (t : Rooted). IsStepOfLeaf t leaf) (sym same) (step_behind s.tree c.requires.tree.0 c.requires.tree.1 c.args.here.now c.requires.here c.requires.inner)

pub returns-clause-handle : goal.returns-clause-handle
returns-clause-handle g c =
    let s = g.R.Rows.sheet c.args.rows.now in
    let leaf : PathStep = record c.args.here.now.leaf { slot = c.args.here.now.leaf.slot + 1 } in
    let same = same_tree s (g.R.Rows.sheet c.load_last-end.new.rows) c.load_last-end.ensures.reads.rest in
    handle_behind s.tree c.requires.tree.0 c.requires.tree.1 c.args.here.now c.requires.here c.requires.inner c.load_last-end.result c.load_word-word.result c.load_last-end.ensures.last
    (c.load_word-word.ensures.word ∙ ap (λ (t : Rooted). (here_in t.table leaf).word) same)
