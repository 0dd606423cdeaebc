use Rattle.mt_path.proofs.Prelude.{ap, ◌∙◌, arith, greatest}
use Rattle.mt_path.proofs.HandleSteps.{one_behind}
use Rattle.mt_path.proofs.handles.behind.Goals as goal

pub overflow_add-last : goal.overflow_add-last
overflow_add-last g c =
    let t = (g.R.Rows.sheet c.args.rows.now).tree in
    let end = one_behind t c.requires.tree.0 c.requires.tree.1 c.args.here.now c.requires.here c.top.result (c.top.ensures ∙ ap greatest c.width.ensures) c.if-last-top.false in
    let fits = end.1 in
    omega arith

pub handle_far-requires-clause-index : goal.handle_far-requires-clause-index
handle_far-requires-clause-index g c =
    let t = (g.R.Rows.sheet c.args.rows.now).tree in
    let end = one_behind t c.requires.tree.0 c.requires.tree.1 c.args.here.now c.requires.here c.top.result (c.top.ensures ∙ ap greatest c.width.ensures) c.if-last-top.false in
    end.0
