use Rattle.mt_path.proofs.Prelude.{◌≤◌, List, ap, ◌∙◌, subst, sym, arith, greatest_fits, greatest, PathStep, step_at}
use Rattle.mt_path.proofs.Bounds.{inside}
use Rattle.mt_path.proofs.neighbours.step_right.Goals as goal

pub overflow_add-end : goal.overflow_add-end
overflow_add-end g c =
    let t = (g.R.Rows.sheet c.args.rows.now).tree in
    let path = c.requires.path in
    let ends = inside t c.requires.tree.0 path.0 c.args.level c.args.path.now.items c.requires.tree.1 path.1 path.2 c.requires.level in
    let end = subst (λ (l : List PathStep). (step_at l c.args.level).max ≤ greatest t.table.width) (sym c.deref.ensures.0) ends.max in
    let top = c.top.ensures ∙ ap greatest c.width.ensures in
    omega (arith, end, top, c.if-end-top.false, greatest_fits t.table.width)

pub walk_on-requires-clause-index : goal.walk_on-requires-clause-index
walk_on-requires-clause-index g c =
    let t = (g.R.Rows.sheet c.args.rows.now).tree in
    let path = c.requires.path in
    let ends = inside t c.requires.tree.0 path.0 c.args.level c.args.path.now.items c.requires.tree.1 path.1 path.2 c.requires.level in
    let end = subst (λ (l : List PathStep). (step_at l c.args.level).max ≤ greatest t.table.width) (sym c.deref.ensures.0) ends.max in
    let top = c.top.ensures ∙ ap greatest c.width.ensures in
    omega (arith, end, top, c.if-end-top.false)
