use Rattle.mt_path.proofs.Prelude.{◌≤◌, ◌-◌, List, subst, sym, arith, greatest, PathStep, step_at}
use Rattle.mt_path.proofs.Bounds.{inside}
use Rattle.mt_path.proofs.neighbours.step_left.Goals as goal

pub walk_on-requires-clause-index : goal.walk_on-requires-clause-index
walk_on-requires-clause-index g c =
    let t = (g.R.Rows.sheet c.args.rows.now).tree in
    let path = c.requires.path in
    let ends = inside t c.requires.tree.0 path.0 c.args.level c.args.path.now.items c.requires.tree.1 path.1 path.2 c.requires.level in
    subst (λ (l : List PathStep). (step_at l c.args.level).min - 1 ≤ greatest t.table.width) (sym c.deref.ensures.0) (let min = ends.min in omega arith)
