use Rattle.mt_path.proofs.Prelude.{ap, ◌∙◌, greatest, row_for}
use Rattle.mt_path.proofs.Ways.{no_row, begins_if}
use Rattle.mt_path.proofs.rows.root_row.Goals as goal

pub returns-clause-none : goal.returns-clause-none
returns-clause-none g c =
    let t = (g.R.Rows.sheet c.args.rows.now).tree in
    let top = c.top-last.ensures ∙ ap greatest c.width.ensures in
    no_row t c.requires.tree.0 c.requires.tree.1 c.row_for.result (c.row_for.ensures ∙ (λ i. row_for (record { first = 0; last = top i; word = c.root.ensures.word i })))

pub returns-clause-some : goal.returns-clause-some
returns-clause-some g c =
    let t = (g.R.Rows.sheet c.args.rows.now).tree in
    let top = c.top-last.ensures ∙ ap greatest c.width.ensures in
    begins_if t c.requires.tree.0 c.requires.tree.1 c.row_for.result (c.row_for.ensures ∙ (λ i. row_for (record { first = 0; last = top i; word = c.root.ensures.word i })))
