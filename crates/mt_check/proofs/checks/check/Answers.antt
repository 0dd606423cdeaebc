use Rattle.mt_check.proofs.Prelude.{◌≡◌, ap, ◌∙◌, unwrap_or, err_from_is_err_and, greatest, Rooted, tree_as, height_from}
use Rattle.mt_check.proofs.Whole.{ok_lawful, empty_checked, fault_checked, form_checked}
use Rattle.mt_check.proofs.checks.check.Goals as goal

pub returns-then-root-eq0-clause-answer : goal.returns-then-root-eq0-clause-answer
returns-then-root-eq0-clause-answer g c = let s = g.R.Rows.sheet c.args.rows.now in empty_checked (tree_as c.args.kind (record { rows = s.tree.rows; table = s.tree.table; root = c.args.root })) c.if-root-eq0.true

pub returns-in_err-below-clause-answer : goal.returns-in_err-below-clause-answer
returns-in_err-below-clause-answer g c =
    let s = g.R.Rows.sheet c.args.rows.now in
    let t : Rooted = record { rows = s.tree.rows; table = s.tree.table; root = c.args.root } in
    let p = err_from_is_err_and c.from_residual.result c.from_residual.ensures.1 in
    rw (p.1, p.2) (fault_checked (tree_as c.args.kind t) c.if-root-eq0.false c.top.result c.in_err-below.field-0.0 (c.top.ensures ∙ ap greatest c.width.ensures) c.in_err-below.ensures.answer)

pub returns-in_err-below-clause-lawful : goal.returns-in_err-below-clause-lawful
returns-in_err-below-clause-lawful g c =
    let s = g.R.Rows.sheet c.args.rows.now in
    ok_lawful (record { rows = s.tree.rows; table = s.tree.table; root = c.args.root }) c.args.kind c.from_residual.result c.requires (returns-in_err-below-clause-answer g c)

pub returns-clause-answer : goal.returns-clause-answer
returns-clause-answer g c =
    let s = g.R.Rows.sheet c.args.rows.now in
    let t : Rooted = record { rows = s.tree.rows; table = s.tree.table; root = c.args.root } in
    let tall : c.unwrap_or.result ≡ height_from (tree_as c.args.kind t) = c.unwrap_or.ensures ∙ ap (λ d. unwrap_or d 0) c.in_ok-below.ensures.depth in
    form_checked (tree_as c.args.kind t) c.if-root-eq0.false c.top.result c.in_ok-below.below c.unwrap_or.result (c.top.ensures ∙ ap greatest c.width.ensures) c.in_ok-below.ensures.answer tall

pub returns-clause-lawful : goal.returns-clause-lawful
returns-clause-lawful g c =
    let s = g.R.Rows.sheet c.args.rows.now in
    ok_lawful (record { rows = s.tree.rows; table = s.tree.table; root = c.args.root }) c.args.kind _ c.requires (returns-clause-answer g c)
