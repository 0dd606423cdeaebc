use Rattle.mt_image.proofs.Prelude.{Err, ◌≡◌, Some, None, Ok, ap, subst, ◌∙◌, first_row, sheet_in, err_from_is_err_and, checked, Rooted, Sheet, tree_as, with_published, Root, stray_from}
use Rattle.mt_image.proofs.Judged.{told_fault, told_walk}
use Rattle.mt_image.proofs.reading.check_rows.Goals as goal

-- src/reading.rt:184:1
pub returns-in_err-check-clause-err : goal.returns-in_err-check-clause-err
returns-in_err-check-clause-err c =
    let p = err_from_is_err_and c.from_residual.result c.from_residual.ensures.1 in
    let e = c.in_err-check.field-0.0 in
    rw (p.1, p.2) (λ other. told_fault c.args.kind (sheet_in c.args.rows.now).tree c.root-root.result e c.root-root.ensures.word (subst (λ (u : Rooted). Err e ≡ checked (tree_as c.args.kind (with_published u Root c.root-root.result))) (ap (λ (s : Sheet). s.tree) c.root-root.ensures.rest) c.in_err-check.ensures.answer))

pub returns-in_err-walk-clause-err : goal.returns-in_err-walk-clause-err
returns-in_err-walk-clause-err c =
    let p = err_from_is_err_and c.from_residual-in_err-walk.result c.from_residual-in_err-walk.ensures.1 in
    rw p.1 (λ other. absurd (other p.2))

pub returns-in-Some-clause-err : goal.returns-in-Some-clause-err
returns-in-Some-clause-err c other =
    let size_is : c.size.result ≡ (sheet_in c.args.rows.now).tree.rows = c.size.ensures ∙ ap (λ (s : Sheet). s.tree.rows) c.check.ensures.rest ∙ ap (λ (s : Sheet). s.tree.rows) c.root-root.ensures.rest in
    told_walk c.args.kind (sheet_in c.args.rows.now).tree c.width_of.result c.args.words.now c.root-root.result c.in_ok-check.field-0 c.in_ok-walk.walk.items (Some c.in-Some.row) c.requires.width c.width_of.ensures c.requires.words c.root-root.ensures.word (subst (λ (u : Rooted). Ok c.in_ok-check.field-0 ≡ checked (tree_as c.args.kind (with_published u Root c.root-root.result))) (ap (λ (s : Sheet). s.tree) c.root-root.ensures.rest) c.in_ok-check.ensures.answer) c.in_ok-walk.ensures (c.in-Some.ensures ∙ (λ i. stray_from first_row (size_is i) (c.deref.ensures.value i)))

-- src/reading.rt:171:1
pub returns-clause-ok : goal.returns-clause-ok
returns-clause-ok c =
    let size_is : c.size.result ≡ (sheet_in c.args.rows.now).tree.rows = c.size.ensures ∙ ap (λ (s : Sheet). s.tree.rows) c.check.ensures.rest ∙ ap (λ (s : Sheet). s.tree.rows) c.root-root.ensures.rest in
    told_walk c.args.kind (sheet_in c.args.rows.now).tree c.width_of.result c.args.words.now c.root-root.result c.in_ok-check.field-0 c.in_ok-walk.walk.items None c.requires.width c.width_of.ensures c.requires.words c.root-root.ensures.word (subst (λ (u : Rooted). Ok c.in_ok-check.field-0 ≡ checked (tree_as c.args.kind (with_published u Root c.root-root.result))) (ap (λ (s : Sheet). s.tree) c.root-root.ensures.rest) c.in_ok-check.ensures.answer) c.in_ok-walk.ensures (c.in-None.ensures ∙ (λ i. stray_from first_row (size_is i) (c.deref.ensures.value i)))
