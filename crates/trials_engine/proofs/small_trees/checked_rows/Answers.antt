use Rattle.trials_engine.proofs.Prelude.{refl, ap, sheet_in, Sheet}
use Rattle.trials_engine.proofs.CheckedTrees.{lawful_as_checked, form_as_checked}
use Rattle.trials_engine.proofs.small_trees.checked_rows.Goals as goal

pub returns-clause-lawful : goal.returns-clause-lawful
returns-clause-lawful c =
    lawful_as_checked (sheet_in c.in_ok-rows.rows) (sheet_in c.check.new.rows) c.args.root c.args.kind c.check.ensures.rest (ap (λ (s : Sheet). s.tree.root) c.in_ok-rows.ensures.rest) (c.in_ok-form.ensures.lawful.0 refl)

pub returns-clause-form : goal.returns-clause-form
returns-clause-form c =
    form_as_checked (sheet_in c.in_ok-rows.rows) (sheet_in c.check.new.rows) c.args.root c.args.kind c.check.ensures.rest (ap (λ (s : Sheet). s.tree.root) c.in_ok-rows.ensures.rest) c.in_ok-form.form c.in_ok-form.ensures.answer
