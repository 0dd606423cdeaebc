use Rattle.mt_check.proofs.Prelude.{sym, ap, ◌∙◌, Sheet}
use Rattle.mt_check.proofs.Forms.{form_by}
use Rattle.mt_check.proofs.checks.form_of.Goals as goal

pub returns-clause-form : goal.returns-clause-form
returns-clause-form g c =
    form_by (g.R.Rows.sheet c.args.rows.now) (g.R.Rows.sheet c.root-root.new.self) c.args.kind c.root-root.result c.in-Ok.form (ap (λ (s : Sheet). s.tree) c.root-root.ensures.rest) c.root-root.ensures.word (sym c.in-Ok.is ∙ c.check.ensures.answer)
