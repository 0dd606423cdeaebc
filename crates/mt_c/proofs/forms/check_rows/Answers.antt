use Rattle.mt_c.proofs.Prelude.{ap, sheet_in, Sheet}
use Rattle.mt_c.proofs.Reading.{form_told}
use Rattle.mt_c.proofs.forms.check_rows.Goals as goal

pub returns-clause-form : goal.returns-clause-form
returns-clause-form c =
    form_told (sheet_in c.args.rows.now) (sheet_in c.root-root.new.self) c.args.kind c.root-root.result (ap (λ (s : Sheet). s.tree) c.root-root.ensures.rest) c.root-root.ensures.word c.check.result
    c.requires c.check.ensures.lawful.1 c.check.ensures.answer
