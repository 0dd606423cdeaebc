use Rattle.mt_c.proofs.Prelude.{rules, refl}
use Rattle.mt_c.proofs.Reading.{checked_open}
use Rattle.mt_c.proofs.forms.maple_check.Goals as goal

pub returns-in-Ok : goal.returns-in-Ok
returns-in-Ok c =
    checked_open _ _ c.deref_mut.result.now c.check-found.new.self c.check-found.result c.in-Ok.found 0 c.out_form.result (search rules) (search rules)
    c.check-found.ensures.rest c.check-found.ensures.lawful c.check-found.ensures.form c.in-Ok.is refl c.out_form.ensures
