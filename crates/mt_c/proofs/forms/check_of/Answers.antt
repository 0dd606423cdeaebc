use Rattle.mt_c.proofs.Prelude.{high_as}
use Rattle.mt_c.proofs.Reading.{form_there}
use Rattle.mt_c.proofs.forms.check_of.Goals as goal

pub of_height-requires-clause-height : goal.of_height-requires-clause-height
of_height-requires-clause-height c = high_as _ _ _ c.height-height.result c.parts-rows.ensures.rows c.check_rows-found.ensures.rest c.height-height.ensures

pub returns-clause-form : goal.returns-clause-form
returns-clause-form c = form_there _ _ _ _ _ c.check_rows-found.ensures.form c.requires c.parts-rows.ensures.rows
