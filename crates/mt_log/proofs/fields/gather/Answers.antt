use Rattle.mt_log.proofs.Prelude.{sym, ◌∙◌, eqb-true, length-map}
use Rattle.mt_log.proofs.FirstFields.{first_of}
use Rattle.mt_log.proofs.fields.gather.Goals as goal

pub returns : goal.returns
returns c =
    let full = eqb-true _ _ (sym c.is_full.ensures.value ∙ c.loop-rest-test.false) in
    first_of 8 _ _ _ c.loop-rest.invariant (length-map c.loop-rest.fields.items _ ∙ full)
