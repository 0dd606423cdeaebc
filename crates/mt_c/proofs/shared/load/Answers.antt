use Rattle.mt_c.proofs.Prelude.{◌∙◌, Ok, Some, ap, sym}
use Rattle.mt_c.proofs.Sharing.{asked_open}
use Rattle.mt_c.proofs.shared.load.Goals as goal

pub returns : goal.returns
returns c =
    asked_open _ _ _ _ _ (Ok c.load-read.result) _ _ (c.in-Some.ensures.user ∙ ap Some (sym c.deref_mut.ensures.value)) c.put.ensures
    c.load-read.ensures.common c.load-read.ensures.chair c.load-read.ensures.receipts c.load-read.ensures.answer c.load-read.ensures.rests c.load-read.ensures.took tt c.answer_told-status.ensures.status c.answer_told-status.ensures.window
