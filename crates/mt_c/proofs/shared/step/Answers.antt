use Rattle.mt_c.proofs.Prelude.{◌∙◌, Some, ap, sym, walk_from}
use Rattle.mt_c.proofs.Sharing.{stepped_open}
use Rattle.mt_c.proofs.shared.step.Goals as goal

pub returns : goal.returns
returns c =
    stepped_open _ _ _ _ _ _ _ c.step_from-read.result _ _ c.index.ensures (c.in-Some.ensures.user ∙ ap Some (sym c.deref_mut.ensures.value)) c.put.ensures
    c.step_from-read.ensures.common c.step_from-read.ensures.chair c.step_from-read.ensures.receipts c.step_from-read.ensures.stepped c.answer_told-status.ensures.status c.answer_told-status.ensures.window (c.from_index.ensures ∙ ap walk_from c.place_behind.ensures)
