use Rattle.mt_c.proofs.Prelude.{◌∙◌, Some, ap, refl, sym}
use Rattle.mt_c.proofs.Sharing.{learned_no, learned_yes}
use Rattle.mt_c.proofs.shared.learn.Goals as goal

pub returns-then-calls-read : goal.returns-then-calls-read
returns-then-calls-read c =
    learned_yes _ _ _ _ _ c.entry-read.result _ (c.in-Some.ensures.user ∙ ap Some (sym c.deref_mut.ensures.value)) c.put.ensures c.entry-read.ensures.common c.entry-read.ensures.chair c.entry-read.ensures.receipts c.entry-read.ensures.entry c.entry-read.ensures.rests c.entry-read.ensures.took c.if-calls-read.true refl

pub returns-else-calls-read : goal.returns-else-calls-read
returns-else-calls-read c =
    learned_no _ _ _ _ _ c.entry-read.result _ (c.in-Some.ensures.user ∙ ap Some (sym c.deref_mut.ensures.value)) c.put.ensures c.entry-read.ensures.common c.entry-read.ensures.chair c.entry-read.ensures.receipts c.entry-read.ensures.entry c.entry-read.ensures.rests c.entry-read.ensures.took c.if-calls-read.false refl
