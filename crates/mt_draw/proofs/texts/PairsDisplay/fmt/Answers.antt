use Rattle.mt_draw.proofs.Prelude.{ℕ, rules, has_written_append, has_written_of_eq, pair_text, slot_at}
use Rattle.mt_draw.proofs.Loops.{text_grows}
use Rattle.mt_draw.proofs.texts.PairsDisplay.fmt.Goals as goal

pub loop-i-preserved : goal.loop-i-preserved
loop-i-preserved g c p = has_written_of_eq _ _ _ _ _ (text_grows (λ (i : ℕ). pair_text c.width-width.result (slot_at c.spans-spans.result.items i)) c.loop-i.i) (has_written_append _ _ _ _ _ _ (c.loop-i.invariant p) (search rules))
