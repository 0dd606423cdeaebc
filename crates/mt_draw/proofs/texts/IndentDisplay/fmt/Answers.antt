use Rattle.mt_draw.proofs.Prelude.{ℕ, codes, rules, has_written_append, has_written_of_eq}
use Rattle.mt_draw.proofs.Loops.{text_grows}
use Rattle.mt_draw.proofs.texts.IndentDisplay.fmt.Goals as goal

pub loop-i-preserved : goal.loop-i-preserved
loop-i-preserved g c p = has_written_of_eq _ _ _ _ _ (text_grows (λ (_ : ℕ). codes "  ") c.loop-i._i) (has_written_append _ _ _ _ _ _ (c.loop-i.invariant p) (search rules))
