use Rattle.mt_draw.proofs.Prelude.{ℕ, ◌++◌, codes, rules, has_written_append, has_written_of_eq, decimal, gap_of_slot, table_of}
use Rattle.mt_draw.proofs.Loops.{text_grows}
use Rattle.mt_draw.proofs.texts.GapsDisplay.fmt.Goals as goal

pub loop-i-preserved : goal.loop-i-preserved
loop-i-preserved g c p = has_written_of_eq _ _ _ _ _ (text_grows (λ (i : ℕ). decimal (gap_of_slot (table_of c.args.self.now.tree.now) c.args.self.now.node.now i) ++ codes " ") c.loop-i.i) (has_written_append _ _ _ _ _ _ (c.loop-i.invariant p) (search rules))
