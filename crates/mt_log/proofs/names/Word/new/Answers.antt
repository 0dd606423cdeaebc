use Rattle.mt_log.proofs.Prelude.{rules, sym, ◌∙◌}
use Rattle.mt_log.proofs.Padding.{padded_in_zeros, take_name}
use Rattle.mt_log.proofs.names.Word.new.Goals as goal

pub invariant_of-result : goal.invariant_of-result
invariant_of-result c = padded_in_zeros _ _ (sym c.is_name.ensures ∙ c.if-not-is_name.false) c.copy_from_slice.ensures.after

pub returns : goal.returns
returns c = (search rules, take_name _ _ _ c.copy_from_slice.ensures.after)
