use Rattle.mt_draw.proofs.Prelude.{flat_map, range_with_len, HasWritten, IsPlainFormatter, pair_text, slot_at}
use Rattle.mt_draw.proofs.texts.PairsDisplay.fmt.Given as goal

abbrev pub invariant-loop-i : goal.invariant-loop-i
invariant-loop-i g l = IsPlainFormatter l.initial.f → HasWritten g.W.Write.write_str_gives l.initial.f (flat_map (λ i. pair_text l.width (slot_at l.spans.items i)) (range_with_len 0 l.i)) l.f
