use Rattle.mt_draw.proofs.Prelude.{◌++◌, codes, flat_map, range_with_len, HasWritten, IsPlainFormatter, decimal, gap_of_slot, table_of}
use Rattle.mt_draw.proofs.texts.GapsDisplay.fmt.Given as goal

abbrev pub invariant-loop-i : goal.invariant-loop-i
invariant-loop-i g l = IsPlainFormatter l.initial.f → HasWritten g.W.Write.write_str_gives l.initial.f (flat_map (λ i. decimal (gap_of_slot (table_of l.self.tree.now) l.self.node.now i) ++ codes " ") (range_with_len 0 l.i)) l.f
