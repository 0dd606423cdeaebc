use Rattle.mt_draw.proofs.Prelude.{take, flat_map, HasWritten, IsPlainFormatter, row_text, table_of}
use Rattle.mt_draw.proofs.texts.RowsDisplay.fmt.Given as goal

abbrev pub invariant-loop-node : goal.invariant-loop-node
invariant-loop-node g l = IsPlainFormatter l.initial.f → HasWritten g.W.Write.write_str_gives l.initial.f (flat_map (row_text (table_of l.tree)) (take l.node-index l.node-items)) l.f
