use Rattle.mt_draw.proofs.Prelude.{take, flat_map, HasWritten, IsPlainFormatter, slot_line}
use Rattle.mt_draw.proofs.texts.EntriesDisplay.fmt.Given as goal

abbrev pub invariant-loop-span : goal.invariant-loop-span
invariant-loop-span g l = IsPlainFormatter l.initial.f → HasWritten g.W.Write.write_str_gives l.initial.f (flat_map (slot_line l.width l.indent.0) (take l.span-index l.span-items)) l.f
