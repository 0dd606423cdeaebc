use Rattle.mt_draw.proofs.Prelude.{HasWritten, IsPlainFormatter, indent_text}
use Rattle.mt_draw.proofs.texts.IndentDisplay.fmt.Given as goal

abbrev pub invariant-loop-i : goal.invariant-loop-i
invariant-loop-i g l = IsPlainFormatter l.initial.f → HasWritten g.W.Write.write_str_gives l.initial.f (indent_text l._i) l.f
