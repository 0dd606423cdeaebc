use Rattle.mt_log.proofs.Prelude.{◌≡◌, ◌++◌, [], drop, lines_text}
use Rattle.mt_log.proofs.printing.push_lines.Given as goal

-- what is printed, and what is to be printed from here on, make the whole
abbrev pub invariant-loop-line : goal.invariant-loop-line
invariant-loop-line l = l.text.items ++ lines_text l.names.items l.number (drop l.line-index l.lines) ≡ l.fn.text.items ++ lines_text [] 1 l.lines
