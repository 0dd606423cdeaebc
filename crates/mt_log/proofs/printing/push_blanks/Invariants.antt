use Rattle.mt_log.proofs.Prelude.{◌≡◌, ◌++◌, replicate}
use Rattle.mt_log.proofs.printing.push_blanks.Given as goal

abbrev pub invariant-loop-blank : goal.invariant-loop-blank
invariant-loop-blank l = l.text.items ≡ l.fn.text.items ++ replicate l._blank 10
