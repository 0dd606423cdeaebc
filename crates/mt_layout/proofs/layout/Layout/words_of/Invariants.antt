use Rattle.mt_layout.proofs.Writing.{Written}
use Rattle.mt_layout.proofs.layout.Layout.words_of.Given as goal

abbrev pub invariant-loop-i : goal.invariant-loop-i
invariant-loop-i g l = Written g.row.SLOTS g.row.GAPS l.parent l.items l.i l.words
