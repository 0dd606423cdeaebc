use Rattle.mt_verify.proofs.Prelude.{List, take, ToldLine, AreReaders, AreNotedOf}
use Rattle.mt_verify.proofs.hearing.all_noted.Given as goal

abbrev pub invariant-loop-call : goal.invariant-loop-call
invariant-loop-call l = (told : List ToldLine) → AreReaders l.fn.readers told → AreNotedOf told l.fn.tree (take l.call-index l.fn.calls) l.all.items
