use Rattle.mt_verify.proofs.Prelude.{take, AreReaders}
use Rattle.mt_verify.proofs.heard.readers_of.Given as goal

abbrev pub invariant-loop-one : goal.invariant-loop-one
invariant-loop-one l = AreReaders l.readers (take l.one-index l.told)
