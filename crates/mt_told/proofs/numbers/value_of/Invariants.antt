use Rattle.mt_told.proofs.Prelude.{take, IsRead}
use Rattle.mt_told.proofs.numbers.value_of.Given as goal

abbrev pub invariant-loop-byte : goal.invariant-loop-byte
invariant-loop-byte l = IsRead 10 (take l.byte-index l.digits) l.value
