use Rattle.mt_log.proofs.Prelude.{take}
use Rattle.mt_log.proofs.Digits.{IsRead}
use Rattle.mt_log.proofs.numbers.value_of.Given as goal

abbrev pub invariant-loop-byte : goal.invariant-loop-byte
invariant-loop-byte l = IsRead l.radix (take l.byte-index l.digits) l.value
