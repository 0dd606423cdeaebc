use Rattle.mt_replay.proofs.Prelude.{◌≡◌, take, kinds_in}
use Rattle.mt_replay.proofs.makes.kinds_of.Given as goal

abbrev pub invariant-loop-line : goal.invariant-loop-line
invariant-loop-line l = l.kinds.items ≡ kinds_in (take l.line-index l.lines)
