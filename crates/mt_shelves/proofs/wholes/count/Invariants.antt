use Rattle.mt_shelves.proofs.Prelude.{◌≡◌, length, take, joined}
use Rattle.mt_shelves.proofs.wholes.count.Given as goal

abbrev pub invariant-loop-shelf : goal.invariant-loop-shelf
invariant-loop-shelf l = l.count ≡ length (joined (take l.shelf-index l.shelves))
