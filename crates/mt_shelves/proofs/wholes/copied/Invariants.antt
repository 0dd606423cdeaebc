use Rattle.mt_shelves.proofs.Prelude.{◌≡◌, take}
use Rattle.mt_shelves.proofs.wholes.copied.Given as goal

abbrev pub invariant-loop-shelf : goal.invariant-loop-shelf
invariant-loop-shelf l = l.all.items ≡ take l.shelf-index l.shelves
