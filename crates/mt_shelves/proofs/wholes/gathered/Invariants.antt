use Rattle.mt_shelves.proofs.Prelude.{◌≡◌, take, joined}
use Rattle.mt_shelves.proofs.wholes.gathered.Given as goal

abbrev pub invariant-loop-shelf : goal.invariant-loop-shelf
invariant-loop-shelf l = l.all.items ≡ joined (take l.shelf-index l.shelves)
