use Rattle.mt_sequential.proofs.Prelude.{◌≡◌, map, take, listing_of}
use Rattle.mt_sequential.proofs.player.list_trees.Given as goal

abbrev pub invariant-loop-at : goal.invariant-loop-at
invariant-loop-at g l = (l.trees ≡ l.initial.trees) × (l.lists.items ≡ map listing_of (take l.at l.initial.trees))
