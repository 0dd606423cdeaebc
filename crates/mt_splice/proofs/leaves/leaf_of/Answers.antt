use Rattle.mt_splice.proofs.Prelude.{arith}
use Rattle.mt_splice.proofs.LeafRegions.{some_long}
use Rattle.mt_splice.proofs.leaves.leaf_of.Goals as goal

pub overflow_sub-depth : goal.overflow_sub-depth
overflow_sub-depth c = let some = some_long c.args.path.now.items c.requires in let same = c.len.ensures.value in omega arith
