use Rattle.mt_splice.proofs.WholeLevels.{AreNoted}
use Rattle.mt_splice.proofs.climbing.push_above.Given as goal

abbrev pub invariant-loop-upper : goal.invariant-loop-upper
invariant-loop-upper l = AreNoted l.fn.windows.items l.windows.items l.ways.left.items l.ways.right.items l.depth l.upper

abbrev pub decreases-loop-upper : goal.decreases-loop-upper
decreases-loop-upper l = l.upper
