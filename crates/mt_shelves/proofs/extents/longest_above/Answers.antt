use Rattle.mt_shelves.proofs.Prelude.{arith, common_steps}
use Rattle.mt_shelves.proofs.LongestHole.{longest_more}
use Rattle.mt_shelves.proofs.extents.longest_above.Goals as goal

pub loop-range-preserved : goal.loop-range-preserved
loop-range-preserved c =
    longest_more c.args.ranges.now c.args.index c.loop-range.range-index c.loop-range.last c.loop-range.longest c.max-longest.result _ c.loop-range-test.true c.loop-range.invariant (rw c.max-longest.ensures (grind (arith, common_steps))) (rw c.max-longest.ensures (grind (arith, common_steps)))
