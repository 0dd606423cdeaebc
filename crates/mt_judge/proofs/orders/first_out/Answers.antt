use Rattle.mt_judge.proofs.Prelude.{◌+◌, ◌-◌, ◌/◌, arith, iff_false}
use Rattle.mt_judge.proofs.Firsts.{lies_within, phases_first}
use Rattle.mt_judge.proofs.orders.first_out.Goals as goal

pub loop-low-init : goal.loop-low-init
loop-low-init c = lies_within c.args.told.now _ (omega (arith, c.if-count-eq0.false)) (iff_false c.windows_keep.ensures c.if-windows_keep.false)

pub windows_keep-requires-in-loop-low-clause-phases : goal.windows_keep-requires-in-loop-low-clause-phases
windows_keep-requires-in-loop-low-clause-phases c = phases_first (c.loop-low.low + (c.loop-low.last - c.loop-low.low) / 2 + 1) c.args.told.now c.requires.phases
