use Rattle.mt_tree.proofs.Keeping.{counted_prepared}
use Rattle.mt_tree.proofs.behind.WriterState.preallocate.Goals as goal

pub invariant_of-self : goal.invariant_of-self
invariant_of-self c = (c.preallocate.ensures.rest, counted_prepared _ _ _ _ c.preallocate.ensures.prepared c.self.invariant.1)

pub invariant_of-self-in-Short : goal.invariant_of-self-in-Short
invariant_of-self-in-Short c = (c.preallocate-in-Short.ensures.rest, counted_prepared _ _ _ _ c.preallocate-in-Short.ensures.prepared c.self.invariant.1)
