use Rattle.mt_tree.proofs.Keeping.{counted_looked}
use Rattle.mt_tree.proofs.behind.WriterState.tell_met.Goals as goal

pub invariant_of-self : goal.invariant_of-self
invariant_of-self g c = (c.tell_at_work.ensures.rest, counted_looked _ _ _ _ _ _ c.tell_at_work.ensures.looked c.self.invariant.1)

pub invariant_of-self-in-Short : goal.invariant_of-self-in-Short
invariant_of-self-in-Short g c = (c.tell_at_work-in-Short.ensures.rest, counted_looked _ _ _ _ _ _ c.tell_at_work-in-Short.ensures.looked c.self.invariant.1)
