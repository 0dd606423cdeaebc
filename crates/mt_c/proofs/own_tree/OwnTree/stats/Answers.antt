use Rattle.mt_c.proofs.Prelude.{ap, OwnTree}
use Rattle.mt_c.proofs.Counting.{stats_there}
use Rattle.mt_c.proofs.RangeCounts.{own_if_asked}
use Rattle.mt_c.proofs.own_tree.OwnTree.stats.Goals as goal

pub returns-clause-stats : goal.returns-clause-stats
returns-clause-stats c = stats_there _ _ _ c.stats_in.ensures.stats (ap (λ (t : OwnTree). t.engine) c.self.view_is)

pub invariant_of-self : goal.invariant_of-self
invariant_of-self c = own_if_asked c.self.inside c.stats_in.new.engine c.self.invariant c.stats_in.ensures.rest
