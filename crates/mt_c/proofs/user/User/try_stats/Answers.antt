use Rattle.mt_c.proofs.Prelude.{subst, sym, Common, IsStatsOf, IsFoundIn, knows, shut}
use Rattle.mt_c.proofs.Using.{on}
use Rattle.mt_c.proofs.user.User.try_stats.Goals as goal

pub try_stats-requires : goal.try_stats-requires
try_stats-requires c = on c.deref.ensures c.args.self.now.of

pub invariant_of-self : goal.invariant_of-self
invariant_of-self c = record { of = on (sym c.deref.ensures) c.try_stats.ensures.of; seated = c.args.self.now.seated }

pub returns-clause-found : goal.returns-clause-found
returns-clause-found c = subst (λ (x : Common). IsFoundIn IsStatsOf x.tree (shut c.args.self.now.walker) c.try_stats.result (knows c.try_stats.new.self)) c.deref.ensures c.try_stats.ensures.found
