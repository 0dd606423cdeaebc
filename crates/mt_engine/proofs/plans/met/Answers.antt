use Rattle.mt_engine.proofs.Prelude.{Option, ap, sym, ◌∙◌, Handle, is_range_met}
use Rattle.mt_engine.proofs.Planning.{met_none, met_nearest}
use Rattle.mt_engine.proofs.plans.met.Goals as goal

pub returns-in_default-clause-met : goal.returns-in_default-clause-met
returns-in_default-clause-met g c = λ first order within stands. met_none _ c.requires.tree.0 c.requires.tree.1 first c.args.last order within _ stands (ap (λ (here : Option Handle). is_range_met here c.args.last) c.in_default.is)

pub returns-then-not-is_taken-clause-met : goal.returns-then-not-is_taken-clause-met
returns-then-not-is_taken-clause-met g c = λ first order within stands. met_none _ c.requires.tree.0 c.requires.tree.1 first c.args.last order within _ stands (sym c.is_taken.ensures ∙ c.if-not-is_taken.true)

pub returns-clause-met : goal.returns-clause-met
returns-clause-met g c = λ first order within stands. met_nearest _ c.requires.tree.0 c.requires.tree.1 first c.args.last order within c.args.here.now c.in-Some.handle c.nearest_from.result c.in-Some.is stands (sym c.is_taken.ensures ∙ c.if-not-is_taken.false) c.nearest_from.ensures.range
