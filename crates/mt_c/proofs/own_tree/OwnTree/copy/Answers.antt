use Rattle.mt_c.proofs.Prelude.{IfOk, IfErr, ap, subst, Parts, live_rows, IsCopyInRows, LacksTree, OwnTree}
use Rattle.mt_c.proofs.RangeCounts.{own_if_asked}
use Rattle.mt_c.proofs.own_tree.OwnTree.copy.Goals as goal

pub returns-clause-copy : goal.returns-clause-copy
returns-clause-copy c = subst (λ (e : Parts). IfOk c.copy_in.result (λ whole. IsCopyInRows c.args.rows e whole.value.engine)) (ap (λ (t : OwnTree). t.engine) c.self.view_is) c.copy_in.ensures.copy

pub returns-clause-lacks : goal.returns-clause-lacks
returns-clause-lacks c = subst (λ (e : Parts). IfErr c.copy_in.result (LacksTree (live_rows e.sheet.tree) c.args.rows)) (ap (λ (t : OwnTree). t.engine) c.self.view_is) c.copy_in.ensures.lacks

pub invariant_of-self : goal.invariant_of-self
invariant_of-self c = own_if_asked c.self.inside c.copy_in.new.engine c.self.invariant c.copy_in.ensures.rest
