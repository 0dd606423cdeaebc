use Rattle.mt_engine.proofs.Prelude.{sym, subst, Call, IsPlan}
use Rattle.mt_engine.proofs.plans.plan_of.Goals as goal

pub returns-in-Clear-clause-plan : goal.returns-in-Clear-clause-plan
returns-in-Clear-clause-plan g c =
    subst (λ (x : Call). IsPlan c.args.kind (g.R.Rows.sheet c.args.rows.now).tree x c.args.path.now.items c.plan_clear.result) (sym c.in-Clear.is) (c.plan_clear.ensures.plan c.args.kind c.args.path.now.items)

pub returns-in-Gap-clause-plan : goal.returns-in-Gap-clause-plan
returns-in-Gap-clause-plan g c =
    subst (λ (x : Call). IsPlan c.args.kind (g.R.Rows.sheet c.args.rows.now).tree x c.args.path.now.items c.plan_search.result) (sym c.in-Gap.is) (c.plan_search.ensures.plan c.args.path.now.items)

pub returns-in-Rgap-clause-plan : goal.returns-in-Rgap-clause-plan
returns-in-Rgap-clause-plan g c =
    subst (λ (x : Call). IsPlan c.args.kind (g.R.Rows.sheet c.args.rows.now).tree x c.args.path.now.items c.plan_search-in-Rgap.result) (sym c.in-Rgap.is) (c.plan_search-in-Rgap.ensures.plan c.args.path.now.items)
