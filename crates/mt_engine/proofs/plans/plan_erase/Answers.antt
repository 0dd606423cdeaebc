use Rattle.mt_engine.proofs.Prelude.{ℕ, ◌<◌, ◌≤◌, ap, subst, is_some}
use Rattle.mt_engine.proofs.Planning.{erase_above, erase_nothing, erase_hole, erase_plan}
use Rattle.mt_engine.proofs.plans.plan_erase.Goals as goal

pub returns-then-index-top_of-clause-plan : goal.returns-then-index-top_of-clause-plan
returns-then-index-top_of-clause-plan g c =
    erase_above (g.R.Rows.sheet c.args.rows.now).tree c.args.kind c.requires.tree c.args.index (subst (λ (n : ℕ). n < c.args.index) c.top_of.ensures c.if-index-top_of.true)

pub walk_to-requires-clause-index : goal.walk_to-requires-clause-index
walk_to-requires-clause-index g c = subst (λ (n : ℕ). c.args.index ≤ n) c.top_of.ensures c.if-index-top_of.false

pub returns-in_default-clause-plan : goal.returns-in_default-clause-plan
returns-in_default-clause-plan g c =
    let t = (g.R.Rows.sheet c.args.rows.now).tree in
    erase_nothing t c.args.kind c.requires.tree c.args.index (subst (λ (n : ℕ). c.args.index ≤ n) c.top_of.ensures c.if-index-top_of.false) (c.walk_to.ensures.none.0 (ap is_some c.in_default.is))

pub returns-then-span-eq0-clause-plan : goal.returns-then-span-eq0-clause-plan
returns-then-span-eq0-clause-plan g c =
    let t = (g.R.Rows.sheet c.args.rows.now).tree in
    erase_hole t c.args.kind c.requires.tree c.args.index (subst (λ (n : ℕ). c.args.index ≤ n) c.top_of.ensures c.if-index-top_of.false) c.in-Some.handle (record { none = c.in-Some.ensures.none; some = c.in-Some.ensures.some }) c.if-span-eq0.true

pub returns-clause-plan : goal.returns-clause-plan
returns-clause-plan g c =
    let t = (g.R.Rows.sheet c.args.rows.now).tree in
    erase_plan t c.args.kind c.requires.tree c.args.index (subst (λ (n : ℕ). c.args.index ≤ n) c.top_of.ensures c.if-index-top_of.false) c.in-Some.handle (record { none = c.in-Some.ensures.none; some = c.in-Some.ensures.some }) c.if-span-eq0.false
    c.in-Some.ensures.path c.range_in.ensures c.store_by-by.ensures
