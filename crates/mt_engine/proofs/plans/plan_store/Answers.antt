use Rattle.mt_engine.proofs.Prelude.{◌≡◌, sym, ap, ◌∙◌, replied, first_met, map_by, IsHereAt}
use Rattle.mt_engine.proofs.Planning.{first_within, store_invalid, store_pre_invalid, store_meets, store_plan, store_pre_plan}
use Rattle.mt_engine.proofs.plans.plan_store.Given.{Over}
use Rattle.mt_engine.proofs.plans.plan_store.Goals.{After-walk_to-here, After-replied}
use Rattle.mt_engine.proofs.plans.plan_store.Goals as goal

-- what stands at the first index
stands : (g : Over) (c : After-walk_to-here g) → IsHereAt (g.R.Rows.sheet c.args.rows.now).tree c.args.edit.first c.walk_to-here.result
stands g c = record { none = c.walk_to-here.ensures.none; some = c.walk_to-here.ensures.some }

-- the reply names what the store meets first
answers : (g : Over) (c : After-replied g) → c.replied.result ≡ replied (first_met (map_by (g.R.Rows.sheet c.args.rows.now).tree) c.args.edit.first c.args.edit.last)
answers g c =
    let here : IsHereAt (g.R.Rows.sheet c.args.rows.now).tree c.args.edit.first c.walk_to-here.result = record { none = c.walk_to-here.ensures.none; some = c.walk_to-here.ensures.some } in
    c.replied.ensures ∙ ap replied (store_meets (g.R.Rows.sheet c.args.rows.now) (g.R.Rows.sheet c.walk_to-here.new.rows) c.args.kind c.requires.tree c.args.edit.first c.args.edit.last c.args.edit.entry (sym c.is_invalid.ensures ∙ c.if-is_invalid.false) c.walk_to-here.result c.met-met.result here c.walk_to-here.ensures.rest c.met-met.ensures.met)

pub walk_to-here-requires-clause-index : goal.walk_to-here-requires-clause-index
walk_to-here-requires-clause-index g c = first_within _ c.args.kind c.requires.tree c.args.edit.first c.args.edit.last c.args.edit.entry (sym c.is_invalid.ensures ∙ c.if-is_invalid.false)

pub returns-then-is_invalid-clause-plan : goal.returns-then-is_invalid-clause-plan
returns-then-is_invalid-clause-plan g c = store_invalid c.args.kind _ c.args.edit.first c.args.edit.last c.args.edit.entry (sym c.is_invalid.ensures ∙ c.if-is_invalid.true)

pub returns-then-is_invalid-clause-at_hand : goal.returns-then-is_invalid-clause-at_hand
returns-then-is_invalid-clause-at_hand g c = store_pre_invalid c.args.kind _ c.args.edit.first c.args.edit.last c.args.edit.entry (sym c.is_invalid.ensures ∙ c.if-is_invalid.true)

pub returns-clause-plan : goal.returns-clause-plan
returns-clause-plan g c =
    let at = goal.at.returns-clause-plan g c in
    store_plan (g.R.Rows.sheet c.args.rows.now).tree c.args.kind c.requires.tree c.args.edit.first c.args.edit.last c.args.edit.entry (sym c.is_invalid.ensures ∙ c.if-is_invalid.false) c.walk_to-here.ensures.path (stands g at.After-walk_to-here) c.store_by-by.ensures (answers g at.After-replied)

pub returns-clause-at_hand : goal.returns-clause-at_hand
returns-clause-at_hand g c =
    let at = goal.at.returns-clause-at_hand g c in
    store_pre_plan (g.R.Rows.sheet c.args.rows.now).tree c.args.kind c.requires.tree c.args.edit.first c.args.edit.last c.args.edit.entry (sym c.is_invalid.ensures ∙ c.if-is_invalid.false) c.walk_to-here.ensures.path (stands g at.After-walk_to-here) c.store_by-by.ensures (answers g at.After-replied)
