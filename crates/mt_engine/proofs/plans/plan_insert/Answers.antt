use Rattle.mt_engine.proofs.Prelude.{sym, ◌∙◌}
use Rattle.mt_engine.proofs.Planning.{first_within, insert_exists, insert_plan}
use Rattle.mt_engine.proofs.plans.plan_insert.Goals as goal

pub walk_to-here-requires-clause-index : goal.walk_to-here-requires-clause-index
walk_to-here-requires-clause-index g c = first_within _ c.args.kind c.requires.tree c.args.edit.first c.args.edit.last c.args.edit.entry (sym c.is_invalid.ensures ∙ c.if-is_invalid.false)

pub returns-then-is_taken-clause-plan : goal.returns-then-is_taken-clause-plan
returns-then-is_taken-clause-plan g c =
    insert_exists _ c.args.kind c.requires.tree c.args.edit.first c.args.edit.last c.args.edit.entry (sym c.is_invalid.ensures ∙ c.if-is_invalid.false) c.walk_to-here.result c.if-edit-eq0.false
    (record { none = c.walk_to-here.ensures.none; some = c.walk_to-here.ensures.some }) (sym c.is_taken.ensures ∙ c.if-is_taken.true)

pub returns-clause-plan : goal.returns-clause-plan
returns-clause-plan g c =
    insert_plan _ c.args.kind c.requires.tree c.args.edit.first c.args.edit.last c.args.edit.entry (sym c.is_invalid.ensures ∙ c.if-is_invalid.false) c.if-edit-eq0.false c.walk_to-here.ensures.path
    (record { none = c.walk_to-here.ensures.none; some = c.walk_to-here.ensures.some }) c.store_by-by.ensures (sym c.is_taken.ensures ∙ c.if-is_taken.false)
