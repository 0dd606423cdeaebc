use Rattle.mt_c.proofs.Prelude.{IfOk, subst, map_by, Sheet, IsFirstWith, high_as}
use Rattle.mt_c.proofs.shared_maps.first_of.Goals as goal

pub of_height-requires-clause-height : goal.of_height-requires-clause-height
of_height-requires-clause-height c = high_as _ _ _ c.height-height.result c.parts-rows.ensures.rows c.boxed_with-made.ensures.rest c.height-height.ensures

pub returns-clause-user : goal.returns-clause-user
returns-clause-user c = subst (λ (s : Sheet). IfOk c.boxed_with-made.result (λ whole. IsFirstWith c.args.by.1 (map_by s.tree) whole.value)) c.parts-rows.ensures.rows c.boxed_with-made.ensures.user
