use Rattle.mt_tree.proofs.Prelude.{◌≡◌, IfSome, length, sym, ap, ◌∙◌, subst, map_by, Sheet}
use Rattle.mt_tree.proofs.Forms.{high_as}
use Rattle.mt_tree.proofs.Reserving.{lacks_is}
use Rattle.mt_tree.proofs.reserve.lacks_room.Goals as goal

pub ranges_in-ranges-requires-clause-known : goal.ranges_in-ranges-requires-clause-known
ranges_in-ranges-requires-clause-known g c = subst (λ (s : Sheet). IfSome c.args.known (λ n. n ≡ length (map_by s.tree))) (sym c.parts-rows.ensures.rows) c.requires.known

pub of_height-engine-requires-clause-height : goal.of_height-engine-requires-clause-height
of_height-engine-requires-clause-height g c = high_as _ _ _ c.height-height.result c.parts-rows.ensures.rows c.ranges_in-ranges.ensures.rest c.height-height.ensures

pub returns-clause-lacks : goal.returns-clause-lacks
returns-clause-lacks g c =
    let rows = c.size-size.ensures ∙ ap (λ (s : Sheet). s.tree.rows) c.parts-rows.ensures.rows in
    let count = c.ranges_in-ranges.ensures.count ∙ ap (λ (s : Sheet). length (map_by s.tree)) c.parts-rows.ensures.rows in
    lacks_is c.is_reserve.result _ _ _ _ c.args.gain rows count c.is_reserve.ensures

pub returns-clause-ranges : goal.returns-clause-ranges
returns-clause-ranges g c = c.ranges_in-ranges.ensures.count ∙ ap (λ (s : Sheet). length (map_by s.tree)) c.parts-rows.ensures.rows
