use Rattle.trials_lanes.proofs.Prelude.{List, [], ◌∷◌, ◌++◌, Vec, ap, sym, subst, ◌∙◌, Global, CanPass, IsPassOf, Pass, pass_in, LaneTree}
use Rattle.trials_lanes.proofs.Closed.{can_pass_one}
use Rattle.trials_lanes.proofs.locked.answers.Goals as goal

pub answers_to-requires-clause-can : goal.answers_to-requires-clause-can
answers_to-requires-clause-can g c κs within =
    let serves = λ (t : LaneTree) (p : Pass). IsPassOf t.tree p in
    let items = λ (row : Vec Pass Global). row.items in
    let row = c.push_reserved.new.self in
    let alone = c.push_reserved.ensures.items ∙ ap (λ (ps : List Pass). ps ++ c.args.pass ∷ []) c.in_ok-row.ensures.items in
    subst (λ (trees : List LaneTree). CanPass pass_in serves items 0 trees (row ∷ [])) (sym c.from_ref-trees.ensures.value) (can_pass_one pass_in serves items c.args.tree.now row c.args.pass alone c.requires.closed c.requires.of)
