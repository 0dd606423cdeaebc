use Rattle.mt_c.proofs.Prelude.{rules, refl, place_to}
use Rattle.mt_c.proofs.Bounds.{steps_on}
use Rattle.mt_c.proofs.walker.Walker.step_to.Goals as goal

pub returns-clause-stepped : goal.returns-clause-stepped
returns-clause-stepped c =
    steps_on c.args.tree.now c.args.self.now c.step_from-found.new.self c.step_from-found.new.self c.args.max c.in-Some._at (place_to c.args.max c.args.place) c.place_to.result c.step_from-found.result _ c.up_to-value.result
    c.place_to.ensures c.step_from-found.ensures.stepped c.up_to-value.ensures (search rules) refl refl
