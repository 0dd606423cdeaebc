use Rattle.mt_splice.proofs.LayerGaps.{planned_tell}
use Rattle.mt_splice.proofs.plans.drafted_layers_keep_gaps.Goals as goal

pub returns : goal.returns
returns c = λ start words is_new top beside had l lower plan from held low. (planned_tell beside had l lower plan from held low).laws
