use Rattle.mt_splice.proofs.Planned.{planned_stands}
use Rattle.mt_splice.proofs.plans.drafted_layers_stand.Goals as goal

pub returns : goal.returns
returns c = λ start words is_new top beside. planned_stands beside
