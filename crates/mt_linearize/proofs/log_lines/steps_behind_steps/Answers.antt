use Rattle.mt_linearize.proofs.Stretches.{done_append}
use Rattle.mt_linearize.proofs.log_lines.steps_behind_steps.Goals as goal

pub returns : goal.returns
returns c = done_append
