use Rattle.mt_linearize.proofs.Stretches.{numbers_apart, stretch_apart}
use Rattle.mt_linearize.proofs.log_lines.lines_have_numbers_of_their_own.Goals as goal

pub returns-clause-rising : goal.returns-clause-rising
returns-clause-rising c = numbers_apart

pub returns-clause-stretch : goal.returns-clause-stretch
returns-clause-stretch c = stretch_apart
