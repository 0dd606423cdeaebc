use Rattle.mt_commands.proofs.trees.LaneTreePlaysPass.check.Goals as goal

pub returns-clause-count : goal.returns-clause-count
returns-clause-count g c = c.check-look.ensures.form.form.ranges
