use Rattle.mt_commands.proofs.Lanes.{few_wanted, looked_or_not}
use Rattle.mt_commands.proofs.trees.duplicated.Goals as goal

pub returns-clause-pass : goal.returns-clause-pass
returns-clause-pass g c = looked_or_not c.args.tree.now c.args.pass.now c.dup-made.new.pass c.args.shape c.dup-made.result.0 c.dup-made.result.1 c.dup-made.ensures.looked

pub returns-clause-enough : goal.returns-clause-enough
returns-clause-enough g c = few_wanted c.args.tree.now c.args.pass.now c.dup-made.new.pass c.args.shape c.dup-made.result.0 c.dup-made.result.1 c.dup-made.ensures.looked
