use Rattle.mt_commands.proofs.Prelude.{arith, grew_read, opened, pass_in}
use Rattle.mt_commands.proofs.Walking.{few_steps}
use Rattle.mt_commands.proofs.trees.look.Goals as goal

pub returns-in-Ok-clause-few : goal.returns-in-Ok-clause-few
returns-in-Ok-clause-few g c = omega (arith, c.ask.ensures.sought.takes.steps, few_steps c.args.query.now)

pub returns-in-Err-clause-few : goal.returns-in-Err-clause-few
returns-in-Err-clause-few g c = omega (arith, c.ask.ensures.sought.takes.steps, few_steps c.args.query.now, c.ask_under_lock.ensures.rests)

pub returns-in-Err-clause-read : goal.returns-in-Err-clause-read
returns-in-Err-clause-read g c =
    let read = c.ask_under_lock.ensures.read in
    (read.0, grew_read (opened c.args.tree.now) (pass_in c.args.pass.now) (pass_in c.ask.new.pass) _ _ _ _ _ (pass_in c.ask_under_lock.new.pass) c.in-Err.ensures.sought.moved.grows read.1)
