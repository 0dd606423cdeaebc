use Rattle.mt_commands.proofs.Prelude.{pass_in}
use Rattle.mt_commands.proofs.Lanes.{made_so, worn_so}
use Rattle.mt_commands.proofs.trees.LaneTreeSharedPass.act.Goals as goal

pub returns-clause-wrote : goal.returns-clause-wrote
returns-clause-wrote g c = made_so c.args.self.now.tree (pass_in c.args.pass.now) (pass_in c.act.new.pass) c.args.call.now c.act.result c.act.ensures.made.done

pub returns-clause-worn : goal.returns-clause-worn
returns-clause-worn g c = worn_so c.args.self.now.tree (pass_in c.args.pass.now) (pass_in c.act.new.pass) c.args.call.now c.act.result c.act.ensures.made.worn
