use Rattle.mt_tree.proofs.Prelude.{pass_in}
use Rattle.mt_tree.proofs.Batching.{lacks_from, made_from}
use Rattle.mt_tree.proofs.Trying.{tries_once}
use Rattle.mt_tree.proofs.trees.Tree.try_act_each.Goals as goal

pub returns-clause-made : goal.returns-clause-made
returns-clause-made g c =
    made_from g.A.Request.asks g.A.Request.told c.args.self.now (pass_in c.args.pass.now) (pass_in c.try_take.new.pass) (pass_in c.act_all-each.new.pass) c.args.asked.now c.act_all-each.new.asked c.act_all-each.result c.in_ok-taken.ensures.known c.act_all-each.ensures.made

pub returns-clause-worn : goal.returns-clause-worn
returns-clause-worn g c =
    lacks_from c.args.self.now (pass_in c.args.pass.now) (pass_in c.try_take.new.pass) (pass_in c.act_all-each.new.pass) c.args.asked.now c.act_all-each.new.asked c.act_all-each.result c.in_ok-taken.ensures.known c.act_all-each.ensures.worn

pub returns-clause-tries : goal.returns-clause-tries
returns-clause-tries g c = tries_once _ _ _ c.in_ok-taken.ensures.tries c.act_all-each.ensures.rests
