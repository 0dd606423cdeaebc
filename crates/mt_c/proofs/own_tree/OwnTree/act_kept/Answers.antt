use Rattle.mt_c.proofs.Reserving.{after_on}
use Rattle.mt_c.proofs.own_tree.OwnTree.act_kept.Goals as goal

pub act_counted-requires : goal.act_counted-requires
act_counted-requires c = after_on c.args.self.now.engine c.verdict-verdict.new.self.engine c.args.call.now c.verdict-verdict.result.after c.verdict-verdict.ensures.rest c.verdict-verdict.ensures.verdict.after
