use Rattle.mt_tree.proofs.Prelude.{length, ◌+◌}
use Rattle.mt_tree.proofs.behind.WriterState.act_all.Goals as goal

pub returns-clause-made : goal.returns-clause-made
returns-clause-made g c = (length c.args.self.now.pen.history + 1, c.act_each.ensures.made)
