use Rattle.mt_tree.proofs.Prelude.{rules}
use Rattle.mt_tree.proofs.Settling.{still_all, settled}
use Rattle.mt_tree.proofs.behind.WriterState.show_all.Goals as goal

pub returns-clause-all : goal.returns-clause-all
returns-clause-all c = still_all c.args.tree.now c.args.self.now.pen c.args.passes.now c.show_each.new.passes c.requires.all c.show_each.ensures.of c.show_each.ensures.shown

pub returns-clause-settled : goal.returns-clause-settled
returns-clause-settled c = settled c.args.tree.now c.args.self.now.pen c.args.passes.now c.show_each.new.passes c.requires.all c.show_each.ensures.shown (search rules)
