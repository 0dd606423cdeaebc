use Rattle.mt_tree.proofs.Prelude.{ap, ◌∙◌, after_show}
use Rattle.mt_tree.proofs.Settling.{have_met}
use Rattle.mt_tree.proofs.behind.WriterState.meet.Goals as goal

pub returns-clause-state : goal.returns-clause-state
returns-clause-state c = c.show_each.ensures.state ∙ ap after_show c.show-calls.ensures.state

pub returns-clause-met : goal.returns-clause-met
returns-clause-met c =
    have_met c.args.tree.now c.args.self.now c.show-calls.new.self c.args.pass.now c.show-calls.new.pass c.args.others.now c.show_each.new.passes _ c.show-calls.ensures.state c.show-calls.ensures.count
    (c.show-calls.ensures.shown, c.show-calls.ensures.shape) c.show_each.ensures.shown
