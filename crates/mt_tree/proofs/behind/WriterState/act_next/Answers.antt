use Rattle.mt_tree.proofs.Prelude.{pass_in}
use Rattle.mt_tree.proofs.Batching.{never_worn, one_longer}
use Rattle.mt_tree.proofs.behind.WriterState.act_next.Goals as goal

pub unreachable-requires : goal.unreachable-requires
unreachable-requires c = never_worn c.args.tree.now (pass_in c.args.pass.now) (pass_in c.act.new.pass) c.args.self.now c.act.new.self _ c.requires.room c.act.ensures.seen c.in-Err.ensures.worn

pub returns-clause-count : goal.returns-clause-count
returns-clause-count c = one_longer c.args.tree.now (pass_in c.args.pass.now) (pass_in c.act.new.pass) c.act.new.self c.args.call.now c.in-Ok.done c.in-Ok.ensures.done.0 c.act.ensures.seen

pub returns-clause-made : goal.returns-clause-made
returns-clause-made c = record { done = c.in-Ok.ensures.done; named = c.in-Ok.ensures.named; answered = (c.args.self.now, c.act.new.self, c.in-Ok.ensures.answered); worn = tt }
