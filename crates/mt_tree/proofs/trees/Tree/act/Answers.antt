use Rattle.mt_tree.proofs.Trying.{tries_once, was_made}
use Rattle.mt_tree.proofs.trees.Tree.act.Goals as goal

pub returns-clause-made : goal.returns-clause-made
returns-clause-made g c = let told = c.act-done.ensures in was_made _ _ _ _ _ _ _ _ c.take-taken.ensures.known told.done told.named told.answered told.worn

pub returns-clause-tries : goal.returns-clause-tries
returns-clause-tries g c = tries_once _ _ _ c.take-taken.ensures.tries c.act-done.ensures.rests
