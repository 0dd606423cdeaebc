use Rattle.mt_tree.proofs.Trying.{tries_once}
use Rattle.mt_tree.proofs.Overwriting.{stored_from}
use Rattle.mt_tree.proofs.trees.Tree.try_store_over.Goals as goal

pub returns-clause-made : goal.returns-clause-made
returns-clause-made g c = stored_from _ _ _ _ _ _ c.in_ok-taken.ensures.known c.store_over-told.ensures.made

pub returns-clause-tries : goal.returns-clause-tries
returns-clause-tries g c = tries_once _ _ _ c.in_ok-taken.ensures.tries c.store_over-told.ensures.rests
