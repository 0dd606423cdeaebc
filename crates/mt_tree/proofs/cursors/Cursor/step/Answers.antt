use Rattle.mt_tree.proofs.Prelude.{rules}
use Rattle.mt_tree.proofs.Counting.{walked}
use Rattle.mt_tree.proofs.cursors.Cursor.step.Goals as goal

pub invariant_of-self : goal.invariant_of-self
invariant_of-self g c = search rules

pub returns-clause-walked : goal.returns-clause-walked
returns-clause-walked g c =
    let told = c.step.ensures in walked _ _ _ _ _ _ _ _ told.read told.section told.at told.max told.epoch told.leaf told.lo told.marks told.short told.counted told.stepped.turn told.steps
