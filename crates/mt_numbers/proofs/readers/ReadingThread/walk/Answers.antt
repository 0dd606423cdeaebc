-- The pass that the cursor had is of the tree over which it walked.
use Rattle.mt_numbers.proofs.Prelude.{rules, ap, ◌∙◌, still_of}
use Rattle.mt_numbers.proofs.readers.ReadingThread.walk.Goals as goal

pub invariant_of-self : goal.invariant_of-self
invariant_of-self g c = record { of = still_of c.rises-rising.new.cursor.tree.now c.args.self.now.tree.now _ (ap (λ b. b.now) c.rises-rising.ensures.tree ∙ c.cursor-cursor.ensures.tree) (search rules) }
