use Rattle.mt_tree.proofs.Prelude.{IsOldest, ap, ◌∙◌, Behind, pass_in, Snapshot}
use Rattle.mt_tree.proofs.Looking.{is_oldest}
use Rattle.mt_tree.proofs.Trying.{found_at}
use Rattle.mt_tree.proofs.trees.Tree.try_oldest.Goals as goal

pub returns : goal.returns
returns c =
    let after = c.oldest-least.ensures in
    record {
      found = found_at IsOldest _ _ _ _ _ c.in_ok-taken.ensures.tries c.in_ok-taken.ensures.known after.of after.saw after.rests
          (is_oldest _ (pass_in c.oldest-least.new.pass) _ _ _ _ _ _ (ap (λ (x : Snapshot Behind). x.value) c.give_looked-look.ensures.took ∙ c.snapshot-took.ensures.value) c.give_looked-look.ensures.left c.oldest-least.ensures.least c.calls-calls.ensures c.min.ensures);
    }
