use Rattle.mt_tree.proofs.Prelude.{IsFormBehind, ap, ◌∙◌, Behind, Snapshot}
use Rattle.mt_tree.proofs.Looking.{form_there}
use Rattle.mt_tree.proofs.Trying.{found_at}
use Rattle.mt_tree.proofs.trees.Tree.try_check.Goals as goal

pub returns : goal.returns
returns c =
    let after = c.inspect-form.ensures.looked in
    record {
      found = found_at IsFormBehind _ _ _ _ _ c.in_ok-taken.ensures.tries c.in_ok-taken.ensures.known after.of after.saw after.rests
          (form_there _ _ _ _ (ap (λ (x : Snapshot Behind). x.value) c.give_looked.ensures.took ∙ c.snapshot-took.ensures.value) (c.inspect-form.ensures.looked.seen ∙ c.inspect-form.ensures.looked.state.records) c.snapshot-took.ensures.lies _ c.inspect-form.ensures.looked.words c.inspect-form.ensures.finds);
    }
