use Rattle.mt_tree.proofs.Prelude.{IsImagedBehind, ap, ◌∙◌, IfOk-weaker, Behind, pass_in, Snapshot}
use Rattle.mt_tree.proofs.Forms.{map_imaged}
use Rattle.mt_tree.proofs.Looking.{image_there}
use Rattle.mt_tree.proofs.Trying.{found_at}
use Rattle.mt_tree.proofs.trees.Tree.try_image.Goals as goal

pub returns-clause-map : goal.returns-clause-map
returns-clause-map c = IfOk-weaker c.inspect-image.result _ _ (λ bytes image. map_imaged _ _ _ _ bytes.items c.inspect-image.ensures.looked.words image) c.inspect-image.ensures.finds

pub returns-clause-found : goal.returns-clause-found
returns-clause-found c =
    let after = c.inspect-image.ensures.looked in
    found_at IsImagedBehind _ _ _ _ _ c.in_ok-taken.ensures.tries c.in_ok-taken.ensures.known after.of after.saw after.rests
    (image_there c.args.self.now (pass_in c.inspect-image.new.pass) _ c.give_looked.result (ap (λ (x : Snapshot Behind). x.value) c.give_looked.ensures.took ∙ c.snapshot-took.ensures.value) (c.inspect-image.ensures.looked.seen ∙ c.inspect-image.ensures.looked.state.records) c.snapshot-took.ensures.lies _ c.inspect-image.ensures.looked.words c.inspect-image.ensures.finds)
