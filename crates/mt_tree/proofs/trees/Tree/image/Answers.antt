use Rattle.mt_tree.proofs.Prelude.{ap, ◌∙◌, subst, IfOk-weaker, Behind, opened, pass_in, Snapshot}
use Rattle.mt_base.specs.Passes as known
use Rattle.mt_tree.proofs.Forms.{map_imaged}
use Rattle.mt_tree.proofs.Looking.{image_there}
use Rattle.mt_tree.proofs.Trying.{tries_once}
use Rattle.mt_tree.proofs.trees.Tree.image.Goals as goal

pub returns-clause-saw : goal.returns-clause-saw
returns-clause-saw g c = subst (λ (p : known.Pass). known.Saw (opened c.args.self.now) p (pass_in c.inspect-image.new.pass)) c.take-taken.ensures.known c.inspect-image.ensures.looked.saw

pub returns-clause-tries : goal.returns-clause-tries
returns-clause-tries g c = tries_once _ _ _ c.take-taken.ensures.tries c.inspect-image.ensures.looked.rests

pub returns-clause-map : goal.returns-clause-map
returns-clause-map g c = IfOk-weaker c.inspect-image.result _ _ (λ bytes image. map_imaged _ _ _ _ bytes.items c.inspect-image.ensures.looked.words image) c.inspect-image.ensures.finds

pub returns-clause-image : goal.returns-clause-image
returns-clause-image g c =
    image_there c.args.self.now (pass_in c.inspect-image.new.pass) _ c.give_looked.result (ap (λ (x : Snapshot Behind). x.value) c.give_looked.ensures.took ∙ c.snapshot-took.ensures.value) (c.inspect-image.ensures.looked.seen ∙ c.inspect-image.ensures.looked.state.records) c.snapshot-took.ensures.lies _ c.inspect-image.ensures.looked.words c.inspect-image.ensures.finds
