use Rattle.mt_tree.proofs.Prelude.{ap, ◌∙◌, subst, Behind, opened, pass_in, Snapshot}
use Rattle.mt_base.specs.Passes as known
use Rattle.mt_tree.proofs.Looking.{form_there}
use Rattle.mt_tree.proofs.Trying.{tries_once}
use Rattle.mt_tree.proofs.trees.Tree.check.Goals as goal

pub returns-clause-saw : goal.returns-clause-saw
returns-clause-saw g c = subst (λ (p : known.Pass). known.Saw (opened c.args.self.now) p (pass_in c.inspect-form.new.pass)) c.take-taken.ensures.known c.inspect-form.ensures.looked.saw

pub returns-clause-tries : goal.returns-clause-tries
returns-clause-tries g c = tries_once _ _ _ c.take-taken.ensures.tries c.inspect-form.ensures.looked.rests

pub returns-clause-form : goal.returns-clause-form
returns-clause-form g c =
    form_there _ _ _ _ (ap (λ (x : Snapshot Behind). x.value) c.give_looked.ensures.took ∙ c.snapshot-took.ensures.value) (c.inspect-form.ensures.looked.seen ∙ c.inspect-form.ensures.looked.state.records) c.snapshot-took.ensures.lies _ c.inspect-form.ensures.looked.words c.inspect-form.ensures.finds
