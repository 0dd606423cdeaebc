use Rattle.mt_tree.proofs.Prelude.{ap, ◌∙◌, subst, Behind, opened, pass_in, Snapshot}
use Rattle.mt_base.specs.Passes as known
use Rattle.mt_tree.proofs.Keeping.{was_kept}
use Rattle.mt_tree.proofs.Trying.{tries_once}
use Rattle.mt_tree.proofs.trees.Tree.try_act_kept.Goals as goal

pub returns-clause-made : goal.returns-clause-made
returns-clause-made c =
    let looked = c.verdict-verdict.ensures.looked in
    let saw = subst (λ (p : known.Pass). known.Saw (opened c.args.self.now) p (pass_in c.verdict-verdict.new.pass)) c.in_ok-taken.ensures.known looked.saw in
    was_kept c.args.self.now (pass_in c.args.pass.now) _ (pass_in c.act_by-made.new.pass) _ _ c.args.call.now c.give_looked.result saw looked.seen c.snapshot-took.ensures.lies (ap (λ (x : Snapshot Behind). x.value) c.give_looked.ensures.took ∙ c.snapshot-took.ensures.value) c.give_looked.ensures.left
    c.act_by-made.result c.act_by-made.ensures.made

pub returns-clause-tries : goal.returns-clause-tries
returns-clause-tries c =
    let first = c.verdict-verdict.ensures.looked.rests in
    let then = c.act_by-made.ensures.rests in
    tries_once _ _ _ c.in_ok-taken.ensures.tries (record { steps = then.steps ∙ first.steps; turn = then.turn ∙ first.turn })
