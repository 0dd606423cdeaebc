use Rattle.mt_commands.proofs.Prelude.{sym, ap, ◌∙◌, opened, pass_in, steps_made}
use Rattle.mt_base.specs.Passes.{Pass}
use Rattle.mt_commands.proofs.Walking.{walked}
use Rattle.mt_commands.proofs.walks.CursorWalksLaneTree.step.Goals as goal

pub returns-clause-walked : goal.returns-clause-walked
returns-clause-walked c =
    let old = c.args.self.now in
    let new = c.advance.new.self in
    let read = c.advance.result in
    let ensured = c.advance.ensures in
    walked (opened old.tree.now) (opened new.tree.now) old.pass.ghost_name new.pass.ghost_name (pass_in old.pass.now) (pass_in new.pass.now) old.walk.epoch old.walk.at new.walk.at old.walk.max new.walk.max read.lo read.hi (steps_made old.pass.now) (steps_made new.pass.now) read.value
    (ap (λ t. opened t.now) ensured.tree) ensured.same_reference ensured.walked.read ensured.walked.section ensured.walked.at ensured.walked.max c.requires ensured.walked.takes.steps

pub returns-clause-own : goal.returns-clause-own
returns-clause-own c = c.advance.ensures.walked.epoch ∙ sym (ap (λ (p : Pass). p.standing) c.advance.ensures.walked.section.pass)
