use Rattle.mt_commands.proofs.Prelude.{sym, ap, ◌∙◌, opened, steps_made}
use Rattle.mt_base.specs.Passes.{Pass}
use Rattle.mt_commands.proofs.walks.CursorWalksLaneTree.close.Goals as goal

pub returns-clause-closed : goal.returns-clause-closed
returns-clause-closed c =
    let ensured = c.halt.ensures in
    λ i. record { history = opened (ensured.tree i).now; reference = ensured.same_reference i; pass = ensured.halted.closed i; steps = steps_made c.halt.new.self.pass.now; at = (ensured.halted.same i).at; max = (ensured.halted.same i).max }

pub returns-clause-own : goal.returns-clause-own
returns-clause-own c = ap (λ w. w.epoch) c.halt.ensures.halted.same ∙ sym (ap (λ (p : Pass). p.standing) c.halt.ensures.halted.closed)
