use Rattle.mt_tree.proofs.Prelude.{◌∷◌, map, ◌∙◌, subst, pass_in, turn_seat, HaveMet}
use Rattle.mt_base.specs.Passes as known
use Rattle.mt_tree.proofs.trees.Tree.try_meet.Goals as goal

pub returns-clause-met : goal.returns-clause-met
returns-clause-met c =
    let met = map pass_in (c.meet-calls.new.pass ∷ c.meet-calls.new.others) in
    subst (λ (p : known.Pass). HaveMet c.args.self.now (p ∷ map pass_in c.args.others.now) met c.meet-calls.result) c.in_ok-taken.ensures.known c.meet-calls.ensures.met

pub returns-clause-tries : goal.returns-clause-tries
returns-clause-tries c = c.meet-calls.ensures.turns ∙ (λ i. c.in_ok-taken.ensures.tries.turn i ∷ map turn_seat c.args.others.now)
