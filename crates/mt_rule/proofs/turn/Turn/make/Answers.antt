use Rattle.mt_rule.proofs.Prelude.{ap, sym, ◌∙◌, ◌∷◌, ◌++◌, [], Some, subst, All, Identity, IsPassOf, identity_of, served}
use Rattle.mt_rule.proofs.Turning.{turn_starts_with}
use Rattle.mt_rule.proofs.turn.Turn.make.Goals as goal

pub new-requires : goal.new-requires
new-requires g c = turn_starts_with g.C.OfTable.table c.of-key.result c.args.value c.push_reserved.new.self.items (c.requires.value ∙ ap identity_of (sym c.of-key.ensures)) (c.push_reserved.ensures.items ∙ ap (λ l. l ++ Some c.args.value ∷ []) c.in_ok-slots.ensures.items)

pub seat_all-requires-clause-passes : goal.seat_all-requires-clause-passes
seat_all-requires-clause-passes g c =
    let serves = ap served c.in-Ok.ensures.ok.5 ∙ ap identity_of c.of-key.ensures in
    subst (λ (t : Identity). All (IsPassOf t) c.args.passes.now) (sym serves) c.requires.passes

pub returns-in-Ok-clause-serves : goal.returns-in-Ok-clause-serves
returns-in-Ok-clause-serves g c = ap served c.in-Ok.ensures.ok.5 ∙ ap identity_of c.of-key.ensures

pub returns-in-Ok-clause-of : goal.returns-in-Ok-clause-of
returns-in-Ok-clause-of g c =
    let serves = ap served c.in-Ok.ensures.ok.5 ∙ ap identity_of c.of-key.ensures in
    subst (λ (t : Identity). All (IsPassOf t) c.seat_all.new.passes) serves c.seat_all.ensures.of
