use Rattle.mt_rule.proofs.Prelude.{rules, ap, sym, ◌∙◌, ◌≡◌, seated, tries_of}
use Rattle.mt_rule.proofs.Turning.{sits, only_view}
use Rattle.mt_rule.proofs.turn.Turn.seat.Goals as goal

pub into_seat-seat-requires : goal.into_seat-seat-requires
into_seat-seat-requires g c = (seated c.args.self.now.table.shared.key (tries_of c.args.pass.now), ap (λ b. b.views) c.replace-badge.ensures.value ∙ c.requires.seated.views)

pub split_seat-other-requires : goal.split_seat-other-requires
split_seat-other-requires g c =
    let is : c.into_seat-seat.result.me.0 ≡ seated c.args.self.now.table.shared.key (tries_of c.args.pass.now) =
    only_view _ _ (sym c.into_seat-seat.ensures.2 ∙ (ap (λ b. b.views) c.replace-badge.ensures.value ∙ c.requires.seated.views)) in
    (search rules, search rules, sits g.C.OfTable.table c.args.self.now.table.shared.key c.into_seat-seat.result.id c.into_seat-seat.result.me.0 (tries_of c.args.pass.now) is)
