use Rattle.mt_rule.proofs.Prelude.{rules, ◌∷◌, [], ap, ◌∙◌}
use Rattle.mt_rule.proofs.Turning.{sits, sits_beside}
use Rattle.mt_rule.proofs.turn.Turn.seat_one.Goals as goal

pub split_seat-requires : goal.split_seat-requires
split_seat-requires g c = (search rules, search rules, sits g.C.OfTable.table c.args.self.now.table.shared.key c.args.first.now.id c.args.first.now.me.0 c.args.first.now.me.0.tries c.requires.view)

pub returns-clause-view : goal.returns-clause-view
returns-clause-view g c = ap (λ m. m.0) c.split_seat.ensures.2

pub returns-clause-bare : goal.returns-clause-bare
returns-clause-bare g c = ap (λ m. m.1) c.split_seat.ensures.2 ∙ c.requires.bare

pub returns-clause-seated : goal.returns-clause-seated
returns-clause-seated g c = record {
  table = search rules;
  views = sits_beside c.args.self.now.table.shared.key c.args.first.now.me.0 _ c.requires.view (c.into_badge.ensures.2 ∙ ap (λ m. m.0 ∷ []) c.split_seat.ensures.4);
}
