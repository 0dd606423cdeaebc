use Rattle.mt_keep.proofs.Prelude.{rules, ap, ◌∙◌, ◌∷◌, [], cuts_in}
use Rattle.mt_keep.proofs.Taking.{given_views, released, releases_value}
use Rattle.mt_keep.proofs.keep.Keep.give.Goals as goal

pub store-requires : goal.store-requires
store-requires g c = (search rules, search rules, releases_value g.C.Placed.fits c.args.self.now.table.shared.key _ c.exchange-empty.new.seat.id c.exchange-empty.new.seat.me c.args.taken.took c.of-gave.result (search rules) (search rules))

pub into_badge-requires : goal.into_badge-requires
into_badge-requires g c =
    ap (λ m. m.1) (released c.args.self.now.table.shared.key c.exchange-empty.new.seat.me c.store.new.seat.me c.args.taken.took c.of-gave.result (search rules) c.store.ensures.2)

pub returns-clause-given : goal.returns-clause-given
returns-clause-given g c =
    let done = released c.args.self.now.table.shared.key c.exchange-empty.new.seat.me c.store.new.seat.me c.args.taken.took c.of-gave.result (search rules) c.store.ensures.2 in
    record { table = search rules; views = given_views (c.into_badge.ensures.2 ∙ ap (λ m. m.0 ∷ []) done) }

pub returns-clause-cuts : goal.returns-clause-cuts
returns-clause-cuts g c =
    let done = released c.args.self.now.table.shared.key c.exchange-empty.new.seat.me c.store.new.seat.me c.args.taken.took c.of-gave.result (search rules) c.store.ensures.2 in
    ap cuts_in (c.into_badge.ensures.2 ∙ ap (λ m. m.0 ∷ []) done) ∙ ap (λ m. m.0.cuts) c.exchange-empty.ensures.3
