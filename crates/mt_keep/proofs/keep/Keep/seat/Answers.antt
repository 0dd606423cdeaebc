use Rattle.mt_keep.proofs.Prelude.{rules, ap, sym, ◌∙◌, ◌≡◌, ◌∷◌, [], cuts_in, cuts_of, one_further, waiting}
use Rattle.mt_keep.proofs.Taking.{sits, only_sight, seated_views}
use Rattle.mt_keep.proofs.keep.Keep.seat.Goals as goal

pub into_seat-seat-requires : goal.into_seat-seat-requires
into_seat-seat-requires g c = (waiting c.args.self.now.table.shared.key (cuts_of c.args.chair.now), ap (λ b. b.views) c.replace-badge.ensures.value ∙ c.requires.views)

pub split_seat-other-requires : goal.split_seat-other-requires
split_seat-other-requires g c =
    let was : c.into_seat-seat.result.me.0 ≡ waiting c.args.self.now.table.shared.key (cuts_of c.args.chair.now) =
    only_sight _ _ (sym c.into_seat-seat.ensures.2 ∙ (ap (λ b. b.views) c.replace-badge.ensures.value ∙ c.requires.views)) in
    let is : c.into_seat-seat.result.me.0 ≡ waiting c.args.self.now.table.shared.key c.into_seat-seat.result.me.0.cuts =
    was ∙ ap (waiting c.args.self.now.table.shared.key) (sym (ap (λ v. v.cuts) was)) in
    (search rules, search rules, sits g.C.Placed.fits c.args.self.now.table.shared.key c.into_seat-seat.result.id c.into_seat-seat.result.me.0 is)

pub returns-clause-chair : goal.returns-clause-chair
returns-clause-chair g c =
    let was : c.into_seat-seat.result.me.0 ≡ waiting c.args.self.now.table.shared.key (cuts_of c.args.chair.now) =
    only_sight _ _ (sym c.into_seat-seat.ensures.2 ∙ (ap (λ b. b.views) c.replace-badge.ensures.value ∙ c.requires.views)) in
    record { table = search rules; views = seated_views (c.into_badge.ensures.2 ∙ (ap (λ m. m.0 ∷ []) c.split_seat-other.ensures.2 ∙ ap (λ v. one_further v ∷ []) was)) }

pub returns-clause-cuts : goal.returns-clause-cuts
returns-clause-cuts g c =
    let was : c.into_seat-seat.result.me.0 ≡ waiting c.args.self.now.table.shared.key (cuts_of c.args.chair.now) =
    only_sight _ _ (sym c.into_seat-seat.ensures.2 ∙ (ap (λ b. b.views) c.replace-badge.ensures.value ∙ c.requires.views)) in
    ap cuts_in (c.into_badge.ensures.2 ∙ (ap (λ m. m.0 ∷ []) c.split_seat-other.ensures.2 ∙ ap (λ v. one_further v ∷ []) was))

pub returns-clause-seat : goal.returns-clause-seat
returns-clause-seat g c =
    let was : c.into_seat-seat.result.me.0 ≡ waiting c.args.self.now.table.shared.key (cuts_of c.args.chair.now) =
    only_sight _ _ (sym c.into_seat-seat.ensures.2 ∙ (ap (λ b. b.views) c.replace-badge.ensures.value ∙ c.requires.views)) in
    let views = c.into_badge.ensures.2 ∙ (ap (λ m. m.0 ∷ []) c.split_seat-other.ensures.2 ∙ ap (λ v. one_further v ∷ []) was) in
    c.split_seat-other.ensures.4 ∙ (ap (λ v. (one_further v, [])) was ∙ ap (λ k. (waiting c.args.self.now.table.shared.key k, [])) (sym (ap cuts_in views)))
