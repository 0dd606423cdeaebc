use Rattle.mt_keep.proofs.Prelude.{rules, ap, sym, ◌∙◌, ◌∷◌, ◌≡◌, [], Some, subst, rest, same_value, holding}
use Rattle.mt_keep.proofs.Taking.{same_snap}
use Rattle.mt_keep.proofs.keep.Keep.grabbed.Goals as goal

pub exchange-requires : goal.exchange-requires
exchange-requires g c =
    let got = c.requires.away in
    let e : c.args.seat.me.1 ≡ (0, Some got.0.value) ∷ [] = ap (λ m. m.1) got.1 in
    (search rules, (Some got.0.value, e ∙ ap (λ l. (0, Some got.0.value) ∷ rest l) (sym e)))

pub returns-clause-value : goal.returns-clause-value
returns-clause-value g c =
    let got = c.requires.away in
    let same = same_value got.0.value c.unwrap-value.result c.exchange.result _ _ _ (ap (λ m. m.1) got.1) c.exchange.ensures.2 c.unwrap-value.ensures in
    subst (λ v. g.C.Placed.fits c.args.self.now.table.shared.key.place.value v) same got.2

pub returns-clause-taken : goal.returns-clause-taken
returns-clause-taken g c =
    let got = c.requires.away in
    let same = same_value got.0.value c.unwrap-value.result c.exchange.result _ _ _ (ap (λ m. m.1) got.1) c.exchange.ensures.2 c.unwrap-value.ensures in
    record {
      table = c.exchange.ensures.0 ∙ c.requires.table;
      view =
          let same_seat = ap (λ m. m.0) c.exchange.ensures.3 in
          let same_took = same_snap got.0 c.of-took.result (same ∙ sym c.of-took.ensures) in
          same_seat ∙ (ap (λ m. m.0) got.1 ∙ (λ i. holding c.args.self.now.table.shared.key (sym (ap (λ v. v.cuts) same_seat) i) (same_took i)));
    }
