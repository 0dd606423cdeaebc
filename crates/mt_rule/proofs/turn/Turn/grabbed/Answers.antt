use Rattle.mt_rule.proofs.Prelude.{rules, ap, sym, ◌∙◌, ◌∷◌, ◌≡◌, [], Some, rest}
use Rattle.mt_rule.proofs.Turning.{same_value}
use Rattle.mt_rule.proofs.turn.Turn.grabbed.Goals as goal

pub exchange-requires : goal.exchange-requires
exchange-requires g c =
    let got = c.requires.away in
    let e : c.args.seat.me.1 ≡ (0, Some got.0) ∷ [] = ap (λ m. m.1) got.1 in
    (search rules, (Some got.0, e ∙ ap (λ l. (0, Some got.0) ∷ rest l) (sym e)))

pub returns-clause-value : goal.returns-clause-value
returns-clause-value g c =
    let got = c.requires.away in
    let same = same_value got.0 c.unwrap-value.result c.exchange.result _ _ _ (ap (λ m. m.1) got.1) c.exchange.ensures.2 c.unwrap-value.ensures in
    ap g.C.OfTable.table (sym same) ∙ got.2
