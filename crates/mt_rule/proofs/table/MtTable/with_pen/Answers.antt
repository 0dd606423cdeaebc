use Rattle.mt_rule.proofs.Prelude.{◌≡◌, [], ap, sym, ◌∙◌, Me, sheet_in, View, shape_told, opening_view, new_pen, pen_of}
use Rattle.mt_rule.proofs.Openings.{starts_so}
use Rattle.mt_rule.proofs.table.MtTable.with_pen.Goals as goal

pub of_words-requires : goal.of_words-requires
of_words-requires c = starts_so c.args.told.now c.args.words.now c.requires.may c.requires.words

pub returns-clause-shape : goal.returns-clause-shape
returns-clause-shape c = ap shape_told c.in_ok-table.ensures.5

pub returns-clause-pen : goal.returns-clause-pen
returns-clause-pen c =
    let made = c.in_ok-table.ensures in
    let told = c.args.told.now in
    let at : c.of_seat.result.seat.me ≡ (opening_view told, []) = ap (λ s. s.me) c.of_seat.ensures ∙ made.4 in
    let view = ap (λ (m : Me (Unit {0}) View). m.0) at in
    let key = ap shape_told (sym made.5) in (
      (λ i. record { table = (ap (λ s. s.table_id) c.of_seat.ensures ∙ made.2) i; shape = (ap (λ (v : View). (pen_of v).shape) view ∙ key) i }),
      ap (λ (v : View). v.pass) view,
      ap pen_of view ∙ (λ i. new_pen (key i) (sheet_in told.rows.value).tree),
    )
