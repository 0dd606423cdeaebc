use Rattle.mt_splice.proofs.Prelude.{◌≡◌, ◌++◌, ap, ◌∙◌, Width, slots_of}
use Rattle.mt_splice.proofs.Gathering.{whole_row}
use Rattle.mt_splice.proofs.widening.row_items.Goals as goal

pub returns-clause-items : goal.returns-clause-items
returns-clause-items g c =
    let t = (g.R.Rows.sheet c.args.rows.now).tree.table in
    let slots : c.slots-slots.result ≡ slots_of t.width c.args.kind = c.slots-slots.ensures ∙ ap (λ (w : Width). slots_of w c.args.kind) c.width.ensures in
    c.push_items.ensures.items ∙ (λ i. c.new-run.ensures i ++ whole_row t c.args.kind c.args.step.now.row c.args.step.now.max c.slots-slots.result slots i)
