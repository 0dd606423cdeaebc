use Rattle.mt_check.proofs.Prelude.{◌≡◌, ◌&&◌, Bool, true, length, sym, ap, ◌∙◌, rules, nat_eq, pointwise, Rooted, rise_to, words_of, row_items, holds_no_more, words_of_parts, same_tree}
use Rattle.mt_check.proofs.Unused.{no_more}
use Rattle.mt_check.proofs.reads.items_in.Goals as goal

pub returns-clause-is : goal.returns-clause-is
returns-clause-is g c =
    let s = g.R.Rows.sheet c.args.rows.now in
    let t = s.tree.table in
    let kind = c.args.kind in
    let row = c.args.row in
    let same = same_tree s (g.R.Rows.sheet c.read_items.new.rows) c.read_items.ensures.rest in
    let many = c.len.ensures.value ∙ ap length c.read_items.ensures.items in
    let rise : c.read_items.result ≡ true = search rules in
    let rises : rise_to c.args.first c.args.last (row_items t kind row c.args.last) ≡ true = sym c.read_items.ensures.rise ∙ rise in
    c.holds_no_more.ensures.is
    ∙ (ap (λ (x : Rooted). holds_no_more x.table kind row c.len.result) same
    ∙ (ap (holds_no_more t kind row) many
    ∙ (no_more t kind row c.args.last ∙ ap (λ (b : Bool). b && pointwise nat_eq (words_of t row) (words_of_parts t kind row c.args.last)) (sym rises))))
