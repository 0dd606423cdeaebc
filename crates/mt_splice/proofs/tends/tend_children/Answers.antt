use Rattle.mt_splice.proofs.Prelude.{◌≡◌, ℕ, ◌+◌, ap, sym, ◌∙◌, Some, Width, named_row, column, Rooted, slots_of, child_word}
use Rattle.mt_splice.proofs.Tending.{one_more_tended}
use Rattle.mt_splice.proofs.tends.tend_children.Goals as goal

pub loop-slot-preserved : goal.loop-slot-preserved
loop-slot-preserved g c =
    let now = (g.R.Rows.sheet c.loop-slot.rows).tree.table in
    let slots : c.slots-slots.result ≡ slots_of now.width c.args.kind = c.slots-slots.ensures ∙ ap (λ (w : Width). slots_of w c.args.kind) (c.width.ensures ∙ sym (ap (λ (v : Rooted). v.table.width) c.loop-slot.invariant.tended.tree)) in
    let word : c.load-word.result ≡ child_word now c.args.kind c.args.row c.loop-slot.slot = c.load-word.ensures.word ∙ ap (λ (n : ℕ). column now c.args.row (n + c.loop-slot.slot)) slots in
    let named : Some c.in-Some.child ≡ named_row (child_word now c.args.kind c.args.row c.loop-slot.slot) = c.in-Some.ensures.row ∙ ap named_row word in
    rw (c.tend.ensures, c.parent_word.ensures)
    (one_more_tended (g.R.Rows.sheet c.args.rows.now) (g.R.Rows.sheet c.loop-slot.rows) c.args.kind c.args.row c.args.count c.loop-slot.slot (g.met.R.Rows.whole c.args.rows.now) c.requires c.loop-slot-test.true c.loop-slot.invariant
    (g.R.Rows.sheet c.load-word.new.self) c.load-word.ensures.rest c.in-Some.child named)
