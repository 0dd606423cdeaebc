use Rattle.mt_check.proofs.Prelude.{Some, slice_index_or, ◌∙◌}
use Rattle.mt_check.proofs.Slots.{span_fits, slot_span}
use Rattle.mt_check.proofs.reads.span_at.Goals as goal

pub behind-requires : goal.behind-requires
behind-requires c = span_fits c.args.first c.args.slot c.args.items.now (record { last = 0; word = 0; gap = 0 }) c.requires.rise c.if-slot-eq0.false c.requires.slot

pub returns : goal.returns
returns c =
    let item = slice_index_or c.args.items.now c.args.slot (record { last = 0; word = 0; gap = 0 }) in
    (λ i. Some (record { first = c.behind.ensures i; last = item.last; word = item.word })) ∙ slot_span c.args.first c.args.slot c.args.items.now (record { last = 0; word = 0; gap = 0 }) c.if-slot-eq0.false c.requires.slot
