use Rattle.mt_path.proofs.Prelude.{◌+◌, ap, ◌∙◌, arith, Width, slots_of, few_slots_of, slots_of-columns}
use Rattle.mt_path.proofs.Loads.{one_read}
use Rattle.mt_path.proofs.Kept.{column_place}
use Rattle.mt_path.proofs.Groups.{sought, slot_fits, last_at_pivot, last_at_end}
use Rattle.mt_path.proofs.rows.last_in.Goals as goal

pub overflow_add-slot : goal.overflow_add-slot
overflow_add-slot g c =
    let t = (g.R.Rows.sheet c.args.rows.now).tree.table in
    let fits = slot_fits t c.args.row (sought t c.args.row c.requires.lawful) c.args.slot c.requires.slot in
    omega (arith, few_slots_of t.width c.args.row.kind)

pub returns-then-slot-slots-clause-last : goal.returns-then-slot-slots-clause-last
returns-then-slot-slots-clause-last g c =
    let t = (g.R.Rows.sheet c.args.rows.now).tree.table in
    let count = c.slots.ensures ∙ ap (λ (w : Width). slots_of w c.args.row.kind) c.requires.width in
    let inner = c.if-slot-slots.true in
    c.load-pivot.ensures.word ∙ last_at_pivot t c.args.row (sought t c.args.row c.requires.lawful) c.args.slot c.requires.slot (omega arith)

pub returns-else-slot-slots-clause-last : goal.returns-else-slot-slots-clause-last
returns-else-slot-slots-clause-last g c =
    let t = (g.R.Rows.sheet c.args.rows.now).tree.table in
    let count = c.slots.ensures ∙ ap (λ (w : Width). slots_of w c.args.row.kind) c.requires.width in
    let end = c.if-slot-slots.false in
    last_at_end t c.args.row (sought t c.args.row c.requires.lawful) c.args.slot c.requires.slot (omega arith)

pub overflow_add-slot-2 : goal.overflow_add-slot-2
overflow_add-slot-2 g c =
    let t = (g.R.Rows.sheet c.args.rows.now).tree.table in
    let fits = slot_fits t c.args.row (sought t c.args.row c.requires.lawful) c.args.slot c.requires.slot in
    omega (arith, few_slots_of t.width c.args.row.kind)

pub load-pivot-requires : goal.load-pivot-requires
load-pivot-requires g c =
    let t = (g.R.Rows.sheet c.args.rows.now).tree in
    let fits = slot_fits t.table c.args.row (sought t.table c.args.row c.requires.lawful) c.args.slot c.requires.slot in
    column_place t c.args.row.number (1 + c.args.slot) c.requires.row (omega (arith, slots_of-columns t.table.width c.args.row.kind))

pub returns-else-slot-slots-clause-reads : goal.returns-else-slot-slots-clause-reads
returns-else-slot-slots-clause-reads g c = one_read _ _ c.load-pivot.ensures.rest
