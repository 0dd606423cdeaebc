use Rattle.mt_read.proofs.Prelude.{◌≡◌, ◌+◌, ◌∙◌, ap, arith, copy_of, row_at, last_at_end, last_at_pivot, slot_fits, column, here, kind_of, part_of, row_here}
use Rattle.mt_read.proofs.Finding.{is_sought, count_is}
use Rattle.mt_read.proofs.seeks.last_in.Goals as goal

pub returns-then-slot-last_slot-clause-last : goal.returns-then-slot-last_slot-clause-last
returns-then-slot-last_slot-clause-last g c =
    let q = part_of c.args.pass.now in
    let x = here q in
    let row = row_here q c.args.spot in
    let count = count_is q row c.requires.on c.slots-last_slot.result c.slots-last_slot.ensures in
    let end = c.if-slot-last_slot.true in
    c.requires.max ∙ last_at_end (copy_of x) (row_at x.row (kind_of q x) x.extent.first x.extent.last) (is_sought q row c.requires.on) c.args.slot c.requires.slot (omega arith)

pub returns-else-slot-last_slot-clause-last : goal.returns-else-slot-last_slot-clause-last
returns-else-slot-last_slot-clause-last g c =
    let q = part_of c.args.pass.now in
    let x = here q in
    let row = row_here q c.args.spot in
    let there = row_at x.row (kind_of q x) x.extent.first x.extent.last in
    let law = is_sought q row c.requires.on in
    let count = count_is q row c.requires.on c.slots-last_slot.result c.slots-last_slot.ensures in
    let fits = slot_fits (copy_of x) there law c.args.slot c.requires.slot in
    let not_last = c.if-slot-last_slot.false in let least = c.min.ensures in
    let same : c.min.result ≡ 1 + c.args.slot = omega arith in
    c.load_in-pivot.ensures.word ∙ (ap (column (copy_of x) x.row) same ∙ last_at_pivot (copy_of x) there law c.args.slot c.requires.slot (omega arith))
