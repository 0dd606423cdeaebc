use Rattle.mt_read.proofs.Prelude.{◌-◌, ◌∙◌, ap, refl, arith, slice_index, part_of, here, row_here}
use Rattle.mt_read.proofs.Finding.{spot_more, slots_counted, column_is}
use Rattle.mt_read.proofs.seeks.load_in.Goals as goal

pub load_pivot-requires-clause-pivot : goal.load_pivot-requires-clause-pivot
load_pivot-requires-clause-pivot g c =
    let some = c.requires.some in
    let low = c.requires.pivot in
    let count = slots_counted (part_of c.args.pass.now) (row_here (part_of c.args.pass.now) c.args.spot) c.requires.on _ refl in
    (c.args.col - 1, omega arith, omega arith)

pub returns-clause-on : goal.returns-clause-on
returns-clause-on g c = spot_more _ _ _ c.load_pivot.ensures.told.reads c.requires.on

pub returns-clause-word : goal.returns-clause-word
returns-clause-word g c =
    let q = part_of c.args.pass.now in
    c.load_pivot.ensures.told.found_is ∙ ap (slice_index (here q).copy) (column_is q (row_here (part_of c.args.pass.now) c.args.spot) c.requires.on c.args.col)
