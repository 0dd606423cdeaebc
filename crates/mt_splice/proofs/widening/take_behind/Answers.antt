use Rattle.mt_splice.proofs.Prelude.{length, ap, arith}
use Rattle.mt_splice.proofs.Gathering.{few_in_row}
use Rattle.mt_splice.proofs.widening.take_behind.Goals as goal

pub append-requires : goal.append-requires
append-requires g c =
    let few = few_in_row (g.R.Rows.sheet c.args.rows.now).tree.table c.args.kind c.args.step.now.row c.args.step.now.max in
    let same = ap length c.row_items-beside.ensures.items in
    omega (arith, few, same, c.requires.room)
