use Rattle.mt_bulk.proofs.Prelude.{length, arith}
use Rattle.mt_bulk.proofs.LeafFacts.{few_leaves, refused_over, some_ends}
use Rattle.mt_bulk.proofs.leaves.count_all.Goals as goal

pub rows_over-requires-clause-some : goal.rows_over-requires-clause-some
rows_over-requires-clause-some c = (some_ends c.args.kind c.args.ranges.now c.args.items.now c.args.ends.now c.requires.some c.requires.good c.requires.items c.requires.ends).0

pub rows_over-requires-clause-room : goal.rows_over-requires-clause-room
rows_over-requires-clause-room c =
    let low = (some_ends c.args.kind c.args.ranges.now c.args.items.now c.args.ends.now c.requires.some c.requires.good c.requires.items c.requires.ends).1 in
    let room = c.requires.room in
    omega arith

pub returns-clause-leaves : goal.returns-clause-leaves
returns-clause-leaves c = few_leaves c.args.kind (length c.args.ends.now) c.rows_over.result c.rows_over.ensures.ok c.rows_over.ensures.few

pub returns-clause-err : goal.returns-clause-err
returns-clause-err c = refused_over c.args.kind c.args.ranges.now c.args.items.now c.args.ends.now c.requires.some c.requires.good c.requires.items c.requires.ends c.rows_over.result c.rows_over.ensures.err
