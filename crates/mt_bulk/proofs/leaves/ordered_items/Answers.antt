use Rattle.mt_bulk.proofs.LeafFacts.{refused_items}
use Rattle.mt_bulk.proofs.leaves.ordered_items.Goals as goal

pub returns-clause-err : goal.returns-clause-err
returns-clause-err c = refused_items c.args.kind c.args.ranges.now c.items_of.result c.items_of.ensures.err
