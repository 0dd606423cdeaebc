use Rattle.mt_splice.proofs.Children.{item_is, not_none, number_is}
use Rattle.mt_splice.proofs.burying.load_child.Goals as goal

pub unreachable-requires : goal.unreachable-requires
unreachable-requires g c =
    let t = (g.R.Rows.sheet c.args.rows.now).tree in
    let there = item_is t c.args.kind c.args.above c.load_item-item.result c.requires c.load_item-item.ensures.item c.load_item-item.ensures.last in
    not_none t.table c.args.kind c.args.above c.load_item-item.result.word there.0 c.requires.named c.row_of.result c.row_of.ensures.row c.in-None.is

pub returns-clause-row : goal.returns-clause-row
returns-clause-row g c =
    let t = (g.R.Rows.sheet c.args.rows.now).tree in
    let there = item_is t c.args.kind c.args.above c.load_item-item.result c.requires c.load_item-item.ensures.item c.load_item-item.ensures.last in
    number_is t.table c.args.kind c.args.above c.load_item-item.result.word there.0 c.requires.named c.in-Some.row c.in-Some.ensures.row

pub returns-clause-last : goal.returns-clause-last
returns-clause-last g c =
    let t = (g.R.Rows.sheet c.args.rows.now).tree in
    (item_is t c.args.kind c.args.above c.load_item-item.result c.requires c.load_item-item.ensures.item c.load_item-item.ensures.last).1
