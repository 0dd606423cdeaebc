use Rattle.mt_tree.proofs.Prelude.{pass_in, Store}
use Rattle.mt_tree.proofs.Overwriting.{made_then, tells_then}
use Rattle.mt_tree.proofs.behind.WriterState.store_over.Goals as goal

pub returns-clause-made : goal.returns-clause-made
returns-clause-made g c =
    let told = c.tell_met-count.ensures in
    let done = c.act-made.ensures in
    made_then c.args.tree.now (pass_in c.args.pass.now) (pass_in c.tell_met-count.new.pass) (pass_in c.act-made.new.pass) c.tell_met-count.new.self c.act-made.new.self (Store c.args.first c.args.last c.args.entry) told.looked.saw told.looked.seen
    c.act-made.result done.done done.named done.answered done.worn

pub returns-clause-tells : goal.returns-clause-tells
returns-clause-tells g c =
    let told = c.tell_met-count.ensures in
    let done = c.act-made.ensures in
    tells_then c.args.tree.now (pass_in c.args.pass.now) (pass_in c.tell_met-count.new.pass) (pass_in c.act-made.new.pass) c.tell_met-count.new.self c.act-made.new.self (Store c.args.first c.args.last c.args.entry) told.looked.saw told.looked.seen
    g.P.RangePlace.shows c.args.first c.args.last c.tell_met-count.result c.args.met.now c.tell_met-count.new.met c.act-made.result told.tells done.done done.number done.worn done.seen
