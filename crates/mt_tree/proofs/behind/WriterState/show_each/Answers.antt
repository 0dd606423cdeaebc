use Rattle.mt_tree.proofs.Prelude.{rules, ap, ◌∙◌, turn_seat, map_set_same, after_show}
use Rattle.mt_tree.proofs.Settling.{one_more, shown_since, still_of, all_shown}
use Rattle.mt_tree.proofs.behind.WriterState.show_each.Goals as goal

pub loop-i-preserved : goal.loop-i-preserved
loop-i-preserved c =
    let inv = c.loop-i.invariant in
    let next = one_more c.args.tree.now c.args.self.now.pen c.loop-i.i c.args.passes.now c.loop-i.passes c.index-passes-i.result c.show.new.pass inv.2 (search rules) c.show.ensures.of
    (shown_since c.args.tree.now c.loop-i.self c.args.self.now _ _ inv.0 (c.show.ensures.shown, c.show.ensures.shape)) in
    (ap after_show c.show.ensures.state ∙ inv.0, search rules, next, map_set_same turn_seat c.loop-i.passes c.loop-i.i c.index-passes-i.result c.show.new.pass (search rules) c.show.ensures.rests.turn ∙ inv.3)

pub returns-clause-of : goal.returns-clause-of
returns-clause-of c = still_of c.args.tree.now c.args.self.now.pen c.loop-i.i c.args.passes.now c.loop-i.passes c.loop-i.invariant.2

pub returns-clause-shown : goal.returns-clause-shown
returns-clause-shown c = all_shown c.args.tree.now c.args.self.now.pen c.loop-i.i c.args.passes.now c.loop-i.passes c.loop-i.invariant.2 (search rules)
