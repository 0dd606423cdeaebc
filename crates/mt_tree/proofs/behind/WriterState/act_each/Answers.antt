use Rattle.mt_tree.proofs.Prelude.{rules, arith, ◌+◌, ◌∙◌, length, pass_in}
use Rattle.mt_tree.proofs.Batching.{all_made, next_made, none_made, still_long}
use Rattle.mt_tree.proofs.behind.WriterState.act_each.Goals as goal

pub loop-i-init : goal.loop-i-init
loop-i-init g c = record {
  table = c.requires.table;
  all = search rules;
  ended = omega arith;
  of = c.requires.pass;
  rests = search rules;
  making = none_made g.A.Request.asks g.A.Request.told c.args.tree.now (length c.args.self.now.pen.history + 1) (pass_in c.args.pass.now) c.args.asked.now;
}

pub act_next-done-requires-clause-room : goal.act_next-done-requires-clause-room
act_next-done-requires-clause-room g c =
    let inv = c.loop-i.invariant in
    let long = still_long g.A.Request.asks g.A.Request.told c.args.tree.now (length c.args.self.now.pen.history + 1) c.loop-i.i (pass_in c.args.pass.now) (pass_in c.loop-i.pass) c.args.asked.now c.loop-i.asked inv.making in
    omega (arith, inv.ended, inv.all, long, c.requires.room)

pub loop-i-preserved : goal.loop-i-preserved
loop-i-preserved g c =
    let inv = c.loop-i.invariant in
    let next = c.act_next-done.ensures in
    record {
      table = next.table;
      all = search rules;
      ended = omega (arith, next.number, next.count, inv.ended);
      of = next.of;
      rests = record { steps = next.rests.steps ∙ inv.rests.steps; turn = next.rests.turn ∙ inv.rests.turn };
      making = next_made g.A.Request.asks g.A.Request.told c.args.tree.now (length c.args.self.now.pen.history + 1) c.loop-i.i (pass_in c.args.pass.now) (pass_in c.loop-i.pass) (pass_in c.act_next-done.new.pass) c.args.asked.now c.loop-i.asked _ _
          c.tell.new.self c.call-call.result c.act_next-done.result inv.making (search rules) c.call-call.ensures c.tell.ensures next.made (omega (arith, next.number, inv.ended));
    }

pub returns-clause-made : goal.returns-clause-made
returns-clause-made g c =
    let inv = c.loop-i.invariant in
    let long = still_long g.A.Request.asks g.A.Request.told c.args.tree.now (length c.args.self.now.pen.history + 1) c.loop-i.i (pass_in c.args.pass.now) (pass_in c.loop-i.pass) c.args.asked.now c.loop-i.asked inv.making in
    all_made g.A.Request.asks g.A.Request.told c.args.tree.now (length c.args.self.now.pen.history + 1) c.loop-i.i (pass_in c.args.pass.now) (pass_in c.loop-i.pass) c.args.asked.now c.loop-i.asked inv.making (omega (arith, inv.all, long))
