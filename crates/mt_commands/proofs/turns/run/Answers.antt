use Rattle.mt_commands.proofs.Prelude.{rules, length, ap, arith, pass_in, turns_at}
use Rattle.mt_commands.proofs.Running.{at_start, few_now, one_turn_more, window_now}
use Rattle.mt_commands.proofs.turns.run.Goals as goal

pub loop-i-init : goal.loop-i-init
loop-i-init g c =
    (c.requires.of, c.requires.pass, omega (arith, ap (λ l. length l) c.requires.empty), search rules, search rules, at_start c.args.tree.now (pass_in c.args.pass.now) c.args.ids.now c.args.tally.now.tally c.args.drops c.requires.only c.requires.empty c.requires.window.0 c.requires.tally)

pub turn-requires-clause-few : goal.turn-requires-clause-few
turn-requires-clause-few g c =
    let inv = c.loop-i.invariant in
    few_now c.args.tree.now (pass_in c.loop-i.pass) c.loop-i.ids c.loop-i.tally.tally c.args.ids.now.lo c.args.ids.now.hi c.loop-i.i c.args.drops inv.5 (search rules) c.requires.window.1

pub turn-requires-clause-window : goal.turn-requires-clause-window
turn-requires-clause-window g c =
    let inv = c.loop-i.invariant in
    window_now c.args.tree.now (pass_in c.loop-i.pass) c.loop-i.ids c.loop-i.tally.tally c.args.ids.now.lo c.args.ids.now.hi c.loop-i.i c.args.drops inv.5 c.requires.window.1

pub loop-i-preserved : goal.loop-i-preserved
loop-i-preserved g c =
    let inv = c.loop-i.invariant in (
      c.turn.ensures.of,
      c.turn.ensures.pass,
      search rules,
      search rules,
      search rules,
      one_turn_more c.args.tree.now (pass_in c.loop-i.pass) c.loop-i.ids c.loop-i.tally.tally c.args.ids.now.lo c.args.ids.now.hi c.loop-i.i c.args.drops inv.5 (turns_at c.args.tree.now (pass_in c.turn.new.pass) c.turn.new.ids c.turn.new.tally.tally) c.turn.ensures.turned,
    )
