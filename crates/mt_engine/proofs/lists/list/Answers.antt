use Rattle.mt_engine.proofs.Prelude.{sym, ◌∙◌}
use Rattle.mt_engine.proofs.Walking.{none_listed, one_more_listed, fewer_left, all_listed}
use Rattle.mt_engine.proofs.lists.list.Goals as goal

pub loop-range-init : goal.loop-range-init
loop-range-init g c = none_listed (g.R.Rows.sheet c.args.rows.now) c.requires.tree.0 c.from_index-walk.result c.new-ranges.result.items c.requires.tree.1 c.from_index-walk.ensures.next c.from_index-walk.ensures.last c.new-ranges.ensures.items

pub loop-range-smaller : goal.loop-range-smaller
loop-range-smaller g c =
    fewer_left (g.R.Rows.sheet c.args.rows.now) (g.R.Rows.sheet c.loop-range.rows) c.requires.tree.0 c.requires.tree.1 c.loop-range.walk c.loop-range.ranges.items c.loop-range.invariant c.in-Some.range c.in-Some.ensures.range c.next_range.new.walk c.in-Some.ensures.next

pub loop-range-preserved : goal.loop-range-preserved
loop-range-preserved g c =
    one_more_listed (g.R.Rows.sheet c.args.rows.now) (g.R.Rows.sheet c.loop-range.rows) c.requires.tree.0 c.requires.tree.1 c.loop-range.walk c.loop-range.ranges.items c.loop-range.invariant c.in-Some.range c.in-Some.ensures.range c.next_range.new.walk c.in-Some.ensures.next
    (g.R.Rows.sheet c.next_range.new.rows) c.in-Some.ensures.rest c.in-Some.ensures.walk c.push.new.self.items c.in_ok-push.ensures.items

pub returns-clause-items : goal.returns-clause-items
returns-clause-items g c =
    all_listed (g.R.Rows.sheet c.args.rows.now) (g.R.Rows.sheet c.loop-range.rows) c.requires.tree.0 c.requires.tree.1 c.loop-range.walk c.loop-range.ranges.items c.loop-range.invariant (sym c.in_default.is ∙ c.next_range.ensures.range)
