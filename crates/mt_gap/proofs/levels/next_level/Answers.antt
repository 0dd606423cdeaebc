use Rattle.mt_gap.proofs.Prelude.{◌+◌, length, sym, ap, ◌∙◌, subst, arith, slice_index_or, HasRoomFor, Rooted, asked_from, children_in, ends_where, has_sure}
use Rattle.mt_gap.proofs.ChildLists.{no_child}
use Rattle.mt_gap.proofs.LevelLoops.{tree_loaded, loaded_none, loaded_next, loaded_few, level_begins, level_room, level_stops, level_on}
use Rattle.mt_gap.proofs.levels.next_level.Goals as goal

pub loop-row-init : goal.loop-row-init
loop-row-init g c = (
  loaded_none (g.R.Rows.sheet c.args.rows.now) c.args.steps.now,
  level_begins c.args.side c.args.window (g.R.Rows.sheet c.args.rows.now).tree.table c.args.asked.now c.args.next.now.items c.requires.empty,
)

pub ask_below-requires-clause-room : goal.ask_below-requires-clause-room
ask_below-requires-clause-room g c =
    let s = g.R.Rows.sheet c.args.rows.now in
    let w = c.args.window in
    let done = c.loop-row.invariant in
    let same = tree_loaded s (g.R.Rows.sheet c.loop-row.rows) c.args.steps.now c.loop-row.steps c.loop-row.row-index done.0 in
    subst (λ (t : Rooted). HasRoomFor c.args.side w c.loop-row.next.items (children_in t.table (slice_index_or c.args.asked.now c.loop-row.row-index no_child).span)) (sym same)
    (level_room c.args.side w s.tree.table c.args.asked.now c.loop-row.row-index no_child c.loop-row.next.items done.1 c.loop-row-test.true c.requires.few)

pub returns-then-ask_below-clause-items : goal.returns-then-ask_below-clause-items
returns-then-ask_below-clause-items g c =
    let s = g.R.Rows.sheet c.args.rows.now in
    let w = c.args.window in
    let done = c.loop-row.invariant in
    let same = tree_loaded s (g.R.Rows.sheet c.loop-row.rows) c.args.steps.now c.loop-row.steps c.loop-row.row-index done.0 in
    let row = (slice_index_or c.args.asked.now c.loop-row.row-index no_child).span in
    level_stops c.args.side w s.tree.table c.args.asked.now c.loop-row.row-index no_child c.loop-row.next.items done.1 c.loop-row-test.true c.ask_below.new.next.items
    (c.ask_below.ensures.items ∙ ap (λ (t : Rooted). asked_from c.args.side w c.loop-row.next.items (children_in t.table row)) same)
    (ap (λ (t : Rooted). ends_where c.args.side (has_sure w.size w.lo w.hi (children_in t.table row))) (sym same) ∙ (sym c.ask_below.ensures.ends ∙ c.if-ask_below.true))

pub returns-then-ask_below-clause-loaded : goal.returns-then-ask_below-clause-loaded
returns-then-ask_below-clause-loaded g c =
    let s = g.R.Rows.sheet c.args.rows.now in
    let u = g.R.Rows.sheet c.ask_below.new.rows in
    loaded_few s u c.args.steps.now c.tick.new.self (c.loop-row.row-index + 1) (length c.args.asked.now)
    (loaded_next s (g.R.Rows.sheet c.loop-row.rows) u c.args.steps.now c.loop-row.steps c.tick.new.self c.loop-row.row-index c.loop-row.invariant.0 c.tick.ensures c.ask_below.ensures.reads) (let within = c.loop-row-test.true in omega arith)

pub loop-row-preserved : goal.loop-row-preserved
loop-row-preserved g c =
    let s = g.R.Rows.sheet c.args.rows.now in
    let w = c.args.window in
    let done = c.loop-row.invariant in
    let same = tree_loaded s (g.R.Rows.sheet c.loop-row.rows) c.args.steps.now c.loop-row.steps c.loop-row.row-index done.0 in
    let row = (slice_index_or c.args.asked.now c.loop-row.row-index no_child).span in (
      loaded_next s (g.R.Rows.sheet c.loop-row.rows) (g.R.Rows.sheet c.ask_below.new.rows) c.args.steps.now c.loop-row.steps c.tick.new.self c.loop-row.row-index done.0 c.tick.ensures c.ask_below.ensures.reads,
      level_on c.args.side w s.tree.table c.args.asked.now c.loop-row.row-index no_child c.loop-row.next.items done.1 c.loop-row-test.true c.ask_below.new.next.items
          (c.ask_below.ensures.items ∙ ap (λ (t : Rooted). asked_from c.args.side w c.loop-row.next.items (children_in t.table row)) same)
          (ap (λ (t : Rooted). ends_where c.args.side (has_sure w.size w.lo w.hi (children_in t.table row))) (sym same) ∙ (sym c.ask_below.ensures.ends ∙ c.if-ask_below.false)),
    )
