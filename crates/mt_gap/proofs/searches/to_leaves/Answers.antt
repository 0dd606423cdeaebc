use Rattle.mt_gap.proofs.Prelude.{All, IsTrue, List, [], length, sym, ap, ◌∙◌, subst, rules, Child, children_below, HasRoomFor, LoadedUpTo, MayLoad, AreLeaves, asked_for, pick_for, sought_in}
use Rattle.mt_gap.proofs.Descents.{all_may_load, arrives, come_root, level_come, level_few}
use Rattle.mt_gap.proofs.searches.to_leaves.Goals as goal

pub loop-init : goal.loop-init
loop-init g c = come_root (g.R.Rows.sheet c.args.rows.now) c.args.window (pick_for c.args.side c.args.window) c.args.steps.now c.push.new.self.items c.requires.tree c.requires.some (search rules)

pub returns-then-are_leaves : goal.returns-then-are_leaves
returns-then-are_leaves g c =
    let leaves : AreLeaves c.loop.asked.items = subst AreLeaves c.deref.ensures.0 (c.are_leaves.ensures.0 (search rules)) in
    arrives (g.R.Rows.sheet c.args.rows.now) (g.R.Rows.sheet c.loop.rows) (pick_for c.args.side c.args.window) c.args.window (sought_in c.args.side c.args.window (g.R.Rows.sheet c.args.rows.now).tree) c.args.steps.now c.loop.steps c.loop.counter c.loop.asked.items c.loop.invariant leaves

pub next_level-requires-clause-rows : goal.next_level-requires-clause-rows
next_level-requires-clause-rows g c =
    subst (λ (l : List Child). All (λ (x : Child). MayLoad (g.R.Rows.sheet c.loop.rows).tree x.span) l) (sym c.deref-in-loop.ensures.0)
    (all_may_load (g.R.Rows.sheet c.args.rows.now) (g.R.Rows.sheet c.loop.rows) (pick_for c.args.side c.args.window) c.args.window (sought_in c.args.side c.args.window (g.R.Rows.sheet c.args.rows.now).tree) c.args.steps.now c.loop.steps c.loop.counter c.loop.asked.items c.loop.invariant)

pub next_level-requires-clause-few : goal.next_level-requires-clause-few
next_level-requires-clause-few g c =
    let not : AreLeaves c.loop.asked.items → ⊥ = λ leaves. let is : IsTrue c.are_leaves.result = c.are_leaves.ensures.1 (subst AreLeaves (sym c.deref.ensures.0) leaves) in absurd (search rules) in
    subst (λ (l : List Child). HasRoomFor c.args.side c.args.window [] (children_below (g.R.Rows.sheet c.loop.rows).tree.table l)) (sym c.deref-in-loop.ensures.0)
    (level_few c.args.side (g.R.Rows.sheet c.args.rows.now) (g.R.Rows.sheet c.loop.rows) c.args.window (sought_in c.args.side c.args.window (g.R.Rows.sheet c.args.rows.now).tree) c.args.steps.now c.loop.steps c.loop.counter c.loop.asked.items c.requires.size c.loop.invariant not)

pub loop-preserved : goal.loop-preserved
loop-preserved g c =
    let not : AreLeaves c.loop.asked.items → ⊥ = λ leaves. let is : IsTrue c.are_leaves.result = c.are_leaves.ensures.1 (subst AreLeaves (sym c.deref.ensures.0) leaves) in absurd (search rules) in
    let t = (g.R.Rows.sheet c.loop.rows).tree.table in
    let w = c.args.window in
    level_come c.args.side (g.R.Rows.sheet c.args.rows.now) (g.R.Rows.sheet c.loop.rows) (g.R.Rows.sheet c.next_level.new.rows) w (sought_in c.args.side w (g.R.Rows.sheet c.args.rows.now).tree) c.args.steps.now c.loop.steps c.next_level.new.steps c.loop.counter c.loop.asked.items c.next_level.new.next.items c.requires.size c.loop.invariant not
    (c.next_level.ensures.items ∙ ap (λ (l : List Child). asked_for c.args.side w (children_below t l)) c.deref-in-loop.ensures.0)
    (subst (λ (l : List Child). LoadedUpTo (length l) (g.R.Rows.sheet c.loop.rows) (g.R.Rows.sheet c.next_level.new.rows) c.loop.steps c.next_level.new.steps) c.deref-in-loop.ensures.0 c.next_level.ensures.loaded)
