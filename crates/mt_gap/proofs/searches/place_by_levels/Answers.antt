use Rattle.mt_gap.proofs.Prelude.{All, List, length, sym, ap, ◌∙◌, subst, flat_map, Rooted, Child, child_hole, children_below, LoadedUpTo, MayLoad, pick_for, picked, sought_in, sought_to}
use Rattle.mt_gap.proofs.Descents.{leaves_may_load, place_found, few_steps, stepped_reads, same_before}
use Rattle.mt_gap.proofs.OneWay.{sought_is}
use Rattle.mt_gap.proofs.searches.place_by_levels.Goals as goal

pub place_in_leaves-requires-clause-rows : goal.place_in_leaves-requires-clause-rows
place_in_leaves-requires-clause-rows g c =
    subst (λ (l : List Child). All (λ (x : Child). MayLoad (g.R.Rows.sheet c.to_leaves-leaves.new.rows).tree x.span) l) (sym c.deref.ensures.0)
    (leaves_may_load (g.R.Rows.sheet c.args.rows.now) (g.R.Rows.sheet c.root-word.new.self) (g.R.Rows.sheet c.to_leaves-leaves.new.rows) (pick_for c.args.side c.args.window) c.args.window (sought_in c.args.side c.args.window (g.R.Rows.sheet c.root-word.new.self).tree) c.args.steps.now c.to_leaves-leaves.new.steps c.to_leaves-leaves.result.items c.root-word.ensures.rest c.to_leaves-leaves.ensures)

pub returns-clause-place : goal.returns-clause-place
returns-clause-place g c =
    place_found (g.R.Rows.sheet c.args.rows.now) (g.R.Rows.sheet c.root-word.new.self) (g.R.Rows.sheet c.to_leaves-leaves.new.rows) (pick_for c.args.side c.args.window) c.args.window (sought_in c.args.side c.args.window (g.R.Rows.sheet c.root-word.new.self).tree) c.args.steps.now c.to_leaves-leaves.new.steps c.to_leaves-leaves.result.items c.root-word.ensures.rest c.to_leaves-leaves.ensures c.place_in_leaves.result
    (c.place_in_leaves.ensures.place ∙ ap (λ (l : List Child). picked (pick_for c.args.side c.args.window) c.args.window (flat_map child_hole (children_below (g.R.Rows.sheet c.to_leaves-leaves.new.rows).tree.table l))) c.deref.ensures.0)
    ∙ (sought_is c.args.side c.args.window (g.R.Rows.sheet c.root-word.new.self).tree ∙ ap (λ (t : Rooted). sought_to c.args.side c.args.window t) (same_before (g.R.Rows.sheet c.args.rows.now) (g.R.Rows.sheet c.root-word.new.self) (g.R.Rows.sheet c.to_leaves-leaves.new.rows) (pick_for c.args.side c.args.window) c.args.window (sought_in c.args.side c.args.window (g.R.Rows.sheet c.root-word.new.self).tree) c.args.steps.now c.to_leaves-leaves.new.steps c.to_leaves-leaves.result.items c.root-word.ensures.rest c.to_leaves-leaves.ensures))

pub returns-clause-steps : goal.returns-clause-steps
returns-clause-steps g c =
    few_steps (g.R.Rows.sheet c.args.rows.now) (g.R.Rows.sheet c.root-word.new.self) (g.R.Rows.sheet c.to_leaves-leaves.new.rows) (pick_for c.args.side c.args.window) c.args.window (sought_in c.args.side c.args.window (g.R.Rows.sheet c.root-word.new.self).tree) c.args.steps.now c.to_leaves-leaves.new.steps c.to_leaves-leaves.result.items c.root-word.ensures.rest c.to_leaves-leaves.ensures (g.R.Rows.sheet c.place_in_leaves.new.rows) c.place_in_leaves.new.steps
    (subst (λ (l : List Child). LoadedUpTo (length l) (g.R.Rows.sheet c.to_leaves-leaves.new.rows) (g.R.Rows.sheet c.place_in_leaves.new.rows) c.to_leaves-leaves.new.steps c.place_in_leaves.new.steps) c.deref.ensures.0 c.place_in_leaves.ensures.loaded)

pub returns-clause-reads : goal.returns-clause-reads
returns-clause-reads g c =
    stepped_reads (g.R.Rows.sheet c.args.rows.now) (g.R.Rows.sheet c.root-word.new.self) (g.R.Rows.sheet c.to_leaves-leaves.new.rows) (pick_for c.args.side c.args.window) c.args.window (sought_in c.args.side c.args.window (g.R.Rows.sheet c.root-word.new.self).tree) c.args.steps.now c.to_leaves-leaves.new.steps c.to_leaves-leaves.result.items c.root-word.ensures.rest c.to_leaves-leaves.ensures (g.R.Rows.sheet c.place_in_leaves.new.rows) c.place_in_leaves.new.steps
    (subst (λ (l : List Child). LoadedUpTo (length l) (g.R.Rows.sheet c.to_leaves-leaves.new.rows) (g.R.Rows.sheet c.place_in_leaves.new.rows) c.to_leaves-leaves.new.steps c.place_in_leaves.new.steps) c.deref.ensures.0 c.place_in_leaves.ensures.loaded)
