use Rattle.mt_path.proofs.Prelude.{◌≡◌, Some, length, take, sym, ap, ◌∙◌, Leaf, IsOnWay, row_for}
use Rattle.mt_path.proofs.Loads.{leaf_reads}
use Rattle.mt_path.proofs.Ways as ways
use Rattle.mt_path.proofs.handles.end_walk.Goals as goal

pub descend-found-requires-clause-way : goal.descend-found-requires-clause-way
descend-found-requires-clause-way g c = record {
  within = c.requires.index;
  front = c.requires.way.front;
  way = record { low = c.requires.way.low; named = c.child_for.ensures ∙ ap row_for (sym c.requires.way.enters) };
}

-- the leaf is the one node that is entered
pub returns-clause-reads : goal.returns-clause-reads
returns-clause-reads g c =
    let s = g.R.Rows.sheet c.args.rows.now in
    let steps = c.args.path.now.items in
    let way : IsOnWay s.tree c.args.index (length steps) c.child_for.result = record { low = c.requires.way.low; named = c.child_for.ensures ∙ ap row_for (sym c.requires.way.enters) } in
    let kind : c.child_for.result.kind ≡ Leaf =
    (let same : Some c.child_for.result.kind ≡ Some Leaf = sym (ways.named c.args.leaf c.child_for.result c.child_for.ensures).0 ∙ c.requires.way.is_leaf in cc) in
    let long = ways.ends s.tree c.requires.tree.0 c.requires.tree.1 c.args.index c.requires.index (length steps) c.child_for.result way kind in
    leaf_reads s (g.R.Rows.sheet c.descend-found.new.rows) (g.R.Rows.sheet c.load_found.new.rows) steps c.descend-found.new.path.items
    (c.requires.way.front ∙ ap (take (length steps)) (sym c.descend-found.ensures.path)) (ap length c.descend-found.ensures.path ∙ long) c.descend-found.ensures.reads c.load_found.ensures.rest
