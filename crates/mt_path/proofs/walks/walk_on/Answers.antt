use Rattle.mt_path.proofs.Prelude.{◌+◌, ◌==◌, sym, ◌∙◌, subst, Rooted, Row, WalksTo}
use Rattle.mt_path.proofs.Kept.{tree_kept}
use Rattle.mt_path.proofs.Onward.{no_rows, named_root, onward_front, onward_way, onward_near}
use Rattle.mt_path.proofs.walks.walk_on.Goals as goal

pub returns-in_default-clause-path : goal.returns-in_default-clause-path
returns-in_default-clause-path g c =
    let path = c.requires.path in
    c.in_default.ensures.emptied
    ∙ no_rows (g.R.Rows.sheet c.args.rows.now).tree c.requires.tree.0 c.requires.tree.1 path.0 c.args.index path.1 c.requires.index c.args.path.now.items path.2 c.in_default.ensures.none

pub row_of_step-row-requires : goal.row_of_step-row-requires
row_of_step-row-requires g c = λ _.
    let path = c.requires.path in
    named_root (g.R.Rows.sheet c.args.rows.now).tree c.requires.tree.0 c.requires.tree.1 path.0 c.args.index path.1 c.requires.index c.args.path.now.items path.2
    c.pop_to.new.path.items c.in-Some.step c.in-Some.ensures.some

pub descend-requires-clause-way : goal.descend-requires-clause-way
descend-requires-clause-way g c =
    let s = g.R.Rows.sheet c.args.rows.now in
    let path = c.requires.path in
    let above = c.pop_to.new.path.items in
    let same = tree_kept 1 s (g.R.Rows.sheet c.row_of_step-row.new.rows) c.row_of_step-row.ensures.reads in
    subst (λ (x : Rooted × Row). WalksTo x.0 c.args.index above x.1) (λ i. (sym same i, sym c.row_of_step-row.ensures.row i))
    (record {
      within = c.requires.index;
      front = onward_front s.tree c.requires.tree.0 c.requires.tree.1 path.0 c.args.index path.1 c.requires.index c.args.path.now.items path.2 above c.in-Some.step c.in-Some.ensures.some;
      way = onward_way s.tree c.requires.tree.0 c.requires.tree.1 path.0 c.args.index path.1 c.requires.index c.args.path.now.items path.2 above c.in-Some.step c.in-Some.ensures.some
          ((c.len.result + 1) == c.len-levels.result) (λ i. (c.len.ensures.value i + 1) == c.len-levels.ensures.value i) c.row_of_step-row.result.kind c.row_of_step-row.ensures.leaf c.row_of_step-row.ensures.inner;
    })

pub returns-clause-near : goal.returns-clause-near
returns-clause-near g c =
    let s = g.R.Rows.sheet c.args.rows.now in
    let path = c.requires.path in
    let above = c.pop_to.new.path.items in
    onward_near s (g.R.Rows.sheet c.row_of_step-row.new.rows) (g.R.Rows.sheet c.descend.new.rows) c.args.index c.args.path.now.items above c.descend.new.path.items c.in-Some.step c.in-Some.ensures.some
    (onward_front s.tree c.requires.tree.0 c.requires.tree.1 path.0 c.args.index path.1 c.requires.index c.args.path.now.items path.2 above c.in-Some.step c.in-Some.ensures.some)
    c.descend.ensures.path c.row_of_step-row.ensures.reads c.descend.ensures.reads
