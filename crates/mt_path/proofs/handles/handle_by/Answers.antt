use Rattle.mt_path.proofs.Prelude.{◌≡◌, ◌≢◌, rules, sym, arith, same_true, Leaf}
use Rattle.mt_layout.specs.contracts.names.RowKind.{the_type}
use Rattle.mt_path.proofs.Descents.{may_find, may_seek, reaches, may_load, has_child, handle_here, not_deepest, passage_ends, passage_goes_on}
use Rattle.mt_path.proofs.Kept.{width_kept, width_then}
use Rattle.mt_path.proofs.handles.handle_by.Goals as goal

pub find_by-found-requires : goal.find_by-found-requires
find_by-found-requires g c =
    let before = c.loop.invariant in
    record {
      wide = width_kept _ (g.R.Rows.sheet c.args.rows.now) (g.R.Rows.sheet c.loop.rows) c.args.width c.loop.invariant.reads c.requires.width;
      place = may_find (g.R.Rows.sheet c.args.rows.now) (g.R.Rows.sheet c.loop.rows) c.requires.tree.0 c.requires.tree.1 c.args.index c.requires.index _ before.reads _ c.loop.row before.way;
      lawful = may_seek (g.R.Rows.sheet c.args.rows.now) (g.R.Rows.sheet c.loop.rows) c.requires.tree.0 c.requires.tree.1 c.args.index c.requires.index _ before.reads _ c.loop.row before.way;
      reaches = reaches (g.R.Rows.sheet c.args.rows.now) (g.R.Rows.sheet c.loop.rows) c.requires.tree.0 c.requires.tree.1 c.args.index c.requires.index _ before.reads _ c.loop.row before.way;
    }

pub load_found-span-requires-clause-width : goal.load_found-span-requires-clause-width
load_found-span-requires-clause-width g c =
    width_then _ _ (g.R.Rows.sheet c.args.rows.now) (g.R.Rows.sheet c.loop.rows) (g.R.Rows.sheet c.find_by-found.new.rows) c.args.width c.loop.invariant.reads c.find_by-found.ensures.reads c.requires.width

pub load_found-span-requires-clause-row : goal.load_found-span-requires-clause-row
load_found-span-requires-clause-row g c =
    let before = c.loop.invariant in
    let found = c.find_by-found in
    may_load (g.R.Rows.sheet c.args.rows.now) (g.R.Rows.sheet c.loop.rows) c.requires.tree.0 c.requires.tree.1 c.args.index c.requires.index _ before.reads _ c.loop.row before.way
    found.result found.ensures.found (g.R.Rows.sheet found.new.rows) found.ensures.reads

pub returns-then-eq : goal.returns-then-eq
returns-then-eq g c =
    let before = c.loop.invariant in
    let found = c.find_by-found in
    let leaf : c.loop.row.kind ≡ Leaf = same_true the_type (search rules) c.loop.row.kind Leaf (sym c.if-eq.ensures) in
    let few = passage_ends (g.R.Rows.sheet c.args.rows.now) (g.R.Rows.sheet c.loop.rows) c.requires.tree.0 c.requires.tree.1 c.args.index c.requires.index c.loop.counter c.loop.row c.loop.invariant
    found.result found.ensures.found (g.R.Rows.sheet found.new.rows) found.ensures.reads
    c.load_found-span.result c.load_found-span.ensures.span (g.R.Rows.sheet c.load_found-span.new.rows) c.load_found-span.ensures.rest leaf in
    record {
      none = search rules;
      some = handle_here (g.R.Rows.sheet c.args.rows.now) (g.R.Rows.sheet c.loop.rows) c.requires.tree.0 c.requires.tree.1 c.args.index c.requires.index _ before.reads _ c.loop.row before.way
          found.result found.ensures.found (g.R.Rows.sheet found.new.rows) found.ensures.reads
          c.load_found-span.result c.load_found-span.ensures.span (g.R.Rows.sheet c.load_found-span.new.rows) c.load_found-span.ensures.rest leaf;
      rest = few.rest;
      reads = few;
    }

pub child_for-row-requires : goal.child_for-row-requires
child_for-row-requires g c =
    let before = c.loop.invariant in
    let found = c.find_by-found in
    let other : c.loop.row.kind ≢ Leaf = search rules in
    has_child (g.R.Rows.sheet c.args.rows.now) (g.R.Rows.sheet c.loop.rows) c.requires.tree.0 c.requires.tree.1 c.args.index c.requires.index _ before.reads _ c.loop.row before.way
    found.result found.ensures.found (g.R.Rows.sheet found.new.rows) found.ensures.reads
    c.load_found-span.result c.load_found-span.ensures.span (g.R.Rows.sheet c.load_found-span.new.rows) c.load_found-span.ensures.rest other

pub loop-preserved : goal.loop-preserved
loop-preserved g c =
    let found = c.find_by-found in
    let other : c.loop.row.kind ≢ Leaf = search rules in
    passage_goes_on (g.R.Rows.sheet c.args.rows.now) (g.R.Rows.sheet c.loop.rows) c.requires.tree.0 c.requires.tree.1 c.args.index c.requires.index c.loop.counter c.loop.row c.loop.invariant
    found.result found.ensures.found (g.R.Rows.sheet found.new.rows) found.ensures.reads
    c.load_found-span.result c.load_found-span.ensures.span (g.R.Rows.sheet c.load_found-span.new.rows) c.load_found-span.ensures.rest other c.child_for-row.result c.child_for-row.ensures

pub unreachable-requires : goal.unreachable-requires
unreachable-requires g c =
    let low =
    not_deepest (g.R.Rows.sheet c.args.rows.now) (g.R.Rows.sheet c.loop.rows) c.requires.tree.0 c.requires.tree.1 c.args.index c.requires.index c.loop.counter c.loop.row c.loop.invariant in
    omega (arith, low, c.loop-test.false)
