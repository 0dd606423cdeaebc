use Rattle.mt_path.proofs.Prelude.{◌≡◌, ◌≢◌, rules, sym, arith, lit≤, same_true, Leaf}
use Rattle.mt_layout.specs.contracts.names.RowKind.{the_type}
use Rattle.mt_path.proofs.Descents.{may_find, may_seek, reaches, may_load, has_child, ends_here, shallow, descent_ends, descent_reads, descent_goes_on}
use Rattle.mt_path.proofs.Kept.{width_kept, width_then}
use Rattle.mt_path.proofs.Loads.{no_reads, reads_up}
use Rattle.mt_path.proofs.walks.descend_by.Goals as goal

-- before the first node nothing was loaded
pub loop-init : goal.loop-init
loop-init g c =
    let s = g.R.Rows.sheet c.args.rows.now in
    record { front = c.requires.way.front; way = c.requires.way.way; deep = omega arith; more = omega arith; reads = reads_up 0 _ s s (omega arith) (no_reads s) }

pub find_slot-found-requires : goal.find_slot-found-requires
find_slot-found-requires g c =
    let before = c.loop.invariant in
    record {
      wide = width_kept _ (g.R.Rows.sheet c.args.rows.now) (g.R.Rows.sheet c.loop.rows) c.args.width c.loop.invariant.reads c.requires.width;
      place = may_find (g.R.Rows.sheet c.args.rows.now) (g.R.Rows.sheet c.loop.rows) c.requires.tree.0 c.requires.tree.1 c.args.index c.requires.way.within _ before.reads _ c.loop.row before.way;
      lawful = may_seek (g.R.Rows.sheet c.args.rows.now) (g.R.Rows.sheet c.loop.rows) c.requires.tree.0 c.requires.tree.1 c.args.index c.requires.way.within _ before.reads _ c.loop.row before.way;
      reaches = reaches (g.R.Rows.sheet c.args.rows.now) (g.R.Rows.sheet c.loop.rows) c.requires.tree.0 c.requires.tree.1 c.args.index c.requires.way.within _ before.reads _ c.loop.row before.way;
    }

pub load_found-requires-clause-width : goal.load_found-requires-clause-width
load_found-requires-clause-width g c =
    width_then _ _ (g.R.Rows.sheet c.args.rows.now) (g.R.Rows.sheet c.loop.rows) (g.R.Rows.sheet c.find_slot-found.new.rows) c.args.width c.loop.invariant.reads c.find_slot-found.ensures.reads c.requires.width

pub push-requires : goal.push-requires
push-requires g c = (
  lit≤ tt,
  shallow (g.R.Rows.sheet c.args.rows.now) (g.R.Rows.sheet c.loop.rows) c.requires.tree.0 c.requires.tree.1 c.args.index c.requires.way.within
      c.loop.counter c.args.path.now.items c.loop.path.items c.loop.row c.loop.invariant,
)

pub returns-then-eq-clause-path : goal.returns-then-eq-clause-path
returns-then-eq-clause-path g c =
    let found = c.find_slot-found in
    let leaf : c.loop.row.kind ≡ Leaf = same_true the_type (search rules) c.loop.row.kind Leaf (sym c.if-eq.ensures) in
    descent_ends (g.R.Rows.sheet c.args.rows.now) (g.R.Rows.sheet c.loop.rows) c.requires.tree.0 c.requires.tree.1 c.args.index c.requires.way.within
    c.loop.counter c.args.path.now.items c.loop.path.items c.loop.row c.loop.invariant
    found.result found.ensures.found (g.R.Rows.sheet found.new.rows) found.ensures.reads c.push.new.self.items c.push.ensures.items leaf

pub returns-then-eq-clause-end : goal.returns-then-eq-clause-end
returns-then-eq-clause-end g c =
    let before = c.loop.invariant in
    let found = c.find_slot-found in
    let leaf : c.loop.row.kind ≡ Leaf = same_true the_type (search rules) c.loop.row.kind Leaf (sym c.if-eq.ensures) in
    ends_here (g.R.Rows.sheet c.args.rows.now) (g.R.Rows.sheet c.loop.rows) c.requires.tree.0 c.requires.tree.1 c.args.index c.requires.way.within _ before.reads _ c.loop.row before.way
    found.result found.ensures.found (g.R.Rows.sheet found.new.rows) found.ensures.reads leaf

pub returns-then-eq-clause-reads : goal.returns-then-eq-clause-reads
returns-then-eq-clause-reads g c =
    let found = c.find_slot-found in
    descent_reads (g.R.Rows.sheet c.args.rows.now) (g.R.Rows.sheet c.loop.rows) c.requires.tree.0 c.requires.tree.1 c.args.index c.requires.way.within
    c.loop.counter c.args.path.now.items c.loop.path.items c.loop.row c.loop.invariant
    found.result found.ensures.found (g.R.Rows.sheet found.new.rows) found.ensures.reads c.push.new.self.items c.push.ensures.items

pub load_found-requires-clause-row : goal.load_found-requires-clause-row
load_found-requires-clause-row g c =
    let before = c.loop.invariant in
    let found = c.find_slot-found in
    may_load (g.R.Rows.sheet c.args.rows.now) (g.R.Rows.sheet c.loop.rows) c.requires.tree.0 c.requires.tree.1 c.args.index c.requires.way.within _ before.reads _ c.loop.row before.way
    found.result found.ensures.found (g.R.Rows.sheet found.new.rows) found.ensures.reads

pub child_for-row-requires : goal.child_for-row-requires
child_for-row-requires g c =
    let before = c.loop.invariant in
    let found = c.find_slot-found in
    let other : c.loop.row.kind ≢ Leaf = search rules in
    has_child (g.R.Rows.sheet c.args.rows.now) (g.R.Rows.sheet c.loop.rows) c.requires.tree.0 c.requires.tree.1 c.args.index c.requires.way.within _ before.reads _ c.loop.row before.way
    found.result found.ensures.found (g.R.Rows.sheet found.new.rows) found.ensures.reads
    c.load_found.result c.load_found.ensures.span (g.R.Rows.sheet c.load_found.new.rows) c.load_found.ensures.rest other

pub loop-preserved : goal.loop-preserved
loop-preserved g c =
    let found = c.find_slot-found in
    let other : c.loop.row.kind ≢ Leaf = search rules in
    descent_goes_on (g.R.Rows.sheet c.args.rows.now) (g.R.Rows.sheet c.loop.rows) c.requires.tree.0 c.requires.tree.1 c.args.index c.requires.way.within
    c.loop.counter c.args.path.now.items c.loop.path.items c.loop.row c.loop.invariant
    found.result found.ensures.found (g.R.Rows.sheet found.new.rows) found.ensures.reads c.push.new.self.items c.push.ensures.items other
    c.load_found.result c.load_found.ensures.span (g.R.Rows.sheet c.load_found.new.rows) c.load_found.ensures.rest c.child_for-row.result c.child_for-row.ensures

pub unreachable-requires : goal.unreachable-requires
unreachable-requires g c =
    let low =
    shallow (g.R.Rows.sheet c.args.rows.now) (g.R.Rows.sheet c.loop.rows) c.requires.tree.0 c.requires.tree.1 c.args.index c.requires.way.within
    c.loop.counter c.args.path.now.items c.loop.path.items c.loop.row c.loop.invariant in
    omega (arith, low, c.loop.invariant.deep, c.loop-test.false)
