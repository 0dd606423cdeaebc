use Rattle.mt_path.proofs.Prelude.{◌≡◌, ◌≢◌, rules, sym, arith, lit≤, same_true, Leaf}
use Rattle.mt_layout.specs.contracts.names.RowKind.{the_type}
use Rattle.mt_path.proofs.Beginnings.{begins_now, first_goes_on, first_reads, none_entered, one_word}
use Rattle.mt_path.proofs.Descents.{may_find, may_seek, may_load, has_child, ends_here, shallow, descent_ends}
use Rattle.mt_path.proofs.Kept.{width_kept, width_then}
use Rattle.mt_path.proofs.Loads.{no_reads, reads_up}
use Rattle.mt_path.proofs.leaves.descend_first.Goals as goal

-- before the first row nothing was loaded and no step was taken
pub loop-init : goal.loop-init
loop-init g c =
    let s = g.R.Rows.sheet c.args.rows.now in
    none_entered s c.args.index c.args.path.now.items c.args.row c.args.slot
    (record { front = c.requires.way.front; way = c.requires.way.way; deep = omega arith; more = omega arith; reads = reads_up 0 _ s s (omega arith) (no_reads s) })
    c.requires.begins (no_reads s)

pub found_beginning-found-requires-clause-width : goal.found_beginning-found-requires-clause-width
found_beginning-found-requires-clause-width g c = width_kept _ (g.R.Rows.sheet c.args.rows.now) (g.R.Rows.sheet c.loop.rows) c.args.width c.loop.invariant.few c.requires.width

pub found_beginning-found-requires-clause-row : goal.found_beginning-found-requires-clause-row
found_beginning-found-requires-clause-row g c =
    let before = c.loop.invariant.descends in
    may_find (g.R.Rows.sheet c.args.rows.now) (g.R.Rows.sheet c.loop.rows) c.requires.tree.0 c.requires.tree.1 c.args.index c.requires.way.within _ before.reads _ c.loop.row before.way

pub found_beginning-found-requires-clause-lawful : goal.found_beginning-found-requires-clause-lawful
found_beginning-found-requires-clause-lawful g c =
    let before = c.loop.invariant.descends in
    may_seek (g.R.Rows.sheet c.args.rows.now) (g.R.Rows.sheet c.loop.rows) c.requires.tree.0 c.requires.tree.1 c.args.index c.requires.way.within _ before.reads _ c.loop.row before.way

pub found_beginning-found-requires-clause-begins : goal.found_beginning-found-requires-clause-begins
found_beginning-found-requires-clause-begins g c =
    begins_now (g.R.Rows.sheet c.args.rows.now) (g.R.Rows.sheet c.loop.rows) c.requires.tree.0 c.requires.tree.1 c.args.index c.requires.way.within c.loop.counter c.args.path.now.items c.loop.path.items c.loop.row c.loop.slot c.loop.invariant

pub push-requires : goal.push-requires
push-requires g c = (
  lit≤ tt,
  shallow (g.R.Rows.sheet c.args.rows.now) (g.R.Rows.sheet c.loop.rows) c.requires.tree.0 c.requires.tree.1 c.args.index c.requires.way.within c.loop.counter c.args.path.now.items c.loop.path.items c.loop.row c.loop.invariant.descends,
)

pub returns-then-eq-clause-path : goal.returns-then-eq-clause-path
returns-then-eq-clause-path g c =
    let found = c.found_beginning-found in
    let leaf : c.loop.row.kind ≡ Leaf = same_true the_type (search rules) c.loop.row.kind Leaf (sym c.if-eq.ensures) in
    let one = one_word (g.R.Rows.sheet c.args.rows.now) (g.R.Rows.sheet c.loop.rows) c.requires.tree.0 c.requires.tree.1 c.args.index c.requires.way.within c.loop.counter c.args.path.now.items c.loop.path.items c.loop.row c.loop.slot c.loop.invariant
    found.result found.ensures.found (g.R.Rows.sheet found.new.rows) found.ensures.reads c.push.new.self.items c.push.ensures.items in
    descent_ends (g.R.Rows.sheet c.args.rows.now) (g.R.Rows.sheet c.loop.rows) c.requires.tree.0 c.requires.tree.1 c.args.index c.requires.way.within c.loop.counter c.args.path.now.items c.loop.path.items c.loop.row c.loop.invariant.descends
    found.result found.ensures.found (g.R.Rows.sheet found.new.rows) one c.push.new.self.items c.push.ensures.items leaf

pub returns-then-eq-clause-end : goal.returns-then-eq-clause-end
returns-then-eq-clause-end g c =
    let before = c.loop.invariant.descends in
    let found = c.found_beginning-found in
    let leaf : c.loop.row.kind ≡ Leaf = same_true the_type (search rules) c.loop.row.kind Leaf (sym c.if-eq.ensures) in
    let one = one_word (g.R.Rows.sheet c.args.rows.now) (g.R.Rows.sheet c.loop.rows) c.requires.tree.0 c.requires.tree.1 c.args.index c.requires.way.within c.loop.counter c.args.path.now.items c.loop.path.items c.loop.row c.loop.slot c.loop.invariant
    found.result found.ensures.found (g.R.Rows.sheet found.new.rows) found.ensures.reads c.push.new.self.items c.push.ensures.items in
    ends_here (g.R.Rows.sheet c.args.rows.now) (g.R.Rows.sheet c.loop.rows) c.requires.tree.0 c.requires.tree.1 c.args.index c.requires.way.within _ before.reads _ c.loop.row before.way found.result found.ensures.found (g.R.Rows.sheet found.new.rows) one leaf

pub returns-then-eq-clause-reads : goal.returns-then-eq-clause-reads
returns-then-eq-clause-reads g c =
    let found = c.found_beginning-found in
    first_reads (g.R.Rows.sheet c.args.rows.now) (g.R.Rows.sheet c.loop.rows) c.requires.tree.0 c.requires.tree.1 c.args.index c.requires.way.within c.loop.counter c.args.path.now.items c.loop.path.items c.loop.row c.loop.slot c.loop.invariant
    found.result found.ensures.found (g.R.Rows.sheet found.new.rows) found.ensures.reads c.push.new.self.items c.push.ensures.items

pub load_found-requires-clause-width : goal.load_found-requires-clause-width
load_found-requires-clause-width g c =
    width_then _ _ (g.R.Rows.sheet c.args.rows.now) (g.R.Rows.sheet c.loop.rows) (g.R.Rows.sheet c.found_beginning-found.new.rows) c.args.width c.loop.invariant.few c.found_beginning-found.ensures.reads c.requires.width

pub load_found-requires-clause-row : goal.load_found-requires-clause-row
load_found-requires-clause-row g c =
    let before = c.loop.invariant.descends in
    let found = c.found_beginning-found in
    let one = one_word (g.R.Rows.sheet c.args.rows.now) (g.R.Rows.sheet c.loop.rows) c.requires.tree.0 c.requires.tree.1 c.args.index c.requires.way.within c.loop.counter c.args.path.now.items c.loop.path.items c.loop.row c.loop.slot c.loop.invariant
    found.result found.ensures.found (g.R.Rows.sheet found.new.rows) found.ensures.reads c.push.new.self.items c.push.ensures.items in
    may_load (g.R.Rows.sheet c.args.rows.now) (g.R.Rows.sheet c.loop.rows) c.requires.tree.0 c.requires.tree.1 c.args.index c.requires.way.within _ before.reads _ c.loop.row before.way found.result found.ensures.found (g.R.Rows.sheet found.new.rows) one

pub child_for-row-requires : goal.child_for-row-requires
child_for-row-requires g c =
    let before = c.loop.invariant.descends in
    let found = c.found_beginning-found in
    let other : c.loop.row.kind ≢ Leaf = search rules in
    let one = one_word (g.R.Rows.sheet c.args.rows.now) (g.R.Rows.sheet c.loop.rows) c.requires.tree.0 c.requires.tree.1 c.args.index c.requires.way.within c.loop.counter c.args.path.now.items c.loop.path.items c.loop.row c.loop.slot c.loop.invariant
    found.result found.ensures.found (g.R.Rows.sheet found.new.rows) found.ensures.reads c.push.new.self.items c.push.ensures.items in
    has_child (g.R.Rows.sheet c.args.rows.now) (g.R.Rows.sheet c.loop.rows) c.requires.tree.0 c.requires.tree.1 c.args.index c.requires.way.within _ before.reads _ c.loop.row before.way found.result found.ensures.found (g.R.Rows.sheet found.new.rows) one
    c.load_found.result c.load_found.ensures.span (g.R.Rows.sheet c.load_found.new.rows) c.load_found.ensures.rest other

pub loop-preserved : goal.loop-preserved
loop-preserved g c =
    let found = c.found_beginning-found in
    let other : c.loop.row.kind ≢ Leaf = search rules in
    first_goes_on (g.R.Rows.sheet c.args.rows.now) (g.R.Rows.sheet c.loop.rows) c.requires.tree.0 c.requires.tree.1 c.args.index c.requires.way.within c.loop.counter c.args.path.now.items c.loop.path.items c.loop.row c.loop.slot c.loop.invariant
    found.result found.ensures.found (g.R.Rows.sheet found.new.rows) found.ensures.reads c.push.new.self.items c.push.ensures.items other found.ensures.first
    c.load_found.result c.load_found.ensures.span (g.R.Rows.sheet c.load_found.new.rows) c.load_found.ensures.rest c.child_for-row.result c.child_for-row.ensures

pub unreachable-requires : goal.unreachable-requires
unreachable-requires g c =
    let before = c.loop.invariant.descends in
    let low = shallow (g.R.Rows.sheet c.args.rows.now) (g.R.Rows.sheet c.loop.rows) c.requires.tree.0 c.requires.tree.1 c.args.index c.requires.way.within c.loop.counter c.args.path.now.items c.loop.path.items c.loop.row before in
    omega (arith, low, before.deep, c.loop-test.false)
