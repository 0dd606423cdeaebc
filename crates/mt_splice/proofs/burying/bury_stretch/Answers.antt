use Rattle.mt_splice.proofs.Prelude.{◌<◌, arith}
use Rattle.mt_splice.proofs.BuryingRows.{root_is_row, first_deep, first_may_load, first_may, first_so_far, root_kind, far_tree, far_leads, far_child, far_less, next_may_load, next_may, next_later, next_so_far}
use Rattle.mt_splice.proofs.burying.bury_stretch.Goals as goal

pub kind_above-kind-requires : goal.kind_above-kind-requires
kind_above-kind-requires g c = root_is_row c.requires.tree.1 c.requires.below c.requires.stretch c.requires.may c.walk-way.ensures.reads.rest

pub step_on-requires : goal.step_on-requires
step_on-requires g c = first_deep c.requires.tree.1 c.requires.below c.requires.stretch c.requires.may c.walk-way.ensures.path

pub load_child-child-requires : goal.load_child-child-requires
load_child-child-requires g c =
    first_may_load c.requires.tree.1 c.requires.below c.requires.stretch c.requires.may c.walk-way.ensures.reads.rest c.walk-way.ensures.path c.kind_above-kind.ensures.rest c.kind_above-kind.ensures.kind c.step_on.ensures

pub bury_row-requires : goal.bury_row-requires
bury_row-requires g c =
    first_may c.requires.tree.1 c.requires.below c.requires.stretch c.requires.may c.walk-way.ensures.reads.rest c.walk-way.ensures.path c.kind_above-kind.ensures.rest c.kind_above-kind.ensures.kind c.step_on.ensures
    c.load_child-child.ensures.rest c.load_child-child.ensures.above c.load_child-child.ensures.row c.load_child-child.ensures.last

pub loop-child-init : goal.loop-child-init
loop-child-init g c =
    first_so_far c.requires.tree.1 c.requires.below c.requires.stretch c.requires.may c.walk-way.ensures.reads.rest c.walk-way.ensures.path c.kind_above-kind.ensures.rest c.kind_above-kind.ensures.kind c.step_on.ensures
    c.load_child-child.ensures.rest c.load_child-child.ensures.above c.load_child-child.ensures.row c.load_child-child.ensures.last c.bury_row.ensures.rows c.bury_row.ensures.book

pub step_above-above-requires-clause-tree : goal.step_above-above-requires-clause-tree
step_above-above-requires-clause-tree g c = (c.requires.tree.0, far_tree c.requires.tree.1 c.requires.below c.requires.stretch c.requires.may c.loop-child.invariant)

pub step_above-above-requires-clause-way : goal.step_above-above-requires-clause-way
step_above-above-requires-clause-way g c = far_leads c.requires.tree.1 c.requires.below c.requires.stretch c.requires.may c.loop-child.invariant

pub step_above-above-requires-clause-child : goal.step_above-above-requires-clause-child
step_above-above-requires-clause-child g c = far_child c.requires.tree.1 c.requires.below c.requires.stretch c.requires.may c.loop-child.invariant

pub step_above-above-requires-clause-more : goal.step_above-above-requires-clause-more
step_above-above-requires-clause-more g c = far_less c.requires.tree.1 c.requires.below c.requires.stretch c.requires.may c.loop-child.invariant c.loop-child-test.true

pub load_child-child-requires-in-loop-child : goal.load_child-child-requires-in-loop-child
load_child-child-requires-in-loop-child g c =
    next_may_load c.requires.tree.1 c.requires.below c.requires.stretch c.requires.may c.loop-child.invariant c.loop-child-test.true (root_kind c.requires.tree.1 c.requires.below c.requires.stretch c.requires.may c.walk-way.ensures.reads.rest c.kind_above-kind.ensures.kind) c.step_above-above.ensures.rest c.step_above-above.ensures.step c.step_above-above.ensures.way

pub bury_row-requires-in-loop-child : goal.bury_row-requires-in-loop-child
bury_row-requires-in-loop-child g c =
    next_may c.requires.tree.1 c.requires.below c.requires.stretch c.requires.may c.loop-child.invariant c.loop-child-test.true (root_kind c.requires.tree.1 c.requires.below c.requires.stretch c.requires.may c.walk-way.ensures.reads.rest c.kind_above-kind.ensures.kind) c.step_above-above.ensures.rest c.step_above-above.ensures.step c.step_above-above.ensures.way
    c.load_child-child-in-loop-child.ensures.rest c.load_child-child-in-loop-child.ensures.above c.load_child-child-in-loop-child.ensures.row c.load_child-child-in-loop-child.ensures.last

pub loop-child-smaller : goal.loop-child-smaller
loop-child-smaller g c =
    let later : c.loop-child.child.last < c.load_child-child-in-loop-child.result.last =
    next_later c.requires.tree.1 c.requires.below c.requires.stretch c.requires.may c.loop-child.invariant c.loop-child-test.true (root_kind c.requires.tree.1 c.requires.below c.requires.stretch c.requires.may c.walk-way.ensures.reads.rest c.kind_above-kind.ensures.kind) c.step_above-above.ensures.rest c.step_above-above.ensures.step c.step_above-above.ensures.way
    c.load_child-child-in-loop-child.ensures.rest c.load_child-child-in-loop-child.ensures.above c.load_child-child-in-loop-child.ensures.row c.load_child-child-in-loop-child.ensures.last in
    let left = c.loop-child-test.true in
    omega arith

pub loop-child-preserved : goal.loop-child-preserved
loop-child-preserved g c =
    next_so_far c.requires.tree.1 c.requires.below c.requires.stretch c.requires.may c.loop-child.invariant c.loop-child-test.true (root_kind c.requires.tree.1 c.requires.below c.requires.stretch c.requires.may c.walk-way.ensures.reads.rest c.kind_above-kind.ensures.kind) c.step_above-above.ensures.rest c.step_above-above.ensures.step c.step_above-above.ensures.way
    c.load_child-child-in-loop-child.ensures.rest c.load_child-child-in-loop-child.ensures.above c.load_child-child-in-loop-child.ensures.row c.load_child-child-in-loop-child.ensures.last c.bury_row-in-loop-child.ensures.rows c.bury_row-in-loop-child.ensures.book
