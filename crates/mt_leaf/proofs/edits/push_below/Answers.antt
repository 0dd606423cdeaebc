use Rattle.mt_leaf.proofs.Prelude.{◌<◌, length, arith}
use Rattle.mt_leaf.proofs.EditSteps.{below_cut, reaching_some}
use Rattle.mt_leaf.proofs.edits.push_below.Goals as goal

pub returns-then-begin-first-clause-items : goal.returns-then-begin-first-clause-items
returns-then-begin-first-clause-items c =
    let items = c.args.items.now in
    let found = c.slot_and_first-slot in
    let some = reaching_some items 0 c.args.first c.requires.some c.requires.reach in
    let within : found.result.0 < length items = omega (arith, found.ensures.slot) in
    rw (c.push_joined.ensures.items, c.push_joined_all.ensures.items)
    (below_cut c.args.run.now.items c.args.min c.args.first found.result.0 found.result.1 items _ found.ensures.slot found.ensures.first within c.if-begin-first.true)
