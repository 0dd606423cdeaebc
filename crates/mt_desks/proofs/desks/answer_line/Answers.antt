use Rattle.mt_desks.proofs.Prelude.{◌<◌, ℕ, length, arith, get_or, refl, slice_get-get_or, slice_get_read}
use Rattle.mt_desks.proofs.Doing.{line_done_at, named_below}
use Rattle.mt_desks.proofs.desks.answer_line.Goals as goal

pub returns-clause-done : goal.returns-clause-done
returns-clause-done g c = λ lane phase.
    let at : ℕ = c.tree_of-at.result in
    let below : at < length c.args.trees.now = omega (arith, c.tree_of-at.ensures, named_below (length c.args.trees.now) c.args.line.now.item c.requires.step c.requires.named) in
    let manned : at < length c.args.passes.now = omega (arith, below, c.requires.manned.count) in
    line_done_at g.T.Shared.tree g.P.Passage.knows c.args.trees.now c.args.passes.now lane phase c.args.line.now at c.index-trees-at.result (get_or c.args.passes.now at c.index-passes-at.result) c.answer_on.new.pass c.args.room.now.items c.answer_on.new.room.items
    c.requires.step c.tree_of-at.ensures
    (slice_get_read c.args.trees.now (length c.args.trees.now) at c.index-trees-at.result refl below c.index-trees-at.is)
    (slice_get-get_or c.args.passes.now at c.index-passes-at.result manned)
    (c.answer_on.ensures.done lane phase)
