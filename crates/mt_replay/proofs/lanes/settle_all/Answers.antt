use Rattle.mt_replay.proofs.Prelude.{◌≡◌, length, arith, ap, ◌∙◌, get_or, Vec, Global, with_items}
use Rattle.mt_replay.proofs.Settling.{none_settled, one_settled, all_settled, written_row}
use Rattle.mt_replay.proofs.lanes.settle_all.Goals as goal

pub loop-at-init : goal.loop-at-init
loop-at-init g c = none_settled g.T.Shared.tree g.P.Passage.knows g.T.Shared.serves g.T.Plays.many c.args.trees.now c.args.seats.now c.requires.all

pub settle-requires : goal.settle-requires
settle-requires g c = rw (c.as_mut_slice.ensures.value, c.index-trees-at.is) (c.loop-at.invariant.all c.loop-at.at c.index-trees-at.result c.index-seats-at.result c.loop-at-test.true)

pub loop-at-preserved : goal.loop-at-preserved
loop-at-preserved g c =
    let row : Vec g.row.P.Denot Global = get_or c.loop-at.seats c.loop-at.at c.index-seats-at.result in
    let passes : (with_items row c.settle.new.passes).items ≡ c.settle.new.passes = written_row row c.settle.new.passes (c.settle.auto.passes ∙ ap length c.as_mut_slice.ensures.value) in
    one_settled g.T.Shared.tree g.P.Passage.knows g.T.Shared.serves g.T.Plays.many c.args.trees.now c.loop-at.at c.args.seats.now c.loop-at.seats c.index-trees-at.result c.index-seats-at.result (with_items row c.settle.new.passes)
    c.loop-at-test.true (omega (arith, c.requires.count, c.loop-at-test.true)) c.loop-at.invariant
    (rw (passes, ← c.index-trees-at.is) c.settle.ensures.all)
    (rw (passes, ← c.index-trees-at.is, ← c.as_mut_slice.ensures.value) c.settle.ensures.settled)

pub returns-clause-settled : goal.returns-clause-settled
returns-clause-settled g c = all_settled g.T.Shared.tree g.P.Passage.knows g.T.Shared.serves g.T.Plays.many c.args.trees.now c.loop-at.at c.args.seats.now c.loop-at.seats (omega (arith, c.loop-at-test.false)) c.requires.count c.loop-at.invariant
