use Rattle.mt_replay.proofs.Prelude.{◌≡◌, IfOk, arith, subst, inr, last_map}
use Rattle.mt_replay.proofs.Staying.{row_stays}
use Rattle.mt_replay.proofs.rows.list_settled.Goals as goal

pub returns-clause-stays : goal.returns-clause-stays
returns-clause-stays g c = (row_stays g.P.Passage.knows c.args.row.now c.settle.new.passes (omega (arith, c.requires.some_pass, c.requires.all.count)) c.len-own.ensures c.index_mut.ensures.value c.requires.settled (inr c.list-ranges.ensures.saw) c.as_mut_slice.ensures.value c.settle.ensures.settled).0

pub returns-clause-ranges : goal.returns-clause-ranges
returns-clause-ranges g c =
    subst (λ h. IfOk c.list-ranges.result (λ ranges. ranges.items ≡ last_map h)) ((row_stays g.P.Passage.knows c.args.row.now c.settle.new.passes (omega (arith, c.requires.some_pass, c.requires.all.count)) c.len-own.ensures c.index_mut.ensures.value c.requires.settled (inr c.list-ranges.ensures.saw) c.as_mut_slice.ensures.value c.settle.ensures.settled).1) c.list-ranges.ensures.ranges
