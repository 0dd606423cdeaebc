use Rattle.mt_replay.proofs.Prelude.{length, arith, ap, ◌∙◌, inr, last_map}
use Rattle.mt_replay.proofs.Staying.{row_stays}
use Rattle.mt_replay.proofs.rows.count_settled.Goals as goal

pub returns-clause-stays : goal.returns-clause-stays
returns-clause-stays g c = (row_stays g.P.Passage.knows c.args.row.now c.settle.new.passes (omega (arith, c.requires.some_pass, c.requires.all.count)) c.len-own.ensures c.index_mut.ensures.value c.requires.settled (inr c.check-count.ensures.saw) c.as_mut_slice.ensures.value c.settle.ensures.settled).0

pub returns-clause-count : goal.returns-clause-count
returns-clause-count g c = c.check-count.ensures.count ∙ ap (λ h. length (last_map h)) ((row_stays g.P.Passage.knows c.args.row.now c.settle.new.passes (omega (arith, c.requires.some_pass, c.requires.all.count)) c.len-own.ensures c.index_mut.ensures.value c.requires.settled (inr c.check-count.ensures.saw) c.as_mut_slice.ensures.value c.settle.ensures.settled).1)
