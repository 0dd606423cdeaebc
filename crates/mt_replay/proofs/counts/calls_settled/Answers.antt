use Rattle.mt_replay.proofs.Prelude.{length, arith, ap, ◌∙◌, inr}
use Rattle.mt_replay.proofs.Staying.{row_stays}
use Rattle.mt_replay.proofs.counts.calls_settled.Goals as goal

pub returns-clause-stays : goal.returns-clause-stays
returns-clause-stays g c = (row_stays g.P.Passage.knows c.args.row.now c.settle.new.passes (omega (arith, c.requires.some_pass, c.requires.all.count)) c.len-own.ensures c.index_mut.ensures.value c.requires.settled (inr c.calls-calls.ensures.saw) c.as_mut_slice.ensures.value c.settle.ensures.settled).0

pub returns-clause-calls : goal.returns-clause-calls
returns-clause-calls g c = c.calls-calls.ensures.calls ∙ ap (λ h. length h.records) ((row_stays g.P.Passage.knows c.args.row.now c.settle.new.passes (omega (arith, c.requires.some_pass, c.requires.all.count)) c.len-own.ensures c.index_mut.ensures.value c.requires.settled (inr c.calls-calls.ensures.saw) c.as_mut_slice.ensures.value c.settle.ensures.settled).1)
