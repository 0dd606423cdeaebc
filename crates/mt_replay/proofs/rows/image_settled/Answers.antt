use Rattle.mt_replay.proofs.Prelude.{IfOk, arith, subst, inr, last_map, IsImageOfMap}
use Rattle.mt_replay.proofs.Staying.{row_stays}
use Rattle.mt_replay.proofs.rows.image_settled.Goals as goal

pub returns-clause-stays : goal.returns-clause-stays
returns-clause-stays g c = (row_stays g.P.Passage.knows c.args.row.now c.settle.new.passes (omega (arith, c.requires.some_pass, c.requires.all.count)) c.len-own.ensures c.index_mut.ensures.value c.requires.settled (inr c.image-image.ensures.saw) c.as_mut_slice.ensures.value c.settle.ensures.settled).0

pub returns-clause-image : goal.returns-clause-image
returns-clause-image g c =
    let kind = (g.T.Shared.tree c.args.tree.now).history.kind in
    subst (λ h. IfOk c.image-image.result (λ bytes. IsImageOfMap kind (last_map h) bytes.items)) ((row_stays g.P.Passage.knows c.args.row.now c.settle.new.passes (omega (arith, c.requires.some_pass, c.requires.all.count)) c.len-own.ensures c.index_mut.ensures.value c.requires.settled (inr c.image-image.ensures.saw) c.as_mut_slice.ensures.value c.settle.ensures.settled).1) c.image-image.ensures.image
