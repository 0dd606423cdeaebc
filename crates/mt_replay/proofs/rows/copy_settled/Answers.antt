use Rattle.mt_replay.proofs.Prelude.{IfOk, map, arith, subst, last_map, IsNewTree}
use Rattle.mt_replay.proofs.Staying.{row_stays}
use Rattle.mt_replay.proofs.rows.copy_settled.Goals as goal

pub returns-clause-stays : goal.returns-clause-stays
returns-clause-stays g c = (row_stays g.P.Passage.knows c.args.row.now c.settle.new.passes (omega (arith, c.requires.some_pass, c.requires.all.count)) c.len-own.ensures c.index_mut.ensures.value c.requires.settled c.copy-made.ensures.pass c.as_mut_slice.ensures.value c.settle.ensures.settled).0

pub returns-clause-new : goal.returns-clause-new
returns-clause-new g c =
    let tree = g.T.Shared.tree c.args.tree.now in
    subst (λ h. IfOk c.copy-made.result (λ made. IsNewTree tree.history.kind tree.history.rows (last_map h) (g.T.Plays.many c.args.tree.now) (g.T.Shared.tree made.0) (map g.P.Passage.knows made.1.items))) ((row_stays g.P.Passage.knows c.args.row.now c.settle.new.passes (omega (arith, c.requires.some_pass, c.requires.all.count)) c.len-own.ensures c.index_mut.ensures.value c.requires.settled c.copy-made.ensures.pass c.as_mut_slice.ensures.value c.settle.ensures.settled).1) c.copy-made.ensures.new
