use Rattle.mt_verify.proofs.Prelude.{take, sym, subst, take_more, AreReaders}
use Rattle.mt_verify.proofs.heard.readers_of.Goals as goal

pub loop-one-preserved : goal.loop-one-preserved
loop-one-preserved c =
    let told = c.args.told.now in
    let i = c.loop-one.one-index in
    subst (AreReaders c.add.new.self) (sym (take_more told i _ c.loop-one-test.true)) (c.add.ensures (take i told) c.loop-one.invariant)
