use Rattle.mt_c.proofs.Prelude.{rules}
use Rattle.mt_c.proofs.Overwriting.{over_open}
use Rattle.mt_c.proofs.overwrites.maple_store_over.Goals as goal

pub returns : goal.returns
returns c =
    over_open c.args.first c.args.last c.args.entry c.args.met.now c.store_over-made.new.met c.store_over-made.result.1 _ _ c.status_of.result c.word_of.result c.deref_mut.result.now c.store_over-made.new.self c.store_over-made.result.0
    (search rules) (search rules) c.store_over-made.ensures c.status_of.ensures c.word_of.ensures
