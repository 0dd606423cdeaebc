use Rattle.mt_c.proofs.Prelude.{rules, refl}
use Rattle.mt_c.proofs.ManySteps.{loaded_open}
use Rattle.mt_c.proofs.many.maple_load_many.Goals as goal

pub returns : goal.returns
returns c =
    loaded_open c.args.indexes.now _ _ c.deref_mut.result.now c.load_many.new.self 0 c.args.entries.now c.load_many.new.entries (search rules) (search rules) c.load_many.ensures.rest c.load_many.ensures.place refl c.load_many.ensures.entries
