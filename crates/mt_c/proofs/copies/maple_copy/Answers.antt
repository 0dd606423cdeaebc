use Rattle.mt_c.proofs.Prelude.{rules, refl}
use Rattle.mt_c.proofs.Copying.{copied_made, copied_none}
use Rattle.mt_c.proofs.copies.maple_copy.Goals as goal

pub returns-in-Ok : goal.returns-in-Ok
returns-in-Ok c =
    copied_made c.args.rows _ _ _ _ 0 c.deref_mut.result.now c.copy-made.new.self (search rules) (search rules) c.copy-made.ensures.rest c.in-Ok.made.value (search rules) (search rules) refl c.in-Ok.ensures.copy

pub returns-in-Err : goal.returns-in-Err
returns-in-Err c = copied_none c.args.rows _ _ _ _ c.in-Err.status c.deref_mut.result.now c.copy-made.new.self (search rules) (search rules) c.copy-made.ensures.rest (search rules) (search rules) c.in-Err.ensures.lacks
