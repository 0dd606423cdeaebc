use Rattle.mt_c.proofs.Prelude.{rules, refl}
use Rattle.mt_c.proofs.SharedMaps.{of_made, of_none}
use Rattle.mt_c.proofs.shared_maps.maple_shared_of_tree.Goals as goal

pub returns-in-Ok : goal.returns-in-Ok
returns-in-Ok c =
    of_made c.args.rows c.args.users c.args.calls _ _ _ _ 0 c.deref_mut.result.now c.share-made.new.self (search rules) (search rules) c.share-made.ensures.rest c.in-Ok.made.value (search rules) (search rules) refl c.in-Ok.ensures.user

pub returns-in-Err : goal.returns-in-Err
returns-in-Err c =
    of_none c.args.rows c.args.users c.args.calls _ _ _ _ c.in-Err.status c.deref_mut.result.now c.share-made.new.self (search rules) (search rules) c.share-made.ensures.rest (search rules) (search rules) (search rules) c.in-Err.ensures.lacks
