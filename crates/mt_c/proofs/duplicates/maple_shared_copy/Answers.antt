use Rattle.mt_c.proofs.Prelude.{rules, Some, ap, refl, sym, ◌∙◌}
use Rattle.mt_c.proofs.Duplicating.{copied_made, copied_none}
use Rattle.mt_c.proofs.duplicates.maple_shared_copy.Goals as goal

pub returns-in-Ok : goal.returns-in-Ok
returns-in-Ok c =
    copied_made _ _ _ _ _ _ _ _ _ _ (c.in-Some.ensures.user ∙ ap Some (sym c.deref_mut.ensures.value)) c.put-2.ensures (search rules) c.in-Ok.ensures.common c.in-Ok.ensures.chair c.in-Ok.ensures.paused
    c.in-Ok.made.value c.put-in-Ok.ensures refl c.in-Ok.ensures.copied

pub returns-in-Err : goal.returns-in-Err
returns-in-Err c =
    copied_none _ _ _ _ _ _ _ _ _ _ (c.in-Some.ensures.user ∙ ap Some (sym c.deref_mut.ensures.value)) c.put-2.ensures (search rules) c.in-Err.ensures.common c.in-Err.ensures.chair c.in-Err.ensures.paused
    (search rules) (search rules) c.in-Err.ensures.lacks
