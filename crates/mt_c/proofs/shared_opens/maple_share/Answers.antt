use Rattle.mt_c.proofs.Prelude.{rules, Some, ap, refl, sym, ◌∙◌}
use Rattle.mt_c.proofs.Sharing.{with_made}
use Rattle.mt_c.proofs.shared_opens.maple_share.Goals as goal

pub returns-in-Ok : goal.returns-in-Ok
returns-in-Ok c =
    with_made _ _ _ _ _ _ _ (c.in-Some.ensures.user ∙ ap Some (sym c.deref_mut.ensures.value)) c.put-2.ensures (search rules) c.in-Ok.made.value c.put-in-Ok.ensures refl
    c.in-Ok.ensures.common c.in-Ok.ensures.walker c.in-Ok.ensures.other c.in-Ok.ensures.pass
