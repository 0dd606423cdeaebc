use Rattle.mt_c.proofs.Prelude.{◌≡◌, ◌+◌, IfSome, OwnTree, length, map_by, refl, subst, sym, acted}
use Rattle.mt_c.proofs.RangeCounts.{own_if_made}
use Rattle.mt_c.proofs.own_tree.OwnTree.act_counted.Goals as goal

pub invariant_of-self : goal.invariant_of-self
invariant_of-self c =
    own_if_made c.self.inside c.apply-reply.new.self (c.self.inside.calls + 1) c.ended-self-inside.result c.args.call.now c.apply-reply.result c.args.after c.counted-self-inside.result c.self.invariant c.lawful.ensures c.apply-reply.ensures.applied c.apply-reply.ensures.kind refl (c.ended-self-inside.ensures.walk _)
    (subst (λ (t : OwnTree). IfSome c.args.after (λ n. n ≡ length (acted t.engine.kind (map_by t.engine.sheet.tree) c.args.call.now).0)) (sym c.self.view_is) c.requires) c.counted-self-inside.ensures
