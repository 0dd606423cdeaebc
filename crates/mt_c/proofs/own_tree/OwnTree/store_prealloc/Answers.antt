use Rattle.mt_c.proofs.Prelude.{◌<◌, ◌∙◌, ℕ, refl, sym, ap, subst, StorePre, Parts, OwnTree, IsPreCalled, IsReady}
use Rattle.mt_c.proofs.own_tree.OwnTree.store_prealloc.Goals as goal

pub returns-then-not-ready : goal.returns-then-not-ready
returns-then-not-ready c = (
  λ ready. absurd (let is = sym c.if-not-ready.true ∙ c.ready.ensures.1 (subst IsReady (sym (ap (λ (t : OwnTree). t.engine) c.self.view_is)) ready) in cc),
  refl,
)

pub returns : goal.returns
returns c =
    subst (λ (e : Parts). IsPreCalled e c.store_prealloc-reply.new.self (StorePre c.args.first c.args.last c.args.entry) c.store_prealloc-reply.result) (ap (λ (t : OwnTree). t.engine) c.self.view_is)
    (record {
      ready = c.ready.ensures.0 c.if-not-ready.false;
      few = subst (λ (n : ℕ). n < 4611686018427387903) c.self.invariant.counted c.if-self-ge-MOST_CALLS.false;
      stored = c.store_prealloc-reply.ensures.stored;
      kind = c.store_prealloc-reply.ensures.kind;
    })
