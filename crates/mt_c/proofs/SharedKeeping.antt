-- Calls of a user that keep the reserve of a shared tree: what C gets of them.
use Rattle.mt_c.proofs.Prelude.{◌≡◌, ◌∙◌, ℕ, Some, None, Ok, Err, IfErr, IfOk, ap, subst, Call, Tree, Pass, pass_in, IsBusyOf, User, UserHandle, Outcome, refusal, no_outcome, common_of, known_to, paused, user_tree, TriedOnce, HasTriedKept, IsTriedKept, SharedTriedKept, TriedKept, kept_outcome, kept_status, when_kept}
use Rattle.mt_base.specs.Passes as known
use Rattle.mt_rule.specs.Turns as turns
use Rattle.mt_tree.specs.Kept.{WasKept}
use Rattle.mt_c.proofs.Sharing.{on_closed, on_open}

-- what a pass that was paused came to
pub kept_tried : (t : Tree) (p : known.Pass) (a b : Pass) (call : Call) (tried : TriedKept) → pass_in a ≡ p → IfOk tried (λ r. WasKept t (pass_in a) call r.1 r.0 (pass_in b)) → IfErr tried (IsBusyOf t) → IfErr tried (λ _. b ≡ turns.tried a)
    → IsTriedKept t p call tried (pass_in b)
kept_tried t p a b call (Ok r) was made busy kept = subst (λ (x : known.Pass). WasKept t x call r.1 r.0 (pass_in b)) was made
kept_tried t p a b call (Err why) was made busy kept = (busy, ap pass_in kept ∙ was)

module _ (call : Call) (status : ℕ) (out : Outcome) where
  pub has_tried_kept : (u v : User) (tried : TriedKept) → IsTriedKept (user_tree u) (paused u) call tried (known_to v) → TriedOnce u.walker v.walker → v.walker.walk ≡ None → v.chair ≡ u.chair
      → v.receipts ≡ when_kept tried u.receipts → status ≡ kept_status tried → out ≡ kept_outcome tried → HasTriedKept call status out u v
  has_tried_kept u v tried said once off chair kept number shown = (tried, said, once, off, chair, kept, number, shown)

  module _ (before after : UserHandle) where
    pub kept_open : (u v : User) → before.kept.value ≡ Some u → after.kept.value ≡ Some v → common_of v ≡ common_of u → HasTriedKept call status out u v → SharedTriedKept call before after status out
    kept_open u v was is common has = on_open before after u v status _ _ was is common has

    pub kept_closed : before.kept.value ≡ None → after ≡ before → status ≡ refusal after.state → out ≡ no_outcome → SharedTriedKept call before after status out
    kept_closed was is number shown = on_closed before after status _ _ was is number shown
