-- Several calls of a user under one lock of its tree.
use Rattle.mt_c.proofs.Prelude.{◌≡◌, ◌∙◌, ℕ, Bool, true, false, List, Some, None, length, sym, ap, subst, IfErr, IfOk, Ok, Err, Tree, Pass, pass_in, IsBusyOf, User, UserHandle, refusal, common_of, known_to, paused, user_tree, TriedOnce, IsTriedEach, SharedTriedEach, TriedEach, TriesIf, are_meant, call_meant, each_status, told_call, when_each, LacksCalls, WereMade}
use Rattle.mt_base.specs.Passes as known
use Rattle.mt_rule.specs.Turns as turns
use Rattle.mt_c.specs.declared.call_lists.OutCall.{OutCall}
use Rattle.mt_c.proofs.Sharing.{on_closed, on_open}

-- what a pass that was paused came to
pub each_tried : (t : Tree) (p : known.Pass) (a b : Pass) (calls calls' : List OutCall) (tried : TriedEach) → pass_in a ≡ p
    → IfOk tried (λ each. IfOk each (λ _. (n : ℕ) × WereMade call_meant told_call t n (pass_in a) calls calls' (pass_in b))) → IfOk tried (λ each. IfErr each (λ w. LacksCalls t (pass_in a) (length calls) w (pass_in b) × (calls' ≡ calls)))
    → IfErr tried (IsBusyOf t) → IfErr tried (λ _. (b ≡ turns.tried a) × (calls' ≡ calls)) → IsTriedEach t p calls calls' tried (pass_in b)
each_tried t p a b calls calls' (Ok (Ok all)) was made worn busy kept = subst (λ (x : known.Pass). IsTriedEach t x calls calls' (Ok (Ok all)) (pass_in b)) was made
each_tried t p a b calls calls' (Ok (Err w)) was made worn busy kept = subst (λ (x : known.Pass). IsTriedEach t x calls calls' (Ok (Err w)) (pass_in b)) was worn
each_tried t p a b calls calls' (Err why) was made worn busy kept = (busy, ap pass_in kept.0 ∙ was, kept.1)

module _ (calls calls' : List OutCall) (status : ℕ) (u v : User) where
  pub each_made : (tried : TriedEach) → are_meant calls ≡ true → IsTriedEach (user_tree u) (paused u) calls calls' tried (known_to v) → TriedOnce u.walker v.walker → v.walker.walk ≡ None → v.chair ≡ u.chair → v.receipts ≡ when_each tried u.receipts
      → status ≡ each_status tried → TriesIf (are_meant calls) calls calls' status u v
  each_made tried meant said once off chair kept number = subst (λ (b : Bool). TriesIf b calls calls' status u v) (sym meant) (tried, said, once, off, chair, kept, number)

  pub none_meant : are_meant calls ≡ false → v ≡ u → calls' ≡ calls → status ≡ 22 → TriesIf (are_meant calls) calls calls' status u v
  none_meant meant same stand number = subst (λ (b : Bool). TriesIf b calls calls' status u v) (sym meant) (same, stand, number)

module _ (calls calls' : List OutCall) (before after : UserHandle) (status : ℕ) where
  pub each_open : (u v : User) → before.kept.value ≡ Some u → after.kept.value ≡ Some v → common_of v ≡ common_of u → TriesIf (are_meant calls) calls calls' status u v → SharedTriedEach calls calls' before after status
  each_open u v was is common has = on_open before after u v status _ _ was is common has

  pub each_closed : before.kept.value ≡ None → after ≡ before → status ≡ refusal after.state → calls' ≡ calls → SharedTriedEach calls calls' before after status
  each_closed was is number stand = on_closed before after status _ _ was is number stand
