-- Stores that tell all ranges that they meet: what C gets of them.
use Rattle.mt_c.proofs.Prelude.{◌≡◌, ◌∙◌, ℕ, List, Option, Some, None, Ok, Err, IfErr, IfOk, refl, sym, ap, subst, map_by, Reply, Parts, OwnTree, IsAsked, OutRange, Tree, Pass, pass_in, IsBusyOf, WasMade, User, UserHandle, Outcome, refusal, no_outcome, outcome_of, tried_status, when_tried, common_of, known_to, paused, user_tree, TriedOnce, Store, MadeOrSpent, range_out, status_of, word_in_c, HasTriedOver, IsTriedOver, SharedTriedOver, StoredOver, StoresOver, TriedOver, met_count, tried_alone, TellsMet, map_met, ranges_met}
use Rattle.mt_base.specs.Passes as known
use Rattle.mt_rule.specs.Turns as turns
use Rattle.mt_c.proofs.Sharing.{on_closed, on_open}

-- ---- a tree of one's own

pub stores_over : (first last entry : ℕ) (met met' : List OutRange) (count : ℕ) (t t' : OwnTree) (read : Parts) (made : Option Reply) → TellsMet range_out (ranges_met (map_by t.engine.sheet.tree) first last) met met' count → IsAsked t.engine read
    → MadeOrSpent read t'.engine (Store first last entry) made → StoresOver first last entry met met' count t t' made
stores_over first last entry met met' count t t' read made told asked stored = (told, read, asked, stored)

module _ (first last entry : ℕ) (met met' : List OutRange) (count : ℕ) (before after : Option OwnTree) (status old : ℕ) where
  pub over_open : (t t' : OwnTree) (made : Option Reply) → before ≡ Some t → after ≡ Some t' → StoresOver first last entry met met' count t t' made → status ≡ status_of made → old ≡ word_in_c made
      → StoredOver first last entry met met' count before after status old
  over_open t t' made was is stores number word = subst (λ (x : Option OwnTree × Option OwnTree). StoredOver first last entry met met' count x.0 x.1 status old) (λ i. (sym was i, sym is i)) (made, stores, number, word)

  pub over_closed : before ≡ None → after ≡ None → status ≡ 9 → old ≡ 0 → count ≡ 0 → met' ≡ met → StoredOver first last entry met met' count before after status old
  over_closed was is number none few same = subst (λ (x : Option OwnTree × Option OwnTree). StoredOver first last entry met met' count x.0 x.1 status old) (λ i. (sym was i, sym is i)) (refl, number, none, few, same)

-- ---- a shared tree

-- what a pass that was paused came to
pub over_tried : (t : Tree) (p : known.Pass) (a b : Pass) (first last entry : ℕ) (met met' : List OutRange) (tried : TriedOver) → pass_in a ≡ p → IfOk tried (λ r. WasMade t (pass_in a) (Store first last entry) r.0 (pass_in b))
    → IfOk tried (λ r. TellsMet range_out (ranges_met (map_met t r.0 (pass_in b)) first last) met met' r.1) → IfErr tried (IsBusyOf t) → IfErr tried (λ _. (b ≡ turns.tried a) × (met' ≡ met))
    → IsTriedOver t p first last entry met met' tried (pass_in b)
over_tried t p a b first last entry met met' (Ok r) was made told busy kept = (subst (λ (x : known.Pass). WasMade t x (Store first last entry) r.0 (pass_in b)) was made, told)
over_tried t p a b first last entry met met' (Err why) was made told busy kept = (busy, ap pass_in kept.0 ∙ was, kept.1)

module _ (first last entry : ℕ) (met met' : List OutRange) (count status : ℕ) (out : Outcome) where
  pub has_tried_over : (u v : User) (tried : TriedOver) → IsTriedOver (user_tree u) (paused u) first last entry met met' tried (known_to v) → TriedOnce u.walker v.walker → v.walker.walk ≡ None → v.chair ≡ u.chair
      → v.receipts ≡ when_tried (tried_alone tried) u.receipts → status ≡ tried_status (tried_alone tried) → out ≡ outcome_of (tried_alone tried) → count ≡ met_count tried → HasTriedOver first last entry met met' count status out u v
  has_tried_over u v tried said once off chair kept number shown few = (tried, said, once, off, chair, kept, number, shown, few)

  module _ (before after : UserHandle) where
    pub tried_over_open : (u v : User) → before.kept.value ≡ Some u → after.kept.value ≡ Some v → common_of v ≡ common_of u → HasTriedOver first last entry met met' count status out u v → SharedTriedOver first last entry met met' count before after status out
    tried_over_open u v was is common has = on_open before after u v status _ _ was is common has

    pub tried_over_closed : before.kept.value ≡ None → after ≡ before → status ≡ refusal after.state → out ≡ no_outcome → count ≡ 0 → met' ≡ met → SharedTriedOver first last entry met met' count before after status out
    tried_over_closed was is number shown few same = on_closed before after status _ _ was is number (shown, few, same)
