-- A step of a walk that looks no further than an index.
use Rattle.mt_c.proofs.Prelude.{◌≡◌, ◌∙◌, ℕ, Option, Some, None, refl, sym, ap, subst, Ok, Range, place_behind, Read, Tree, CallWindow, OutWalk, OutRange, User, UserHandle, Walker, IsLeftTo, SharedSteppedTo, SteppedTo, StepsTo, place_to, found_status, no_range, out_of, refusal, OwnTree, answer_status, common_of, no_window, user_tree, window_of, StepsFrom, knows, IsStepped, walk_index, walk_from, up_to}
use Rattle.mt_c.proofs.Sharing.{on_closed, on_open}

-- ---- the walk of a pass

pub steps_on : (t : Tree) (w v w' : Walker) (max at : ℕ) (place from : Option ℕ) (found r : Read (Option Range)) (value : Option Range) → from ≡ place → StepsFrom t w from found v → value ≡ up_to max found.value → place_behind value max ≡ Some at
    → r ≡ record { lo = found.lo; hi = found.hi; value = value } → w' ≡ v → StepsTo t w max place r w'
steps_on t w v w' max at place from found r value same steps is goes told stays = record {
  found = found;
  there = v;
  steps = subst (λ (o : Option ℕ). StepsFrom t w o found v) same steps;
  told = told ∙ ap (λ (o : Option Range). record { lo = found.lo; hi = found.hi; value = o }) is;
  left = subst (λ (o : Option ℕ). IsLeftTo o v w') (sym (ap (λ (x : Read (Option Range)). place_behind x.value max) told ∙ goes)) stays;
}

pub steps_off : (t : Tree) (w v w' : Walker) (max : ℕ) (place from : Option ℕ) (found r : Read (Option Range)) (value : Option Range) → from ≡ place → StepsFrom t w from found v → value ≡ up_to max found.value → place_behind value max ≡ None
    → r ≡ record { lo = found.lo; hi = found.hi; value = value } → knows w' ≡ record (knows v) { standing = None } → w'.walk ≡ None → StepsTo t w max place r w'
steps_off t w v w' max place from found r value same steps is ends told known none = record {
  found = found;
  there = v;
  steps = subst (λ (o : Option ℕ). StepsFrom t w o found v) same steps;
  told = told ∙ ap (λ (o : Option Range). record { lo = found.lo; hi = found.hi; value = o }) is;
  left = subst (λ (o : Option ℕ). IsLeftTo o v w') (sym (ap (λ (x : Read (Option Range)). place_behind x.value max) told ∙ ends)) (known, none);
}

-- ---- what C is told

module _ (max : ℕ) (walk walk' : OutWalk) (before after : Option OwnTree) (status : ℕ) (out : OutRange) where
  pub stepped_open : (t t' : OwnTree) (index place behind goes : Option ℕ) (found value : Option Range) → before ≡ Some t → after ≡ Some t' → index ≡ walk_index walk → place ≡ place_to max index → IsStepped t t' place found → behind ≡ t'.place.next
      → goes ≡ place_to max behind → value ≡ up_to max found → status ≡ found_status value → out ≡ out_of value → walk' ≡ walk_from goes → SteppedTo max walk before after status out walk'
  stepped_open t t' index place behind goes found value was is from bound step ends on told number shown left =
      subst (λ (x : Option OwnTree × Option OwnTree). SteppedTo max walk x.0 x.1 status out walk') (λ i. (sym was i, sym is i))
      (found, subst (λ (o : Option ℕ). IsStepped t t' o found) (bound ∙ ap (place_to max) from) step, number ∙ ap found_status told, shown ∙ ap out_of told, left ∙ ap walk_from (on ∙ ap (place_to max) (ends ∙ step.place)))

  pub stepped_closed : before ≡ None → after ≡ None → status ≡ 9 → out ≡ no_range → walk' ≡ walk → SteppedTo max walk before after status out walk'
  stepped_closed was is number shown stays = subst (λ (x : Option OwnTree × Option OwnTree). SteppedTo max walk x.0 x.1 status out walk') (λ i. (sym was i, sym is i)) (refl, number, shown, stays)

module _ (max : ℕ) (w w' : OutWalk) (before after : UserHandle) (status : ℕ) (out : CallWindow) where
  pub shared_open : (from : Option ℕ) (u v : User) (r : Read (Option Range)) → from ≡ walk_index w → before.kept.value ≡ Some u → after.kept.value ≡ Some v → common_of v ≡ common_of u → v.chair ≡ u.chair → v.receipts ≡ u.receipts
      → StepsTo (user_tree u) u.walker max (place_to max from) r v.walker → status ≡ answer_status (Ok r) → out ≡ window_of (Ok r) → w' ≡ walk_from (place_behind r.value max) → SharedSteppedTo max w w' before after status out
  shared_open from u v r place was is common chair kept said number shown behind =
      let stepped = subst (λ (i : Option ℕ). StepsTo (user_tree u) u.walker max (place_to max i) r v.walker) place said in
      on_open before after u v status _ _ was is common (r, stepped, record { common = common; chair = chair; receipts = kept }, number, shown, behind)

  pub shared_closed : before.kept.value ≡ None → after ≡ before → status ≡ refusal after.state → out ≡ no_window → w' ≡ w → SharedSteppedTo max w w' before after status out
  shared_closed was is number shown same = on_closed before after status _ _ was is number (shown, same)
