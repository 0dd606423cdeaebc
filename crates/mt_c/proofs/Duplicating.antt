-- A copy of a shared tree that was made under its lock, or why there is none.
use Rattle.mt_c.proofs.Prelude.{◌≡◌, ◌≢◌, ◌∙◌, ◌++◌, ◌∷◌, [], ℕ, List, Option, Some, None, refl, sym, ap, subst, inl, inr, ◌↔◌, IfErr, IfOk, Result, Ok, Err, Range, History, Busy, DupError, Field, Look, Shape, Tree, IsCopyLooked, IsFit, IsLiveCounted, WasCounted, first_bad, IsNew, Pass, live_rows, map_seen, opened, looked_words, pass_in, steps_made, turn_seat, IsBusyOf, User, UserHandle, Walker, CopiesTo, HasCopied, HasMade, IsMadeBy, IsMadeIn, HasLooked, KeepsOff, IsTriedCopy, IsUnmade, MadeOrWhy, SharedCopied, when_looked, refusal, unopened, first_in, no_receipts, IsFirstUser, SharedKept, StaysAs, dup_status, shape_for, common_of, cuts, user_tree, Takes, IsLeftClosed, IsOnNoWalk, knows, known_to, shut, Global, Vec}
use Rattle.mt_base.specs.Passes as known
use Rattle.mt_rule.specs.Turns as turns
use Rattle.mt_tree.specs.declared.shapes.DupError.TheVariants as errors
use Rattle.mt_c.proofs.Using.{is_first, tried_shut}
use Rattle.mt_c.proofs.Sharing.{kept_off, kept_on, left_none, left_some}

-- ---- what a handle's try came to

module _ (shape : Shape) (t : Tree) (same : shape.kind ≡ (opened t).kind) where
  abbrev SaysBad : MadeOrWhy → Type 0
  SaysBad made = (field : Field) → (made ≡ Err (errors.BadShape field)) ↔ (first_bad shape ≡ Some field)

  abbrev SaysKind : MadeOrWhy → Type 0
  SaysKind made = (made ≡ Err errors.Invalid) ↔ ((first_bad shape ≡ None) × (shape.kind ≢ (opened t).kind))

  in_range : SaysBad (Err errors.NoMemory) → first_bad shape ≡ None
  in_range bad = by_case (first_bad shape) refl
    where
      by_case : (o : Option Field) → first_bad shape ≡ o → first_bad shape ≡ None
      by_case None is = is
      by_case (Some field) is = let e : ◌≡◌ {A = MadeOrWhy} (Err errors.NoMemory) (Err (errors.BadShape field)) = (bad field).1 is in absurd (cc)

  unmade : (made : MadeOrWhy) → SaysBad made → SaysKind made → ¬ WasCounted made → IsUnmade shape made
  unmade (Ok r) bad kind none = absurd (none tt)
  unmade (Err (errors.BadShape field)) bad kind none = (bad field).0 refl
  unmade (Err errors.Invalid) bad kind none = absurd ((kind.0 refl).1 same)
  unmade (Err (errors.NoNodes rows live)) bad kind none = absurd (none tt)
  unmade (Err errors.NoMemory) bad kind none = in_range bad

  made_by : (q : known.Pass) (look : Look) (made : MadeOrWhy) → first_bad shape ≡ None → SaysBad made → SaysKind made → IsLiveCounted (live_rows (looked_words look)) shape.rows made → IfOk made (λ r. IsNew shape (map_seen t q) r.0 r.1.items) → IsMadeBy shape t q look made
  made_by q look (Ok r) good bad kind counted new = (counted.enough refl, new)
  made_by q look (Err (errors.BadShape field)) good bad kind counted new = let both : None ≡ Some field = sym good ∙ (bad field).0 refl in absurd (cc)
  made_by q look (Err errors.Invalid) good bad kind counted new = absurd ((kind.0 refl).1 same)
  made_by q look (Err (errors.NoNodes rows live)) good bad kind counted new = (counted.few rows live refl).2
  made_by q look (Err errors.NoMemory) good bad kind counted new = tt

  module _ (w v w' : Walker) (before : Takes 1 w.pass v.pass) (was : knows v ≡ shut w) where
    made_in : (made : MadeOrWhy) (look : Option Look) → SaysBad made → SaysKind made → IsCopyLooked t v.pass w'.pass shape made look → IfOk made (λ r. IsNew shape (map_seen t (knows w')) r.0 r.1.items) → IsMadeIn shape t w made look w'
    made_in made None bad kind looked new = ((subst (Takes 1 w.pass) (sym looked.0) before, ap pass_in looked.0 ∙ was), unmade made bad kind looked.1)
    made_in made (Some look) bad kind looked new =
        let fit : IsFit shape (opened t).kind = looked.0 in
        record {
          looked = (tried_shut w v w' before looked.1, subst (λ (p : known.Pass). known.Saw (opened t) p (knows w')) was looked.2, looked.3);
          good = fit.0;
          by = made_by (knows w') look made fit.0 bad kind looked.4 new;
        }

    pub tried_copy : (found : Result (MadeOrWhy × Option Look) Busy) → IfOk found (λ r. SaysBad r.0) → IfOk found (λ r. SaysKind r.0) → IfOk found (λ r. IsCopyLooked t v.pass w'.pass shape r.0 r.1) → IfOk found (λ r. IfOk r.0 (λ made. IsNew shape (map_seen t (pass_in w'.pass)) made.0 made.1.items))
        → IfErr found (λ _. IsFit shape (opened t).kind) → IfErr found (IsBusyOf t) → IfErr found (λ _. w'.pass ≡ turns.tried v.pass) → IsTriedCopy shape t w found w'
    tried_copy (Ok r) bad kind looked new fit busy kept = made_in r.0 r.1 bad kind looked new
    tried_copy (Err why) bad kind looked new fit busy kept = ((tried_shut w v w' before (record { steps = ap steps_made kept; turn = ap turn_seat kept }), busy, ap pass_in kept ∙ was), fit.0)

-- a copy opens no section
pub copy_shut : (t : Tree) (a b : Pass) (shape : Shape) (found : Result (MadeOrWhy × Option Look) Busy) → IfOk found (λ r. IsCopyLooked t a b shape r.0 r.1) → IfErr found (λ _. b ≡ turns.tried a) → (pass_in a).standing ≡ None → (pass_in b).standing ≡ None
copy_shut t a b shape (Ok r) looked kept off = by r.1 looked
  where
    by : (look : Option Look) → IsCopyLooked t a b shape r.0 look → (pass_in b).standing ≡ None
    by None none = ap (λ (x : Pass). (pass_in x).standing) none.0 ∙ off
    by (Some look) looked = ap (λ (x : known.Pass). x.standing) looked.2.pass ∙ off
copy_shut t a b shape (Err busy) looked kept off = ap (λ (x : Pass). (pass_in x).standing) kept ∙ off

-- ---- a new tree, and its first user

pub new_opening : (shape : Shape) (m : List Range) (t : Tree) (ps : List Pass) → IsNew shape m t ps → IsNew shape (opened t).opening t ps
new_opening shape m t ps new = subst (λ (x : List Range). IsNew shape x t ps) (sym (ap (λ (h : History). h.opening) new.tree)) new

pub first_made : {E : Type 0} (shape : Shape) (m : List Range) (t : Tree) (ps : List Pass) (made : Result User E) → IsNew shape m t ps → IfOk made (λ u. user_tree u ≡ t) → IfOk made (λ u. ps ≡ (first_in (common_of u)).passes.items ++ u.walker.pass ∷ []) → IfOk made (λ u. cuts u ≡ 0)
    → IfOk made (λ u. u.walker.walk ≡ None) → IfOk made (λ u. u.receipts ≡ no_receipts) → IfOk made (IsFirstUser shape m)
first_made shape m t ps (Ok u) new tree passes chair walk none = is_first shape m t ps u new tree passes chair walk none
first_made shape m t ps (Err e) new tree passes chair walk none = tt

-- ---- what a user was told

module _ (shape : Shape) (u v : User) where
  made_told : (made : MadeOrWhy) (look : Option Look) (t : Tree) (ps : Vec Pass Global) → IsMadeIn shape (user_tree u) u.walker made look v.walker → made ≡ Ok (t, ps) → v.receipts ≡ when_looked look u.receipts → HasMade shape t ps.items u v
  made_told made None t ps is ok kept = absurd (subst (IsUnmade shape) ok is.1)
  made_told made (Some look) t ps is ok kept =
      let by : IsMadeBy shape (user_tree u) (known_to v) look (Ok (t, ps)) = subst (IsMadeBy shape (user_tree u) (known_to v) look) ok is.by in
      (look, (is.looked, kept), is.good, by.0, by.1)

  pub copy_looked : (found : Result (MadeOrWhy × Option Look) Busy) (made : MadeOrWhy) (look : Option Look) (t : Tree) (ps : Vec Pass Global) → found ≡ Ok (made, look) → made ≡ Ok (t, ps) → IsTriedCopy shape (user_tree u) u.walker found v.walker → v.receipts ≡ when_looked look u.receipts → HasMade shape t ps.items u v
  copy_looked found made look t ps is ok tried kept = made_told made look t ps (subst (λ (r : Result (MadeOrWhy × Option Look) Busy). IsTriedCopy shape (user_tree u) u.walker r v.walker) is tried) ok kept

  lacks_off : (why : DupError) → KeepsOff u v → IsUnmade shape (Err why) → HasCopied shape None (dup_status why) u v
  lacks_off (errors.BadShape field) off is = inl ((field, is, refl), off)
  lacks_off errors.Invalid off is = absurd is
  lacks_off (errors.NoNodes rows live) off is = absurd is
  lacks_off errors.NoMemory off is = inr (is, inr (inr (refl, inl off)))

  lacks_looked : (why : DupError) (look : Look) → HasLooked look u v → first_bad shape ≡ None → IsMadeBy shape (user_tree u) (known_to v) look (Err why) → HasCopied shape None (dup_status why) u v
  lacks_looked (errors.BadShape field) look looked good is = absurd is
  lacks_looked errors.Invalid look looked good is = absurd is
  lacks_looked (errors.NoNodes rows live) look looked good is = inr (good, inr (inl (refl, look, looked, is)))
  lacks_looked errors.NoMemory look looked good is = inr (good, inr (inr (refl, inr (look, looked))))

  lacks_by : (why : DupError) (look : Option Look) → IsMadeIn shape (user_tree u) u.walker (Err why) look v.walker → v.receipts ≡ when_looked look u.receipts → HasCopied shape None (dup_status why) u v
  lacks_by why None is kept = lacks_off why (is.0, kept) is.1
  lacks_by why (Some look) is kept = lacks_looked why look (is.looked, kept) is.good is.by

  -- what the tree said of the shape
  pub copy_lacks : (found : Result (MadeOrWhy × Option Look) Busy) (made : MadeOrWhy) (look : Option Look) (why : DupError) (status : ℕ) → found ≡ Ok (made, look) → made ≡ Err why → IsTriedCopy shape (user_tree u) u.walker found v.walker → v.receipts ≡ when_looked look u.receipts → status ≡ dup_status why
      → HasCopied shape None status u v
  copy_lacks found made look why status is lacks tried kept number =
      let one : IsMadeIn shape (user_tree u) u.walker made look v.walker = subst (λ (r : Result (MadeOrWhy × Option Look) Busy). IsTriedCopy shape (user_tree u) u.walker r v.walker) is tried in
      subst (λ (n : ℕ). HasCopied shape None n u v) (sym number) (lacks_by why look (subst (λ (m : MadeOrWhy). IsMadeIn shape (user_tree u) u.walker m look v.walker) lacks one) kept)

  pub copy_taken : (found : Result (MadeOrWhy × Option Look) Busy) (busy : Busy) → found ≡ Err busy → IsTriedCopy shape (user_tree u) u.walker found v.walker → v.receipts ≡ record u.receipts { locked = Some busy } → HasCopied shape None 11 u v
  copy_taken found busy is tried kept =
      let one : IsTriedCopy shape (user_tree u) u.walker (Err busy) v.walker = subst (λ (r : Result (MadeOrWhy × Option Look) Busy). IsTriedCopy shape (user_tree u) u.walker r v.walker) is tried in
      inr (one.1, inl (refl, (busy, one.0, kept)))

-- the shape that was meant
module _ (shape want : Shape) (same : shape ≡ want) (u v : User) where
  pub copy_as : (o : Option User) (status : ℕ) → HasCopied shape o status u v → HasCopied want o status u v
  copy_as o status is = subst (λ (s : Shape). HasCopied s o status u v) same is

  module _ (t : Tree) (ps : List Pass) (made : HasMade shape t ps u v) where
    -- the copy opens with the map that the user has seen
    pub copy_made : (w : User) → IsFirstUser shape (opened t).opening w → HasCopied want (Some w) 0 u v
    copy_made w first =
        let new : IsNew shape (map_seen (user_tree u) (known_to v)) t ps = made.4 in
        copy_as (Some w) 0 (refl, (made.0, made.1, made.3, (made.2, subst (λ (x : List Range). IsFirstUser shape x w) (ap (λ (h : History). h.opening) new.tree) first)))

    pub copy_short : HasCopied want None 12 u v
    copy_short = copy_as None 12 (inr (made.2, inr (inr (refl, inr (made.0, made.1)))))

pub made_opening : (shape : Shape) (u v : User) (t : Tree) (ps : List Pass) → HasMade shape t ps u v → IsNew shape (opened t).opening t ps
made_opening shape u v t ps made = new_opening shape (map_seen (user_tree u) (known_to v)) t ps made.4

-- ---- what C keeps

module _ (rows passes calls : ℕ) (before after other other' : UserHandle) (status : ℕ) where
  copied_kept : (u v : User) → before.kept.value ≡ Some u → after.kept.value ≡ Some v → CopiesTo (unopened other.state) (shape_for (opened (user_tree u)).kind rows passes calls) u v other other' status → SharedCopied rows passes calls before after other other' status
  copied_kept u v was is said =
      kept_on before.kept.value after.kept.value (StaysAs before after status × (other' ≡ other)) (λ a b. CopiesTo (unopened other.state) (shape_for (opened (user_tree a)).kind rows passes calls) a b other other' status) u v was is said

  pub copied_closed : before.kept.value ≡ None → after ≡ before → other' ≡ other → status ≡ refusal after.state → SharedCopied rows passes calls before after other other' status
  copied_closed was is same number =
      kept_off before.kept.value after.kept.value (StaysAs before after status × (other' ≡ other)) (λ a b. CopiesTo (unopened other.state) (shape_for (opened (user_tree a)).kind rows passes calls) a b other other' status) was ((is, number), same)

  pub copied_busy : (u : User) (number : ℕ) → before.kept.value ≡ Some u → after.kept.value ≡ Some u → unopened other.state ≡ Some number → other' ≡ other → status ≡ number → SharedCopied rows passes calls before after other other' status
  copied_busy u number was is taken same told = copied_kept u u was is (subst (λ (o : Option ℕ). CopiesTo o (shape_for (opened (user_tree u)).kind rows passes calls) u u other other' status) (sym taken) (refl, same, told))

  module _ (u v : User) (was : before.kept.value ≡ Some u) (is : after.kept.value ≡ Some v) (closed : other.state ≡ 0) (common : common_of v ≡ common_of u) (chair : v.chair ≡ u.chair) (off : IsOnNoWalk v.walker) where
    opens : (o : Option User) → other'.kept.value ≡ o → IsLeftClosed other' → HasCopied (shape_for (opened (user_tree u)).kind rows passes calls) o status u v → SharedCopied rows passes calls before after other other' status
    opens o made left has =
        copied_kept u v was is (subst (λ (x : Option ℕ). CopiesTo x (shape_for (opened (user_tree u)).kind rows passes calls) u v other other' status) (sym (ap unopened closed))
        (left, common, chair, off, subst (λ (x : Option User). HasCopied (shape_for (opened (user_tree u)).kind rows passes calls) x status u v) (sym made) has))

    pub copied_made : (w : User) → other'.kept.value ≡ Some w → status ≡ 0 → HasCopied (shape_for (opened (user_tree u)).kind rows passes calls) (Some w) 0 u v → SharedCopied rows passes calls before after other other' status
    copied_made w made number has = opens (Some w) made (left_some other' w made) (number, has.1)

    pub copied_none : other'.kept.value ≡ None → other'.state ≡ 0 → HasCopied (shape_for (opened (user_tree u)).kind rows passes calls) None status u v → SharedCopied rows passes calls before after other other' status
    copied_none still shut has = opens None still (left_none other' shut) has

pub ruleset copied_so = (copied_closed, copied_busy, copied_made, copied_none)
