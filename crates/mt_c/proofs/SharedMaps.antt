-- A shared tree that opens with a map, or why there is none.
use Rattle.mt_c.proofs.Prelude.{◌≡◌, ◌≢◌, ◌∙◌, ℕ, Option, Some, None, refl, sym, ap, subst, inl, inr, ◌↔◌, IfOk, Result, Ok, Err, Kind, map_by, Rooted, Parts, DupError, Field, Shape, IsLiveCounted, live_rows, first_bad, User, UserHandle, IsAsked, OwnTree, unopened, IfClosed, IsFirstWith, LacksWith, OpensFirst, OpensWith, SharedOfTree, dup_status, shape_for, IsLeftClosed}
use Rattle.mt_tree.specs.declared.shapes.DupError.TheVariants as errors
use Rattle.mt_c.proofs.Sharing.{left_none, left_some}

-- ---- a user of a tree that was made of rows, or none

module _ {X : Type 0} (shape : Shape) (made : Result X DupError) (bad : (field : Field) → (made ≡ Err (errors.BadShape field)) ↔ (first_bad shape ≡ Some field)) where
  -- a shape of which a tree was made is in range
  pub good_shape : (x : X) → made ≡ Ok x → first_bad shape ≡ None
  good_shape x ok = by_case (first_bad shape) refl
    where
      by_case : (o : Option Field) → first_bad shape ≡ o → first_bad shape ≡ None
      by_case None is = is
      by_case (Some field) is = let e : made ≡ Err (errors.BadShape field) = (bad field).1 is in cc

  -- so is one that is refused for something else
  good_beside : ((field : Field) → made ≢ Err (errors.BadShape field)) → first_bad shape ≡ None
  good_beside other = by_case (first_bad shape) refl
    where
      by_case : (o : Option Field) → first_bad shape ≡ o → first_bad shape ≡ None
      by_case None is = is
      by_case (Some field) is = absurd (other field ((bad field).1 is))

  module _ (words : Rooted) (kind : Kind) (same : shape.kind ≡ kind) (counted : IsLiveCounted (live_rows words) shape.rows made) (invalid : (made ≡ Err errors.Invalid) ↔ ((first_bad shape ≡ None) × (shape.kind ≢ kind))) where
    by_why : (why : DupError) → made ≡ Err why → LacksWith shape words (dup_status why)
    by_why (errors.BadShape field) is = inl (field, (bad field).0 is, refl)
    by_why errors.Invalid is = absurd ((invalid.0 is).1 same)
    by_why (errors.NoNodes rows live) is = inr (good_beside (λ field e. let other : ◌≡◌ {A = Result X DupError} (Err (errors.NoNodes rows live)) (Err (errors.BadShape field)) = sym is ∙ e in absurd (cc)), inl (refl, (counted.few rows live is).2))
    by_why errors.NoMemory is = inr (good_beside (λ field e. let other : ◌≡◌ {A = Result X DupError} (Err errors.NoMemory) (Err (errors.BadShape field)) = sym is ∙ e in absurd (cc)), inr refl)

    pub lacks_with : (why : DupError) (status : ℕ) → made ≡ Err why → status ≡ dup_status why → LacksWith shape words status
    lacks_with why status is number = subst (LacksWith shape words) (sym number) (by_why why is)

-- memory ran out for a shape that is in range
pub lacks_memory : (shape : Shape) (words : Rooted) (status : ℕ) → first_bad shape ≡ None → status ≡ 12 → LacksWith shape words status
lacks_memory shape words status good number = inr (good, inr number)

-- of an engine by whichever name, whose kind is the shape's
pub first_told : {X : Type 0} (e t : Parts) (shape : Shape) (rows passes calls : ℕ) (made : Result X ℕ) (user_of : X → User) → shape ≡ shape_for e.kind rows passes calls → e ≡ t → IfOk made (λ x. IsFirstWith shape (map_by e.sheet.tree) (user_of x))
    → IfOk made (λ x. IsFirstWith (shape_for t.kind rows passes calls) (map_by t.sheet.tree) (user_of x))
first_told e t shape rows passes calls made user_of is same first =
    subst (λ (y : Parts). IfOk made (λ x. IsFirstWith (shape_for y.kind rows passes calls) (map_by y.sheet.tree) (user_of x))) same
    (subst (λ (s : Shape). IfOk made (λ x. IsFirstWith s (map_by e.sheet.tree) (user_of x))) is first)

-- ---- what C keeps

module _ (rows passes calls : ℕ) (before after : Option OwnTree) (other other' : UserHandle) (status : ℕ) where
  pub of_closed : before ≡ None → after ≡ None → other' ≡ other → status ≡ 9 → SharedOfTree rows passes calls before after other other' status
  of_closed was is same number = subst (λ (x : Option OwnTree). SharedOfTree rows passes calls x after other other' status) (sym was) (is, same, number)

  module _ (t t' : OwnTree) (was : before ≡ Some t) (is : after ≡ Some t') (asked : IsAsked t.engine t'.engine) where
    abbrev shape : Shape
    shape = shape_for t.engine.kind rows passes calls

    opens : OpensFirst shape t.engine.sheet.tree other other' status → SharedOfTree rows passes calls before after other other' status
    opens so = subst (λ (x : Option OwnTree × Option OwnTree). SharedOfTree rows passes calls x.0 x.1 other other' status) (λ i. (sym was i, sym is i)) (asked, so)

    opens_so : (o : Option User) → other.state ≡ 0 → other'.kept.value ≡ o → IsLeftClosed other' → OpensWith shape t.engine.sheet.tree o status → SharedOfTree rows passes calls before after other other' status
    opens_so o closed made left so =
        opens (subst (λ (x : Option ℕ × Option User). IfClosed x.0 other other' status (OpensWith shape t.engine.sheet.tree x.1 status)) (λ i. (sym (ap unopened closed) i, sym made i)) (left, so))

    pub of_made : (u : User) → other.state ≡ 0 → other'.kept.value ≡ Some u → status ≡ 0 → IsFirstWith shape (map_by t.engine.sheet.tree) u → SharedOfTree rows passes calls before after other other' status
    of_made u closed made number first = opens_so (Some u) closed made (left_some other' u made) (number, first)

    pub of_none : other.state ≡ 0 → other'.kept.value ≡ None → other'.state ≡ 0 → LacksWith shape t.engine.sheet.tree status → SharedOfTree rows passes calls before after other other' status
    of_none closed none shut lacks = opens_so None closed none (left_none other' shut) lacks

  -- the user was not closed, and the tree is as it was
  pub of_open : (t : OwnTree) (number : ℕ) → before ≡ Some t → after ≡ Some t → unopened other.state ≡ Some number → other' ≡ other → status ≡ number → SharedOfTree rows passes calls before after other other' status
  of_open t number was is taken same told =
      opens t t was is (record { rest = refl; book = refl; kind = refl }) (subst (λ (o : Option ℕ). IfClosed o other other' status (OpensWith (shape t t was is (record { rest = refl; book = refl; kind = refl })) t.engine.sheet.tree other'.kept.value status)) (sym taken) (same, told))

pub ruleset of_tree = (of_closed, of_open, of_made, of_none)
