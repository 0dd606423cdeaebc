-- Each step at a keep keeps its rule.
use Rattle.mt_keep.proofs.Prelude.{◌≡◌, ◌≢◌, Bool, ℕ, zero, suc, List, [], ◌∷◌, ◌++◌, set, get_or, true, false, true≢false, refl, sym, ap, ◌∙◌, subst, arith, Option, Some, None, none-some, none, some, some-ne-none, some-injective, get_elem?, at_longer, set_else, State, Me, Act, Valid, step, keeps, takes, gives, stepped, carried_after, Allows, Splits, opening, Snapshot, each_set, each_split, Sight, Start, waiting, one_further, cuts_in, holding, given_back, refused, taken_bit, last_of, Visit, HasGrabbed, SeatFits, HasOneHolder, grabs, releases}
use mathlib.Core.Option as maybe

off : false ≡ true → ⊥
off e = true≢false (sym e)

abbrev pub snap : {C : Type 0} → C → Snapshot C
snap c = record { marker = record {}; value = c }

pub same_snap : {C : Type 0} (a b : Snapshot C) → a.value ≡ b.value → a ≡ b
same_snap a b e = λ i. record { marker = record {}; value = e i }

-- a seat has the view that it is given
view_set : {V : Type 0} (views : List V) (by : ℕ) (v w : V) → get_elem? views by ≡ some v → get_elem? (set views by w) by ≡ some w
view_set [] by v w e = absurd (some-ne-none v (sym e))
view_set (x ∷ views) zero v w e = refl
view_set (x ∷ views) (suc by) v w e = view_set views by v w e

module _ {K C : Type 0} (fits : K → C → Type 0) (key : Start C K) where
  abbrev V : Type 0
  V = Sight C K

  abbrev M : Type 0
  M = Me (Option C) V

  abbrev Rule : State (Option C) V → Type 0
  Rule = HasOneHolder fits key

  abbrev Fits : ℕ → maybe.Option (Option C) → Bool → List (Visit C) → ℕ → V → Type 0
  Fits = SeatFits fits key

  abbrev Knows : List V → List (Visit C) → Type 0
  Knows views visits = (n : ℕ) (v : Visit C) → get_elem? visits n ≡ some v → get_elem? views v.by ≡ some (given_back key v.cuts v.took v.gave)

  -- a seat that has given nothing back and does not have the value fits, whoever does
  idles : (holder : ℕ) (home : maybe.Option (Option C)) (ever : Bool) (visits : List (Visit C)) (by : ℕ) (v : V) → v.of ≡ key → v.holds ≡ false → v.gave ≡ None → (v.refused ≡ true → ever ≡ true) → Fits holder home ever visits by v
  idles holder home ever visits by v of idle fresh met = record { of = of; holds = λ h. absurd (off (sym idle ∙ h)); refused = met; gave = λ g e. absurd (none-some g (sym fresh ∙ e)) }

  pub keep_starts : fits key.place.value key.first.value → Rule (opening (0 ∷ []) (Some key.first.value ∷ []) (waiting key 0))
  keep_starts is = record {
    holder = 0;
    home = some (Some c.value);
    ever = false;
    visits = [];
    words = refl;
    homes = refl;
    value = λ x e. (c.value, sym (some-injective _ _ e), is);
    last = λ x e. sym (some-injective _ _ e);
    away = λ e. absurd (some-ne-none (Some c.value) e);
    taken = λ e. absurd (off e);
    follow = tt;
    made = λ n v e. absurd (some-ne-none v (sym e));
    each = one;
  }
    where
      c : Snapshot C
      c = key.first

      one : (by : ℕ) (v : V) → get_elem? (waiting key 0 ∷ []) by ≡ some v → Fits 0 (some (Some c.value)) false [] by v
      one zero v e = subst (Fits 0 (some (Some c.value)) false [] 0) (some-injective _ _ e) (idles 0 (some (Some c.value)) false [] 0 (waiting key 0) refl refl refl (λ m. m))
      one (suc by) v e = absurd (some-ne-none v (sym e))

  -- where another seat's view changes, who has made a visit says so still
  knows_set : (views : List V) (visits : List (Visit C)) (by : ℕ) (v w : V) → get_elem? views by ≡ some v → v.gave ≡ None → Knows views visits → Knows (set views by w) visits
  knows_set views visits by v w at fresh knows n x e = set_else views by x.by w apart ∙ knows n x e
    where
      apart : x.by ≢ by
      apart is = none-some x.gave (sym fresh ∙ ap (λ (z : V). z.gave) (some-injective v (given_back key x.cuts x.took x.gave) (sym at ∙ (ap (get_elem? views) (sym is) ∙ knows n x e))))

  sitting : (by : ℕ) (v : V) → v.holds ≡ false → v.held ≡ false → v.gave ≡ None → Splits Rule by v (one_further v) (one_further v)
  sitting by v idle unheld fresh s r at =
      let mine = r.each by v at in record {
        holder = r.holder;
        home = r.home;
        ever = r.ever;
        visits = r.visits;
        words = r.words;
        homes = r.homes;
        value = r.value;
        last = r.last;
        away = λ e. let a = r.away e in (a.0, as_was r.holder (holding key a.0 (last_of key.first r.visits)) (λ is. off (sym idle ∙ ap (λ (z : V). z.holds) (same is a.1))) a.1);
        taken = λ e. let t = r.taken e in (t.0, as_was r.holder t.0 (λ is. off (sym unheld ∙ (ap (λ (z : V). z.held) (same is t.1) ∙ t.2))) t.1, t.2);
        follow = r.follow;
        made = λ n x e. as_was x.by (given_back key x.cuts x.took x.gave) (λ is. none-some x.gave (sym fresh ∙ ap (λ (z : V). z.gave) (same is (r.made n x e)))) (r.made n x e);
        each = each_split (Fits r.holder r.home r.ever r.visits) s.views by (one_further v) (one_further v) (λ j u _ e. r.each j u e) (further by mine) (further _ mine);
      }
    where
      same : {j : ℕ} {u : V} → j ≡ by → get_elem? s.views j ≡ some u → v ≡ u
      same {j} {u} is e = some-injective v u (sym at ∙ (ap (get_elem? s.views) (sym is) ∙ e))

      as_was : (j : ℕ) (u : V) → j ≢ by → get_elem? s.views j ≡ some u → get_elem? (set s.views by (one_further v) ++ one_further v ∷ []) j ≡ some u
      as_was j u apart e = at_longer (set s.views by (one_further v)) (one_further v ∷ []) j u (set_else s.views by j (one_further v) apart ∙ e)

      further : (j : ℕ) → Fits r.holder r.home r.ever r.visits by v → Fits r.holder r.home r.ever r.visits j (one_further v)
      further j mine = idles r.holder r.home r.ever r.visits j (one_further v) mine.of idle fresh mine.refused

  grabbing : (slots by : ℕ) (v : V) → v.holds ≡ false → v.gave ≡ None → Allows Rule slots by (v, []) 0 (λ _. 1) (grabs fits (step slots 0 1 0 none) (v, []))
  grabbing slots by v idle fresh s r deep at _ = by_home r.home refl
    where
      mine : Fits r.holder r.home r.ever r.visits by v
      mine = r.each by v at

      there : Snapshot C
      there = last_of key.first r.visits

      -- whoever has the value is another
      apart : r.home ≡ none → r.holder ≢ by
      apart is e = off (sym idle ∙ ap (λ (z : V). z.holds) (some-injective v (holding key (r.away is).0 there) (sym at ∙ (ap (get_elem? s.views) (sym e) ∙ (r.away is).1))))

      by_home : (h : maybe.Option (Option C)) → r.home ≡ h
          → (w : V) × (a : Act (Option C)) × Valid s.homes [] a × Rule (stepped s 0 1 by [] w a) × grabs fits (step slots 0 1 0 none) (v, []) (get_or s.words 0 0) (w, carried_after [] a)
      by_home none is =
          let held : get_elem? (set s.views by (refused v.of v.cuts)) r.holder ≡ some (holding key (r.away is).0 there) = set_else s.views by r.holder (refused v.of v.cuts) (apart is) ∙ (r.away is).1 in (
            refused v.of v.cuts,
            keeps,
            tt,
            record {
              holder = r.holder;
              home = none;
              ever = true;
              visits = r.visits;
              words = ap (λ (l : List ℕ). set l 0 1) r.words;
              homes = r.homes ∙ ap (λ h. h ∷ []) is;
              value = λ x e. absurd (some-ne-none x (sym e));
              last = λ x e. absurd (some-ne-none x (sym e));
              away = λ _. ((r.away is).0, held);
              taken = λ _. (holding key (r.away is).0 there, held, refl);
              follow = r.follow;
              made = knows_set s.views r.visits by v (refused v.of v.cuts) at fresh r.made;
              each = each_set (Fits r.holder none true r.visits) s.views by (refused v.of v.cuts) (λ j u _ e. let f = r.each j u e in record { of = f.of; holds = λ h. ((f.holds h).0, refl); refused = λ _. refl; gave = f.gave })
                  (idles r.holder none true r.visits by (refused v.of v.cuts) mine.of refl refl (λ _. refl));
            },
            record { free = λ e. let n = ap (λ (l : List ℕ). get_or l 0 0) r.words ∙ ap taken_bit is in absurd (omega arith); taken = λ _. refl; cuts = refl },
          )
      by_home (some x) is = let c = r.value x is in let same : Some c.0 ≡ Some there.value = sym c.1 ∙ r.last x is in (
        holding v.of v.cuts there,
        takes 0 (Some there.value),
        ap (λ l. get_elem? l 0) r.homes ∙ (ap some is ∙ ap (λ (z : Option C). some (some z)) (r.last x is)),
        record {
          holder = by;
          home = none;
          ever = true;
          visits = r.visits;
          words = ap (λ (l : List ℕ). set l 0 1) r.words;
          homes = ap (λ l. set l 0 none) r.homes;
          value = λ x e. absurd (some-ne-none x (sym e));
          last = λ x e. absurd (some-ne-none x (sym e));
          away = λ _. (v.cuts, view_set s.views by v (holding v.of v.cuts there) at ∙ ap (λ (k : Start C K). some (holding k v.cuts there)) mine.of);
          taken = λ _. (holding v.of v.cuts there, view_set s.views by v (holding v.of v.cuts there) at, refl);
          follow = r.follow;
          made = knows_set s.views r.visits by v (holding v.of v.cuts there) at fresh r.made;
          each = each_set (Fits by none true r.visits) s.views by (holding v.of v.cuts there) (λ j u _ e. let f = r.each j u e in record { of = f.of; holds = λ h. absurd (some-ne-none x (sym is ∙ (f.holds h).1)); refused = λ _. refl; gave = f.gave })
              record { of = mine.of; holds = λ _. (refl, refl); refused = λ _. refl; gave = λ g e. absurd (none-some g e) };
        },
        record { free = λ _. (there, refl, is_fit c.0 same c.2); taken = λ n. absurd (n (ap (λ (l : List ℕ). get_or l 0 0) r.words ∙ ap taken_bit is)); cuts = refl },
      )
        where
          value_or : Option C → C
          value_or None = there.value
          value_or (Some y) = y

          is_fit : (c : C) → Some c ≡ Some there.value → fits key.place.value c → fits v.of.place.value there.value
          is_fit c same fit = subst (λ (z : Start C K × C). fits z.0.place.value z.1) (λ i. (sym mine.of i, ap value_or same i)) fit

  releasing : (slots by : ℕ) (v : V) (took gave : Snapshot C) → v ≡ holding key v.cuts took → fits key.place.value gave.value
      → Allows Rule slots by (v, (0, Some gave.value) ∷ []) 0 (λ _. 0) (λ _. releases (step slots 0 0 0 none) (v, (0, Some gave.value) ∷ []) 0)
  releasing slots by v took gave view is s r deep at _ =
      let mine = r.each by v at in
      let known = mine.holds (ap (λ (z : V). z.holds) view) in
      let fresh : v.gave ≡ None = ap (λ (z : V). z.gave) view in
      -- it took what was there last
      let found : took ≡ last_of key.first r.visits =
      took_is (some-injective (holding key v.cuts took) (holding key (r.away known.1).0 (last_of key.first r.visits)) (ap some (sym view) ∙ (sym at ∙ (ap (get_elem? s.views) known.0 ∙ (r.away known.1).1)))) in
      let now : get_elem? (set s.views by (given_back key v.cuts took gave)) by ≡ some (given_back key v.cuts took gave) = view_set s.views by v (given_back key v.cuts took gave) at in (
        given_back key v.cuts took gave,
        gives,
        tt,
        record {
          holder = by;
          home = some (Some gave.value);
          ever = true;
          visits = record { by = by; cuts = v.cuts; took = took; gave = gave } ∷ r.visits;
          words = ap (λ (l : List ℕ). set l 0 0) r.words;
          homes = ap (λ l. set l 0 (some (Some gave.value))) r.homes;
          value = λ x e. (gave.value, sym (some-injective _ _ e), is);
          last = λ x e. sym (some-injective _ _ e);
          away = λ e. absurd (some-ne-none (Some gave.value) e);
          taken = λ _. (given_back key v.cuts took gave, now, refl);
          follow = (found, r.follow);
          made = made now fresh;
          each = each_set (Fits by (some (Some gave.value)) true (record { by = by; cuts = v.cuts; took = took; gave = gave } ∷ r.visits)) s.views by (given_back key v.cuts took gave)
              (λ j u apart e. let f = r.each j u e in record { of = f.of; holds = λ h. absurd (apart ((f.holds h).0 ∙ sym known.0)); refused = λ _. refl; gave = λ g t. let m = f.gave g t in (suc m.0, m.1, m.2, m.3) })
              record { of = refl; holds = λ h. absurd (off h); refused = λ h. absurd (off h); gave = λ g e. (0, took, refl, ap (λ (z : Option (Snapshot C)). some (record { by = by; cuts = v.cuts; took = took; gave = gave_or z })) e) };
        },
        λ took' gave' e. as_given took' gave' e,
      )
    where
      gave_or : Option (Snapshot C) → Snapshot C
      gave_or None = gave
      gave_or (Some y) = y

      took_or : Option (Snapshot C) → Snapshot C
      took_or None = took
      took_or (Some y) = y

      took_is : {n m : ℕ} {x y : Snapshot C} → holding key n x ≡ holding key m y → x ≡ y
      took_is e = ap (λ (z : V). took_or z.took) e

      made : get_elem? (set s.views by (given_back key v.cuts took gave)) by ≡ some (given_back key v.cuts took gave) → v.gave ≡ None → Knows (set s.views by (given_back key v.cuts took gave)) (record { by = by; cuts = v.cuts; took = took; gave = gave } ∷ r.visits)
      made now fresh zero x e = subst (λ (y : Visit C). get_elem? (set s.views by (given_back key v.cuts took gave)) y.by ≡ some (given_back key y.cuts y.took y.gave)) (some-injective _ _ e) now
      made now fresh (suc n) x e = knows_set s.views r.visits by v (given_back key v.cuts took gave) at fresh r.made n x e

      value_in : List (ℕ × Option C) → C
      value_in [] = gave.value
      value_in (x ∷ xs) = value_or x.1
        where
          value_or : Option C → C
          value_or None = gave.value
          value_or (Some y) = y

      as_given : (took' gave' : Snapshot C) → ◌≡◌ {A = M} (v, (0, Some gave.value) ∷ []) (holding v.of v.cuts took', (0, Some gave'.value) ∷ []) → ◌≡◌ {A = M} (given_back key v.cuts took gave, []) (given_back v.of v.cuts took' gave', [])
      as_given took' gave' e =
          let taken : took ≡ took' = ap (λ (z : V). took_or z.took) (sym view ∙ ap (λ (m : M). m.0) e) in
          let given : gave.value ≡ gave'.value = ap (λ (m : M). value_in m.1) e in
          λ i. (given_back (ap (λ (z : V). z.of) (sym view) i) v.cuts (taken i) (record gave { value = given i }), [])

  -- the same at a seat whose view and slots are known
  pub sits : (by : ℕ) (v : V) → v ≡ waiting key v.cuts → Splits Rule by v (one_further v) (one_further v)
  sits by v is = sitting by v (ap (λ (z : V). z.holds) is) (ap (λ (z : V). z.held) is) (ap (λ (z : V). z.gave) is)

  pub grabs_value : (slots by : ℕ) (me : M) → me ≡ (waiting key me.0.cuts, []) → Allows Rule slots by me 0 (λ _. 1) (grabs fits (step slots 0 1 0 none) me)
  grabs_value slots by me is = subst (λ (m : M). Allows Rule slots by m 0 (λ _. 1) (grabs fits (step slots 0 1 0 none) m)) (sym is) (grabbing slots by (waiting key me.0.cuts) refl refl)

  -- the seat at this keep has grabbed the value
  pub has_grabbed : (me me' : M) → me ≡ (waiting key me.0.cuts, []) → (took : Snapshot C) × (me' ≡ (holding me.0.of me.0.cuts took, (0, Some took.value) ∷ me.1)) × fits me.0.of.place.value took.value → HasGrabbed fits key me'
  has_grabbed me me' is got =
      (got.0, got.1 ∙ (ap (λ (m : M). (holding m.0.of me.0.cuts got.0, (0, Some got.0.value) ∷ m.1)) is ∙ ap (λ (n : ℕ). (holding key n got.0, (0, Some got.0.value) ∷ [])) (sym (ap (λ (m : M). m.0.cuts) got.1))), subst (λ (m : M). fits m.0.of.place.value got.0.value) is got.2)

  pub releases_value : (slots by : ℕ) (me : M) (took gave : Snapshot C) → me ≡ (holding key me.0.cuts took, (0, Some gave.value) ∷ []) → fits key.place.value gave.value → Allows Rule slots by me 0 (λ _. 0) (λ _. releases (step slots 0 0 0 none) me 0)
  releases_value slots by me took gave is fit = subst (λ (m : M). Allows Rule slots by m 0 (λ _. 0) (λ _. releases (step slots 0 0 0 none) m 0)) (sym is) (releasing slots by (holding key me.0.cuts took) took gave refl fit)

-- the seat at this keep has given the value back
pub released : {K C : Type 0} (key : Start C K) (me me' : Me (Option C) (Sight C K)) (took gave : Snapshot C) → me ≡ (holding key me.0.cuts took, (0, Some gave.value) ∷ [])
    → ((took gave : Snapshot C) → me ≡ (holding me.0.of me.0.cuts took, (0, Some gave.value) ∷ []) → me' ≡ (given_back me.0.of me.0.cuts took gave, [])) → me' ≡ (given_back key me.0.cuts took gave, [])
released {K} {C} key me me' took gave is then =
    let of : me.0.of ≡ key = ap (λ (m : Me (Option C) (Sight C K)). m.0.of) is in
    then took gave (is ∙ ap (λ (k : Start C K). (holding k me.0.cuts took, (0, Some gave.value) ∷ [])) (sym of)) ∙ ap (λ (k : Start C K). (given_back k me.0.cuts took gave, [])) of

pub keep_starts_with : {K C : Type 0} (fits : K → C → Type 0) (key : Start C K) (slots : List (Option C)) → fits key.place.value key.first.value → slots ≡ Some key.first.value ∷ [] → HasOneHolder fits key (opening (0 ∷ []) slots (waiting key 0))
keep_starts_with {K} {C} fits key slots is e = subst (λ (l : List (Option C)). HasOneHolder fits key (opening (0 ∷ []) l (waiting key 0))) (sym e) (keep_starts fits key is)

-- ---- how far a seat is

module _ {C K : Type 0} {key : Start C K} where
  pub seated_views : {views : List (Sight C K)} {n : ℕ} → views ≡ waiting key n ∷ [] → views ≡ waiting key (cuts_in views) ∷ []
  seated_views {views} {n} e = e ∙ ap (λ (m : ℕ). waiting key m ∷ []) (sym (ap cuts_in e))

  pub busy_views : {views : List (Sight C K)} {n : ℕ} → views ≡ refused key n ∷ [] → views ≡ refused key (cuts_in views) ∷ []
  busy_views {views} {n} e = e ∙ ap (λ (m : ℕ). refused key m ∷ []) (sym (ap cuts_in e))

  pub given_views : {views : List (Sight C K)} {n : ℕ} {took gave : Snapshot C} → views ≡ given_back key n took gave ∷ [] → views ≡ given_back key (cuts_in views) took gave ∷ []
  given_views {views} {n} {took} {gave} e = e ∙ ap (λ (m : ℕ). given_back key m took gave ∷ []) (sym (ap cuts_in e))

  pub idle_seat : {me : Me (Option C) (Sight C K)} {n : ℕ} → me ≡ (waiting key n, []) → me ≡ (waiting key me.0.cuts, [])
  idle_seat {me} {n} e = e ∙ ap (λ (m : ℕ). (waiting key m, [])) (sym (ap (λ (z : Me (Option C) (Sight C K)). z.0.cuts) e))

pub only_sight : {C K : Type 0} (v w : Sight C K) → v ∷ [] ≡ w ∷ [] → v ≡ w
only_sight {C} {K} v w e = ap (λ (l : List (Sight C K)). get_or l 0 v) e
