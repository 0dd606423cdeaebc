-- Each step at the turn keeps its rule.
use Rattle.mt_rule.proofs.Prelude.{◌≡◌, ◌≢◌, Bool, ℕ, zero, suc, List, [], ◌∷◌, set, get_or, true, false, true≢false, refl, sym, ap, ◌∙◌, subst, arith, Option, Some, None, none, some, some-ne-none, some-injective, get_elem?, at_longer, set_else, State, Me, Act, Valid, step, keeps, takes, gives, stepped, carried_after, Allows, Splits, opening, MtTable, TurnView, Identity, served, waiting, seated, counting, seat_beside, tries_in, holding_view, given_back, refused, taken_bit, HasGrabbed, SeatFits, IsTurnKept, grabs, releases}
use mathlib.Core.Option as maybe
use Rattle.std.specs.declared.snapshot.Snapshot.{Snapshot}
use Rattle.mt_rule.proofs.Viewing.{each_set, each_split}

off : false ≡ true → ⊥
off e = true≢false (sym e)

-- a seat has the view that it is given
view_set : {V : Type 0} (views : List V) (by : ℕ) (v w : V) → get_elem? views by ≡ some v → get_elem? (set views by w) by ≡ some w
view_set [] by v w e = absurd (some-ne-none v (sym e))
view_set (x ∷ views) zero v w e = refl
view_set (x ∷ views) (suc by) v w e = view_set views by v w e

-- ---- seats beside others

-- a seat that has none beside it yet
pub waits : (key : Snapshot MtTable) (v : TurnView) → v ≡ waiting key → v ≡ seated key v.tries
waits key v is = is ∙ (λ i. seated key (sym is i).tries)

-- a seat beside another that says nothing but how many are beside it
pub sits_beside : (key : Snapshot MtTable) (v : TurnView) (views : List TurnView) → v ≡ seated key v.tries → views ≡ seat_beside v ∷ [] → views ≡ seated key (tries_in views) ∷ []
sits_beside key v views is one =
    let alone : views ≡ waiting key ∷ [] = one ∙ ap (λ (z : TurnView). seat_beside z ∷ []) is in
    alone ∙ (λ i. seated key (tries_in (sym alone i)) ∷ [])

module _ {C : Type 0} (table : C → Identity) (key : Snapshot MtTable) where
  abbrev M : Type 0
  M = Me (Option C) TurnView

  abbrev Rule : State (Option C) TurnView → Type 0
  Rule = IsTurnKept table key

  abbrev Fits : ℕ → maybe.Option (Option C) → Bool → ℕ → TurnView → Type 0
  Fits = SeatFits table key

  -- a seat that does not hold the value fits, whoever does
  idles : (holder : ℕ) (home : maybe.Option (Option C)) (ever : Bool) (by : ℕ) (v : TurnView) → v.of ≡ key → v.holds ≡ false → (v.met ≡ true → ever ≡ true) → Fits holder home ever by v
  idles holder home ever by v of idle met = record { of = of; holds = λ h. absurd (off (sym idle ∙ h)); met = met }

  pub turn_starts : (c : C) → table c ≡ served key → Rule (opening (0 ∷ []) (Some c ∷ []) (waiting key))
  turn_starts c is = record { holder = 0; home = some (Some c); ever = false; words = refl; homes = refl; value = λ x e. (c, sym (some-injective _ _ e), is); away = λ e. absurd (some-ne-none (Some c) e); taken = λ e. absurd (off e); each = one }
    where
      one : (by : ℕ) (v : TurnView) → get_elem? (waiting key ∷ []) by ≡ some v → Fits 0 (some (Some c)) false by v
      one zero v e = subst (Fits 0 (some (Some c)) false 0) (some-injective _ _ e) (idles 0 (some (Some c)) false 0 (waiting key) refl refl (λ m. m))
      one (suc by) v e = absurd (some-ne-none v (sym e))

  -- whoever holds the value, or has held it, is not a seat that does not and has not
  apart_from : (s : State (Option C) TurnView) (holder by : ℕ) (v u : TurnView) → get_elem? s.views by ≡ some v → get_elem? s.views holder ≡ some u → (v ≡ u → ⊥) → holder ≢ by
  apart_from s holder by v u at there differ e = differ (some-injective v u (sym at ∙ (ap (get_elem? s.views) (sym e) ∙ there)))

  sitting : (by : ℕ) (v : TurnView) → v.holds ≡ false → v.held ≡ false → Splits Rule by v (counting v) (seat_beside v)
  sitting by v idle never s r at =
      let mine = r.each by v at in record {
        holder = r.holder;
        home = r.home;
        ever = r.ever;
        words = r.words;
        homes = r.homes;
        value = r.value;
        away = λ e. let apart = apart_from s r.holder by v (holding_view key) at (r.away e) (λ same. off (sym idle ∙ ap (λ (z : TurnView). z.holds) same)) in
            at_longer (set s.views by (counting v)) (seat_beside v ∷ []) r.holder (holding_view key) (set_else s.views by r.holder (counting v) apart ∙ r.away e);
        taken = λ e. let t = r.taken e in let apart = apart_from s r.holder by v t.0 at t.1 (λ same. off (sym never ∙ (ap (λ (z : TurnView). z.held) same ∙ t.2))) in
            (t.0, at_longer (set s.views by (counting v)) (seat_beside v ∷ []) r.holder t.0 (set_else s.views by r.holder (counting v) apart ∙ t.1), t.2);
        each = each_split (Fits r.holder r.home r.ever) s.views by (counting v) (seat_beside v) (λ j u _ e. r.each j u e) (idles r.holder r.home r.ever by (counting v) mine.of idle mine.met) (idles r.holder r.home r.ever _ (seat_beside v) mine.of idle mine.met);
      }

  grabbing : (slots by : ℕ) (v : TurnView) → v.holds ≡ false → Allows Rule slots by (v, []) 0 (λ _. 1) (grabs table (step slots 0 1 0 none) (v, []))
  grabbing slots by v idle s r deep at _ = by_home r.home refl
    where
      mine : Fits r.holder r.home r.ever by v
      mine = r.each by v at

      -- whoever holds the value is another
      apart : r.home ≡ none → r.holder ≢ by
      apart is e = off (sym idle ∙ ap (λ (z : TurnView). z.holds) (some-injective v (holding_view key) (sym at ∙ (ap (get_elem? s.views) (sym e) ∙ r.away is))))

      by_home : (h : maybe.Option (Option C)) → r.home ≡ h
          → (w : TurnView) × (a : Act (Option C)) × Valid s.homes [] a × Rule (stepped s 0 1 by [] w a) × grabs table (step slots 0 1 0 none) (v, []) (get_or s.words 0 0) (w, carried_after [] a)
      by_home none is =
          let held : get_elem? (set s.views by (refused v.of)) r.holder ≡ some (holding_view key) = set_else s.views by r.holder (refused v.of) (apart is) ∙ r.away is in (
            refused v.of,
            keeps,
            tt,
            record {
              holder = r.holder;
              home = none;
              ever = true;
              words = ap (λ (l : List ℕ). set l 0 1) r.words;
              homes = r.homes ∙ ap (λ h. h ∷ []) is;
              value = λ x e. absurd (some-ne-none x (sym e));
              away = λ _. held;
              taken = λ _. (holding_view key, held, refl);
              each = each_set (Fits r.holder none true) s.views by (refused v.of) (λ j u _ e. let f = r.each j u e in record { of = f.of; holds = λ h. ((f.holds h).0, refl); met = λ _. refl }) (idles r.holder none true by (refused v.of) mine.of refl (λ _. refl));
            },
            record { free = λ e. let n = ap (λ (l : List ℕ). get_or l 0 0) r.words ∙ ap taken_bit is in absurd (omega arith); taken = λ _. refl },
          )
      by_home (some x) is = let c = r.value x is in (
        holding_view v.of,
        takes 0 (Some c.0),
        ap (λ l. get_elem? l 0) r.homes ∙ (ap some is ∙ ap (λ (z : Option C). some (some z)) c.1),
        record {
          holder = by;
          home = none;
          ever = true;
          words = ap (λ (l : List ℕ). set l 0 1) r.words;
          homes = ap (λ l. set l 0 none) r.homes;
          value = λ x e. absurd (some-ne-none x (sym e));
          away = λ _. view_set s.views by v (holding_view v.of) at ∙ ap (λ (k : Snapshot MtTable). some (holding_view k)) mine.of;
          taken = λ _. (holding_view v.of, view_set s.views by v (holding_view v.of) at, refl);
          each = each_set (Fits by none true) s.views by (holding_view v.of) (λ j u _ e. let f = r.each j u e in record { of = f.of; holds = λ h. absurd (some-ne-none x (sym is ∙ (f.holds h).1)); met = λ _. refl }) record { of = mine.of; holds = λ _. (refl, refl); met = λ _. refl };
        },
        record { free = λ _. (c.0, refl, c.2 ∙ ap served (sym mine.of)); taken = λ n. absurd (n (ap (λ (l : List ℕ). get_or l 0 0) r.words ∙ ap taken_bit is)) },
      )

  releasing : (slots by : ℕ) (v : TurnView) (c : C) → v.holds ≡ true → table c ≡ served key → Allows Rule slots by (v, (0, Some c) ∷ []) 0 (λ _. 0) (λ _. releases (step slots 0 0 0 none) (v, (0, Some c) ∷ []) 0)
  releasing slots by v c held is s r deep at _ = let mine = r.each by v at in let known = mine.holds held in (
    given_back v.of,
    gives,
    tt,
    record {
      holder = by;
      home = some (Some c);
      ever = true;
      words = ap (λ (l : List ℕ). set l 0 0) r.words;
      homes = ap (λ l. set l 0 (some (Some c))) r.homes;
      value = λ x e. (c, sym (some-injective _ _ e), is);
      away = λ e. absurd (some-ne-none (Some c) e);
      taken = λ _. (given_back v.of, view_set s.views by v (given_back v.of) at, refl);
      each = each_set (Fits by (some (Some c)) true) s.views by (given_back v.of) (λ j u apart e. let f = r.each j u e in record { of = f.of; holds = λ h. absurd (apart ((f.holds h).0 ∙ sym known.0)); met = λ _. refl }) (idles by (some (Some c)) true by (given_back v.of) mine.of refl (λ _. refl));
    },
    refl,
  )

  -- the same at a seat whose view and slots are known
  pub sits : (by : ℕ) (v : TurnView) (n : ℕ) → v ≡ seated key n → Splits Rule by v (counting v) (seat_beside v)
  sits by v n is = sitting by v (ap (λ (z : TurnView). z.holds) is) (ap (λ (z : TurnView). z.held) is)

  pub grabs_value : (slots by : ℕ) (me : M) → me.0.holds ≡ false → me.1 ≡ [] → Allows Rule slots by me 0 (λ _. 1) (grabs table (step slots 0 1 0 none) me)
  grabs_value slots by me idle bare = subst (λ (l : List (ℕ × Option C)). Allows Rule slots by (me.0, l) 0 (λ _. 1) (grabs table (step slots 0 1 0 none) (me.0, l))) (sym bare) (grabbing slots by me.0 idle)

  -- the seat at this table's turn has grabbed the value
  pub has_grabbed : (me me' : M) → me.0.of ≡ key → me.1 ≡ [] → (value : C) × (me' ≡ (holding_view me.0.of, (0, Some value) ∷ me.1)) × (table value ≡ served me.0.of) → HasGrabbed table key me'
  has_grabbed me me' of bare got = (got.0, got.1 ∙ (λ i. (holding_view (of i), (0, Some got.0) ∷ bare i)), got.2 ∙ ap served of)

  pub releases_value : (slots by : ℕ) (me : M) (c : C) → me ≡ (holding_view key, (0, Some c) ∷ []) → table c ≡ served key → Allows Rule slots by me 0 (λ _. 0) (λ _. releases (step slots 0 0 0 none) me 0)
  releases_value slots by me c is fits = subst (λ (m : M). Allows Rule slots by m 0 (λ _. 0) (λ _. releases (step slots 0 0 0 none) m 0)) (sym is) (releasing slots by (holding_view key) c refl fits)

pub only_view : (v w : TurnView) → v ∷ [] ≡ w ∷ [] → v ≡ w
only_view v w e = ap (λ (l : List TurnView). get_or l 0 v) e

-- what was taken is what the swap found
pub same_value : {C : Type 0} (a v : C) (x : Option C) (l r m : List (ℕ × Option C)) → m ≡ (0, Some a) ∷ l → m ≡ (0, x) ∷ r → x ≡ Some v → a ≡ v
same_value {C} a v x l r m e f g = ap value_or (sym (ap first e) ∙ (ap first f ∙ g))
  where
    first : List (ℕ × Option C) → Option C
    first [] = None
    first (y ∷ ys) = y.1

    value_or : Option C → C
    value_or None = a
    value_or (Some y) = y

pub turn_starts_with : {C : Type 0} (table : C → Identity) (key : Snapshot MtTable) (c : C) (slots : List (Option C)) → table c ≡ served key → slots ≡ Some c ∷ [] → IsTurnKept table key (opening (0 ∷ []) slots (waiting key))
turn_starts_with {C} table key c slots is e = subst (λ (l : List (Option C)). IsTurnKept table key (opening (0 ∷ []) l (waiting key))) (sym e) (turn_starts table key c is)
