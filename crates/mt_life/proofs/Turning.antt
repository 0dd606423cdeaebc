-- What a publishing store makes of lives.
use Rattle.mt_life.proofs.Prelude.{◌≡◌, ◌⊎◌, ℕ, ◌+◌, ◌≤◌, true, false, refl, sym, ap, ◌∙◌, subst, inl, inr, ⊎_elim, arith, cases_Bool, Kind, Call, Reply, Place, Life, New, Draft, Live, Dead, Rooted, Sheet, life_of, is_buried, LiveAreReached, is_reached, with_published, MayPublish, Published, Later, HasRow, published_rows}
use Rattle.mt_life.proofs.Staying.{true_false}

pub later_cases : (d : ℕ) (l : Life) → Later d l → (l ≡ Live) ⊎ ((e : ℕ) × (l ≡ Dead e) × (d ≤ e))
later_cases d New h = absurd h
later_cases d Draft h = absurd h
later_cases d Live h = inl refl
later_cases d (Dead e) h = inr (e, refl, h)

-- a row that is later than some call is live or dead
pub any : (l : Life) (d : ℕ) → Later d l → Later 0 l
any New d later = absurd later
any Draft d later = absurd later
any Live d later = tt
any (Dead e) d later = omega arith

abbrev call_of : Life → ℕ
call_of New = 0
call_of Draft = 0
call_of Live = 0
call_of (Dead d) = d

pub same_call : (d e : ℕ) → Dead d ≡ Dead e → d ≡ e
same_call d e same = ap call_of same

module _ (kind : Kind) (s s' : Sheet) (place : Place) (word : ℕ) (call : Call) (reply : Reply) (may : MayPublish kind s place word call reply) (done : Published s s' place word call reply) where
  abbrev t' : Rooted
  t' = with_published s.tree place word

  abbrev Has : ℕ → Type 0
  Has row = HasRow s.tree.rows row

  -- the row dies by this call
  abbrev Dies : ℕ → Type 0
  Dies row = (life_of s.lives row ≡ Live) × (is_buried s.buried row ≡ true) × (life_of s'.lives row ≡ Dead (s.ended + 1))

  abbrev Stays : ℕ → Type 0
  Stays row = (life_of s.lives row ≡ Live → ⊥) × (life_of s'.lives row ≡ life_of s.lives row)

  pub reached_lives : (row : ℕ) → Has row → is_reached t' row ≡ true → life_of s'.lives row ≡ Live
  reached_lives row has is = done.lives row has.0 has.1 ∙ rw is refl

  unreached : (row : ℕ) → Has row → is_reached t' row ≡ false → Dies row ⊎ Stays row
  unreached row has is = elim (cases_Bool (is_buried s.buried row)) [
    | inl buried ↦ inl ((may.live row has.0 has.1).1 (may.rows.buried row has.0 has.1 buried).0, buried, done.lives row has.0 has.1 ∙ rw (is, buried) refl)
    | inr not ↦ inr ((λ live. true_false (is_buried s.buried row) (may.rows.gone row ((may.live row has.0 has.1).0 live) is) not), done.lives row has.0 has.1 ∙ rw (is, not) refl)
  ]

  pub live_reached : (row : ℕ) → Has row → life_of s'.lives row ≡ Live → is_reached t' row ≡ true
  live_reached row has live = elim (cases_Bool (is_reached t' row)) [
    | inl is ↦ is
    | inr not ↦ ⊎_elim (λ (dies : Dies row). let e : Dead (s.ended + 1) ≡ Live = sym dies.2 ∙ live in absurd cc)
        (λ (stays : Stays row). absurd (stays.0 (sym stays.1 ∙ live))) (unreached row has not)
  ]

  pub dead_before : (row d : ℕ) → Has row → life_of s'.lives row ≡ Dead d → (is_reached t' row ≡ false) × ((life_of s.lives row ≡ Dead d) ⊎ ((life_of s.lives row ≡ Live) × (is_buried s.buried row ≡ true) × (d ≡ s.ended + 1)))
  dead_before row d has dead = elim (cases_Bool (is_reached t' row)) [
    | inl is ↦ let e : Live ≡ Dead d = sym (reached_lives row has is) ∙ dead in absurd cc
    | inr not ↦ (
      not,
      ⊎_elim (λ (dies : Dies row). inr (dies.0, dies.1, same_call d (s.ended + 1) (sym dead ∙ dies.2)))
          (λ (stays : Stays row). inl (sym stays.1 ∙ dead)) (unreached row has not),
    )
  ]

  pub dead_stays : (row d : ℕ) → Has row → life_of s.lives row ≡ Dead d → (is_reached t' row ≡ false) × (life_of s'.lives row ≡ Dead d)
  dead_stays row d has dead = elim (cases_Bool (is_reached t' row)) [
    | inl is ↦ ⊎_elim (λ (live : life_of s.lives row ≡ Live). let e : Live ≡ Dead d = sym live ∙ dead in absurd cc)
        (λ draft. let e : Draft ≡ Dead d = sym draft.0 ∙ dead in absurd cc) (may.rows.known row is)
    | inr not ↦ (
      not,
      ⊎_elim (λ (dies : Dies row). let e : Live ≡ Dead d = sym dies.0 ∙ dead in absurd cc)
          (λ (stays : Stays row). stays.1 ∙ dead) (unreached row has not),
    )
  ]

  live_turns : (row : ℕ) → Has row → life_of s.lives row ≡ Live → (life_of s'.lives row ≡ Live) ⊎ (life_of s'.lives row ≡ Dead (s.ended + 1))
  live_turns row has live = elim (cases_Bool (is_reached t' row)) [
    | inl is ↦ inl (reached_lives row has is)
    | inr not ↦ ⊎_elim (λ (dies : Dies row). inr dies.2)
        (λ (stays : Stays row). absurd (stays.0 live)) (unreached row has not)
  ]

  -- what was live or dead no earlier than by a call is so still
  pub later_stays : (row d : ℕ) → Has row → d ≤ s.ended + 1 → Later d (life_of s.lives row) → Later d (life_of s'.lives row)
  later_stays row d has le later = ⊎_elim
      (λ (live : life_of s.lives row ≡ Live). ⊎_elim
      (λ (stays : life_of s'.lives row ≡ Live). subst (Later d) (sym stays) tt)
      (λ (dies : life_of s'.lives row ≡ Dead (s.ended + 1)). subst (Later d) (sym dies) le) (live_turns row has live))
      (λ (dead : (e : ℕ) × (life_of s.lives row ≡ Dead e) × (d ≤ e)). subst (Later d) (sym (dead_stays row dead.0 has dead.1).1) dead.2)
      (later_cases d (life_of s.lives row) later)

  -- a row of the table after the store was one before it
  pub had_row : (row : ℕ) → HasRow t'.rows row → Has row
  had_row row has = (has.0, (let same = published_rows s.tree place word in let low = has.1 in omega arith))

  pub has_still : (row : ℕ) → Has row → HasRow t'.rows row
  has_still row has = (has.0, (let same = published_rows s.tree place word in let low = has.1 in omega arith))

  live_are_reached : LiveAreReached t' s'.lives
  live_are_reached row low high = let has = had_row row (low, high) in ((λ live. live_reached row has live), (λ is. reached_lives row has is))

  -- live rows are again those that are reached
  pub live_reached_after : LiveAreReached s'.tree s'.lives
  live_reached_after = subst (λ (t : Rooted). LiveAreReached t s'.lives) (sym (ap (λ (v : Sheet). v.tree) done.rest)) live_are_reached
