-- What rows in memory stand for after a row's fate has changed.
use Rattle.mt_rows.proofs.Prelude.{◌≡◌, ℕ, zero, suc, ◌+◌, ◌<◌, ◌≤◌, List, [], ◌∷◌, Bool, true, false, map, refl, sym, ap, ◌∙◌, subst, inl, inr, arith, slice_index_or, slice_set, replicate, nat_le, if◌then◌else◌, cases_Bool, cases_lt, leb-true, ltb-false, le-leb, lt-leb, lt-ltb, le-ltb, map-set, get_or_past, map-set_same, Fate, New, Draft, Live, Buried, Kind, Call, Reply, first_row, State, one_if, Sheet, IsFree, MayBury, life_of, is_buried, MayFinish, life_at, life_in, buried_in, past_of, fate_of, sheet_of, IsPlainState}
use Rattle.mt_rows.specs.declared.rows.Life.TheVariants as lives

-- a fate that reads as another leaves what was read
pub map-replicate : {A B : Type 0} (f : A → B) (n : ℕ) (a : A) → map f (replicate n a) ≡ replicate n (f a)
map-replicate f zero a = refl
map-replicate f (suc n) a = ap (λ xs. f a ∷ xs) (map-replicate f n a)

-- ---- one fate written

pub lives-set : (past : ℕ) (fates : List Fate) (row : ℕ) (f : Fate) → map (life_in past) (slice_set fates row f) ≡ slice_set (map (life_in past) fates) row (life_in past f)
lives-set past fates row f = map-set (life_in past) fates row f

pub buried-set : (past : ℕ) (fates : List Fate) (row : ℕ) (f : Fate) → map (buried_in past) (slice_set fates row f) ≡ slice_set (map (buried_in past) fates) row (buried_in past f)
buried-set past fates row f = map-set (buried_in past) fates row f

pub lives-kept : (past : ℕ) (fates : List Fate) (row : ℕ) (f : Fate) → life_in past f ≡ life_in past (slice_index_or fates row New) → map (life_in past) (slice_set fates row f) ≡ map (life_in past) fates
lives-kept past fates row f same = map-set_same (life_in past) fates row f New same

pub buried-kept : (past : ℕ) (fates : List Fate) (row : ℕ) (f : Fate) → buried_in past f ≡ buried_in past (slice_index_or fates row New) → map (buried_in past) (slice_set fates row f) ≡ map (buried_in past) fates
buried-kept past fates row f same = map-set_same (buried_in past) fates row f New same

pub buried_at : (past : ℕ) (fates : List Fate) (row : ℕ) → slice_index_or (map (buried_in past) fates) row false ≡ buried_in past (slice_index_or fates row New)
buried_at past [] row = refl
buried_at past (f ∷ fates) zero = refl
buried_at past (f ∷ fates) (suc row) = buried_at past fates row

-- ---- the fates that a call asks for

pub free_unburied : (past cleared : ℕ) (f : Fate) → IsFree cleared (life_in past f) → buried_in past f ≡ false
free_unburied past cleared New free = refl
free_unburied past cleared Draft free = refl
free_unburied past cleared Live free = refl
free_unburied past cleared (Buried call) free = elim (cases_Bool (nat_le call past)) [
  | inl dead ↦ le-ltb past call (leb-true call past dead)
  | inr alive ↦ absurd (subst (λ (b : Bool). IsFree cleared (if b then lives.Dead call else lives.Live)) alive free)
]

-- a row that the next call buries is not dead yet
pub next_lives : (past : ℕ) → life_in past (Buried (past + 1)) ≡ lives.Live
next_lives past = rw (lt-leb (past + 1) past (omega arith)) refl

pub next_buried : (past : ℕ) → buried_in past (Buried (past + 1)) ≡ true
next_buried past = lt-ltb past (past + 1) (omega arith)

-- ---- a call that ends

-- where the fates of all rows are told alike before and after, they read alike
pub lives_alike : (past past' : ℕ) (fates : List Fate) → ((row : ℕ) → life_in past (slice_index_or fates row New) ≡ life_in past' (slice_index_or fates row New)) → map (life_in past) fates ≡ map (life_in past') fates
lives_alike past past' [] alike = refl
lives_alike past past' (f ∷ fates) alike = let first = alike 0 in let rest = lives_alike past past' fates (λ row. alike (suc row)) in λ i. first i ∷ rest i

pub buried_alike : (past past' : ℕ) (fates : List Fate) → ((row : ℕ) → buried_in past (slice_index_or fates row New) ≡ buried_in past' (slice_index_or fates row New)) → map (buried_in past) fates ≡ map (buried_in past') fates
buried_alike past past' [] alike = refl
buried_alike past past' (f ∷ fates) alike = let first = alike 0 in let rest = buried_alike past past' fates (λ row. alike (suc row)) in λ i. first i ∷ rest i

-- a fate that is not buried yet reads the same after more calls
pub unburied_lives : (past past' : ℕ) (f : Fate) → past ≤ past' → buried_in past f ≡ false → life_in past f ≡ life_in past' f
unburied_lives past past' New more none = refl
unburied_lives past past' Draft more none = refl
unburied_lives past past' Live more none = refl
unburied_lives past past' (Buried call) more none = let dead = ltb-false past call none in rw (le-leb call past (omega arith), le-leb call past' (omega arith)) refl

pub unburied_stays : (past past' : ℕ) (f : Fate) → past ≤ past' → buried_in past f ≡ false → buried_in past f ≡ buried_in past' f
unburied_stays past past' New more none = refl
unburied_stays past past' Draft more none = refl
unburied_stays past past' Live more none = refl
unburied_stays past past' (Buried call) more none = let dead = ltb-false past call none in rw (le-ltb past call (omega arith), le-ltb past' call (omega arith)) refl

-- ---- by the sheet

pub life_told : (p : State) (row : ℕ) → life_of (sheet_of p).lives row ≡ life_in (past_of p) (fate_of p row)
life_told p row = life_at (past_of p) p.fates.items row

pub buried_told : (p : State) (row : ℕ) → is_buried (sheet_of p).buried row ≡ buried_in (past_of p) (fate_of p row)
buried_told p row = buried_at (past_of p) p.fates.items row

pub drafted_buried : (p : State) (s : Sheet) (row : ℕ) → sheet_of p ≡ s → IsFree s.cleared (life_of s.lives row) → map (buried_in (past_of p)) (slice_set p.fates.items row Draft) ≡ (sheet_of p).buried
drafted_buried p s row is free =
    let told : IsFree p.cleared (life_of (sheet_of p).lives row) = subst (λ (s : Sheet). IsFree s.cleared (life_of s.lives row)) (sym is) free in
    let here : IsFree p.cleared (life_in (past_of p) (fate_of p row)) = subst (IsFree p.cleared) (life_told p row) told in
    buried-kept (past_of p) p.fates.items row Draft (sym (free_unburied (past_of p) p.cleared (fate_of p row) here))

-- the call in flight buries a live row
module _ (p : State) (s : Sheet) (row : ℕ) (is : sheet_of p ≡ s) (may : MayBury s row) where
  before : p.published ≡ false
  before = ap (λ (s : Sheet). s.published) is ∙ may.before

  next : past_of p + 1 ≡ p.ended + 1
  next = ap (λ (b : Bool). p.ended + one_if b + 1) before ∙ omega arith

  pub buried_lives : map (life_in (past_of p)) (slice_set p.fates.items row (Buried (p.ended + 1))) ≡ (sheet_of p).lives
  buried_lives =
      let live : life_in (past_of p) (fate_of p row) ≡ lives.Live = sym (life_told p row) ∙ (ap (λ (s : Sheet). life_of s.lives row) is ∙ may.live) in
      lives-kept (past_of p) p.fates.items row (Buried (p.ended + 1)) (ap (λ (n : ℕ). life_in (past_of p) (Buried n)) (sym next) ∙ (next_lives (past_of p) ∙ sym live))

  pub buried_buried : map (buried_in (past_of p)) (slice_set p.fates.items row (Buried (p.ended + 1))) ≡ slice_set (sheet_of p).buried row true
  buried_buried =
      buried-set (past_of p) p.fates.items row (Buried (p.ended + 1)) ∙ ap (slice_set (sheet_of p).buried row) (ap (λ (n : ℕ). buried_in (past_of p) (Buried n)) (sym next) ∙ next_buried (past_of p))

-- ---- a call that ends

pub one_at_most : (b : Bool) → one_if b ≤ 1
one_at_most true = omega arith
one_at_most false = omega arith

pub buried_before : (p : State) → IsPlainState p → (row call : ℕ) → fate_of p row ≡ Buried call → (first_row ≤ row) × (1 ≤ call) × (call ≤ p.ended + 1 + 0)
buried_before p plain row call at = let known = plain.buried row call at in let low = known.2 in (known.0, known.1, omega (arith, one_at_most p.in_flight))

module _ (p : State) (s : Sheet) (kind : Kind) (call : Call) (reply : Reply) (plain : IsPlainState p) (is : sheet_of p ≡ s) (may : MayFinish kind s call reply) where
  none_above : (row : ℕ) → p.published ≡ false → buried_in (past_of p) (fate_of p row) ≡ false
  none_above row silent = elim (cases_lt row first_row) [
    | inl low ↦ by_fate low (fate_of p row) refl
    | inr high ↦ elim (cases_lt row (first_row + p.rows)) [
      | inl within ↦ sym (buried_told p row) ∙ (ap (λ (s : Sheet). is_buried s.buried row) is ∙ (may.kept (sym (ap (λ (s : Sheet). s.published) is) ∙ silent)).none_buried row high (subst (λ (s : Sheet). row < first_row + s.tree.rows) is within))
      | inr beyond ↦ ap (buried_in (past_of p)) (get_or_past p.fates.items row New (let size = plain.fates in omega arith))
    ]
  ]
    where
      by_fate : row < first_row → (f : Fate) → fate_of p row ≡ f → buried_in (past_of p) f ≡ false
      by_fate low New at = refl
      by_fate low Draft at = refl
      by_fate low Live at = refl
      by_fate low (Buried call) at = let high = (plain.buried row call at).0 in absurd (omega arith)

  all_past : p.published ≡ true → p.ended + 1 + 0 ≡ past_of p
  all_past told = let all : past_of p ≡ p.ended + 1 = ap (λ (b : Bool). p.ended + one_if b) told in omega arith

  few_past : p.published ≡ false → past_of p ≤ p.ended + 1 + 0
  few_past silent = subst (λ (b : Bool). p.ended + one_if b ≤ p.ended + 1 + 0) (sym silent) (omega arith)

  pub finished_lives : map (life_in (p.ended + 1 + 0)) p.fates.items ≡ (sheet_of p).lives
  finished_lives = elim (cases_Bool p.published) [
    | inl told ↦ ap (λ (n : ℕ). map (life_in n) p.fates.items) (all_past told)
    | inr silent ↦ sym (lives_alike (past_of p) (p.ended + 1 + 0) p.fates.items (λ row. unburied_lives (past_of p) (p.ended + 1 + 0) (fate_of p row) (few_past silent) (none_above row silent)))
  ]

  pub finished_buried : map (buried_in (p.ended + 1 + 0)) p.fates.items ≡ (sheet_of p).buried
  finished_buried = elim (cases_Bool p.published) [
    | inl told ↦ ap (λ (n : ℕ). map (buried_in n) p.fates.items) (all_past told)
    | inr silent ↦ sym (buried_alike (past_of p) (p.ended + 1 + 0) p.fates.items (λ row. unburied_stays (past_of p) (p.ended + 1 + 0) (fate_of p row) (few_past silent) (none_above row silent)))
  ]

pub either_same : {A : Type 0} (b : Bool) (a : A) → a ≡ (if b then a else a)
either_same true a = refl
either_same false a = refl
