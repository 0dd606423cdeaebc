-- A tree that is built of ranges, or why there is none.
use Rattle.mt_c.proofs.Prelude.{◌≡◌, ◌≢◌, ◌∙◌, ℕ, ◌<◌, List, Option, Some, None, nat_lt, refl, sym, ap, subst, inl, inr, arith, cases_Bool, ltb-true, Kind, Range, most_rows, BulkError, Order, TooMany, NoMemory, IsBuilt, refused_by, too_many, rows_in, misplaced, kind_code, map_by, Sheet, Parts, BuildWhy, Builds, IsOfRanges, LacksAnyhow, LacksOf, LacksRanges, why_of, FitsRows, IsOpenedWith, LacksTree, OwnTree}
use Rattle.mt_bulk.specs.Builds.{refusal}

-- ---- what a bulk build answers

none_order : (rows : ℕ) (o : Option ℕ) → refused_by o rows ≡ None → o ≡ None
none_order rows None is = refl
none_order rows (Some at) is = absurd (cc)

pub order_kept : (kind : Kind) (m : List Range) → refusal kind m ≡ None → misplaced kind m ≡ None
unfolding refusal
order_kept kind m none = none_order (rows_in kind m) (misplaced kind m) none

no_order : (rows at : ℕ) → too_many rows ≡ Some (Order at) → ⊥
no_order rows at is = elim (cases_Bool (nat_lt most_rows rows)) [
  | inl many ↦ (let here : Some (TooMany rows) ≡ Some (Order at) = rw many at is in absurd (cc))
  | inr fit ↦ (let here : None ≡ Some (Order at) = rw fit at is in absurd (cc))
]

order_is : (rows at : ℕ) (o : Option ℕ) → refused_by o rows ≡ Some (Order at) → o ≡ Some at
order_is rows at None is = absurd (no_order rows at is)
order_is rows at (Some a) is = (let same : a ≡ at = cc in ap (λ (n : ℕ). Some n) same)

above : (rows n : ℕ) → too_many rows ≡ Some (TooMany n) → most_rows < rows
above rows n is = elim (cases_Bool (nat_lt most_rows rows)) [
  | inl many ↦ ltb-true most_rows rows many
  | inr fit ↦ (let here : None ≡ Some (TooMany n) = rw fit at is in absurd (cc))
]

many_is : (rows n : ℕ) (o : Option ℕ) → refused_by o rows ≡ Some (TooMany n) → (o ≡ None) × (most_rows < rows)
many_is rows n None is = (refl, above rows n is)
many_is rows n (Some a) is = absurd (cc)

why_alone : (kind : Kind) (m : List Range) (e : BulkError) (why : BuildWhy) → why ≡ why_of e → (e ≢ NoMemory → refusal kind m ≡ Some e) → LacksAnyhow kind m why
unfolding refusal
why_alone kind m NoMemory why is tells = inr (subst (λ (w : BuildWhy). (w.status ≡ 12) × (w.at ≡ 0)) (sym is) (refl, refl))
why_alone kind m (Order at) why is tells =
    let here = order_is (rows_in kind m) at (misplaced kind m) (tells (λ same. absurd (cc))) in
    inl (λ rows. subst (λ (w : BuildWhy). LacksOf kind rows m w.status w.at) (sym is) (inl (refl, here)))
why_alone kind m (TooMany n) why is tells =
    let two = many_is (rows_in kind m) n (misplaced kind m) (tells (λ same. absurd (cc))) in
    let high = two.1 in
    inl (λ rows. subst (λ (w : BuildWhy). LacksOf kind rows m w.status w.at) (sym is) (inr (refl, refl, two.0, λ fits. (let low = fits.0 in let top = fits.1 in omega (arith, low, top, high)))))

pub why_refused : (kind : Kind) (m m' : List Range) (e : BulkError) (why : BuildWhy) → m ≡ m' → why ≡ why_of e → (e ≢ NoMemory → refusal kind m ≡ Some e) → LacksAnyhow kind m' why
why_refused kind m m' e why same is tells = subst (λ (x : List Range). LacksAnyhow kind x why) same (why_alone kind m e why is tells)

-- ---- a tree, or none

module _ (code rows : ℕ) (kind : Kind) (m : List Range) (coded : kind_code kind ≡ code) where
  pub lacks_anyhow : (why : BuildWhy) → LacksAnyhow kind m why → LacksRanges code rows m why.status why.at
  lacks_anyhow why (inl each) = inr (inl (kind, coded, each rows))
  lacks_anyhow why (inr none) = inr (inr none)

  module _ (s : Sheet) (used : ℕ) (good : misplaced kind m ≡ None) (built : IsBuilt kind m s) (count : used ≡ s.tree.rows) where
    used_is : used ≡ rows_in kind m
    used_is = count ∙ ap (λ (x : Sheet). x.tree.rows) built.words.rest

    pub of_ranges_in : (t : Parts) → FitsRows used rows → IsOpenedWith kind rows (map_by s.tree) t → IsOfRanges code rows m t
    of_ranges_in t fits opened = (kind, coded, good, subst (λ (n : ℕ). FitsRows n rows) used_is fits, subst (λ (x : List Range). IsOpenedWith kind rows x t) built.map opened)

    pub ranges_lack : (status : ℕ) (why : BuildWhy) → LacksTree used rows status → why ≡ record { status = status; at = 0 } → LacksRanges code rows m why.status why.at
    ranges_lack status why (inl few) is =
        subst (λ (w : BuildWhy). LacksRanges code rows m w.status w.at) (sym is) (inr (inl (kind, coded, inr (few.0, refl, good, λ fits. few.1 (subst (λ (n : ℕ). FitsRows n rows) (sym used_is) fits)))))
    ranges_lack status why (inr none) is = subst (λ (w : BuildWhy). LacksRanges code rows m w.status w.at) (sym is) (inr (inr (none.0, refl)))

-- ---- what C keeps

module _ (code rows : ℕ) (m : List Range) (before after : Option OwnTree) (status at : ℕ) where
  pub builds_busy : (t : OwnTree) → before ≡ Some t → after ≡ Some t → status ≡ 114 → at ≡ 0 → Builds code rows m before after status at
  builds_busy t was stays number place = subst (λ (x : Option OwnTree). Builds code rows m x after status at) (sym was) (stays, number, place)

  pub builds_made : (t : OwnTree) → before ≡ None → after ≡ Some t → status ≡ 0 → at ≡ 0 → IsOfRanges code rows m t.engine → Builds code rows m before after status at
  builds_made t was made number place ok = subst (λ (x : Option OwnTree × Option OwnTree). Builds code rows m x.0 x.1 status at) (λ i. (sym was i, sym made i)) (number, place, ok)

  pub builds_none : (why : BuildWhy) → before ≡ None → after ≡ None → status ≡ why.status → at ≡ why.at → LacksRanges code rows m why.status why.at → Builds code rows m before after status at
  builds_none why was stays number place lacks =
      subst (λ (x : Option OwnTree × (Option OwnTree × (ℕ × ℕ))). Builds code rows m x.0 x.1.0 x.1.1.0 x.1.1.1) (λ i. (sym was i, (sym stays i, (sym number i, sym place i)))) lacks
