-- A gap word that is stored in a slot of a row of a tree makes that slot right, and leaves all others as they were.
use Rattle.mt_gap.proofs.Prelude.{◌≡◌, ◌≢◌, ℕ, zero, suc, ◌+◌, ◌<◌, true, List, [], ◌∷◌, length, refl, sym, ap, ◌∙◌, subst, ⊎_elim, inl, inr, arith, ◌⊎◌, cases_eq, Gapped, Span, gap_column, row_in, slots_of, gap_within, span_at, Tree, HasWords, IsRow, Stands, GapLaw, GapsFrom, longest_below, Levels, tree_on, root_of, Rooted, with_word, Table, column, spans_in, row_most, others_keep, other_gap, this_gap, all_spans_stay, Shared, levels_front, levels_back, levels_shared, longest_shared, levels_from, IsOneOf, OnLevel, on_level_law, one_place, levels_at, AreRight}
use Rattle.mt_gap.proofs.Mending.{levels_below}

-- ---- what stands in a slot

pub slot_one : (xs : List Span) (i : ℕ) → i < length xs → IsOneOf (span_at xs i) xs
slot_one [] i within = absurd (omega arith)
slot_one (x ∷ xs) zero within = inl refl
slot_one (x ∷ xs) (suc i) within = inr (slot_one xs i (omega arith))

pub levels_slot : (P : ℕ → Span → Type 0) (t : Table) (k : ℕ) (xs : List Span) (i : ℕ) → i < length xs → Levels P t k xs → Levels P t k (span_at xs i ∷ [])
levels_slot P t k [] i within rows = absurd (omega arith)
levels_slot P t k (x ∷ xs) zero within rows = levels_front P t k (x ∷ []) xs rows
levels_slot P t k (x ∷ xs) (suc i) within rows = levels_slot P t k xs i (omega arith) (levels_back P t k (x ∷ []) xs rows)

-- ---- the law of gaps, slot by slot

pub slots_of_law : (t : Table) (h row first : ℕ) (xs : List Span) → GapsFrom t h row first xs → (i : ℕ) → i < length xs
    → column t row (gap_column (slots_of t.width Gapped) (first + i)) ≡ longest_below t h (span_at xs i ∷ [])
slots_of_law t h row first [] law i within = absurd (omega arith)
slots_of_law t h row first (x ∷ xs) law zero within = let at : first + 0 ≡ first = omega arith in ap (λ n. column t row (gap_column (slots_of t.width Gapped) n)) at ∙ law.0
slots_of_law t h row first (x ∷ xs) law (suc i) within =
    let at : first + suc i ≡ first + 1 + i = omega arith in
    ap (λ n. column t row (gap_column (slots_of t.width Gapped) n)) at ∙ slots_of_law t h row (first + 1) xs law.1 i (omega arith)

pub law_of_slots : (t : Table) (h row first : ℕ) (xs : List Span)
    → ((i : ℕ) → i < length xs → column t row (gap_column (slots_of t.width Gapped) (first + i)) ≡ longest_below t h (span_at xs i ∷ [])) → GapsFrom t h row first xs
law_of_slots t h row first [] each = tt
law_of_slots t h row first (x ∷ xs) each = (
  (let at : first + 0 ≡ first = omega arith in ap (λ n. column t row (gap_column (slots_of t.width Gapped) n)) (sym at) ∙ each 0 (omega arith)),
  law_of_slots t h row (first + 1) xs (λ i within. (let at : first + suc i ≡ first + 1 + i = omega arith in
      ap (λ n. column t row (gap_column (slots_of t.width Gapped) n)) (sym at) ∙ each (suc i) (omega arith))),
)

pub are_right : (done : ℕ → Span → ℕ → Type 0) (r : Rooted) (h : ℕ) (x : Span) → GapLaw (tree_on true r) h x → AreRight done (tree_on true r) h x
are_right done r zero x law i within is = tt
are_right done r (suc h) x law i within is =
    let at : 0 + i ≡ i = omega arith in
    ap (λ n. column r.table (row_in x.word) (gap_column (slots_of r.table.width Gapped) n)) (sym at) ∙ slots_of_law r.table h (row_in x.word) 0 (spans_in r.table x) law i within

pub law_of_right : (done : ℕ → Span → ℕ → Type 0) (r : Rooted) (h : ℕ) (x : Span) → AreRight done (tree_on true r) h x → ((i : ℕ) → i < length (spans_in r.table x) → done h x i)
    → GapLaw (tree_on true r) h x
law_of_right done r zero x right all = tt
law_of_right done r (suc h) x right all = law_of_slots r.table h (row_in x.word) 0 (spans_in r.table x) (λ i within. (let at : 0 + i ≡ i = omega arith in
    ap (λ n. column r.table (row_in x.word) (gap_column (slots_of r.table.width Gapped) n)) at ∙ right i within (all i within)))

-- ---- one slot more

module _ (r : Rooted) (h k slot gap : ℕ) (x : Span) (has : HasWords (tree_on true r)) (stands : Stands (tree_on true r) h) (on : OnLevel r.table h (root_of (tree_on true r)) (suc k) x)
    (used : slot < length (spans_in r.table x)) (is : gap ≡ longest_below r.table k (span_at (spans_in r.table x) slot ∷ [])) where
  abbrev t : Tree
  t = tree_on true r

  abbrev r' : Rooted
  r' = with_word r (row_in x.word) (gap_column (slots_of r.table.width Gapped) slot) gap

  abbrev t' : Tree
  t' = tree_on true r'

  shared : Levels (Shared r.table r'.table) r.table h (root_of t)
  shared = all_spans_stay r h k slot gap x has stands on used

  x_row : IsRow t (suc k) x
  x_row = on_level_law t h stands (suc k) x on

  same : (l : ℕ) (y : Span) → OnLevel r.table h (root_of t) l y → spans_in r'.table y ≡ spans_in r.table y
  same l y at = levels_at (Shared r.table r'.table) r.table h l (root_of t) y shared at

  -- what is below a slot has the holes that it had
  below_same : (l : ℕ) (y : Span) (i : ℕ) → OnLevel r.table h (root_of t) (suc l) y → i < length (spans_in r.table y)
      → longest_below r'.table l (span_at (spans_in r'.table y) i ∷ []) ≡ longest_below r.table l (span_at (spans_in r.table y) i ∷ [])
  below_same l y i at within =
      ap (λ (xs : List Span). longest_below r'.table l (span_at xs i ∷ [])) (same (suc l) y at)
      ∙ longest_shared r.table r'.table l (span_at (spans_in r.table y) i ∷ [])
      (levels_slot (Shared r.table r'.table) r.table l (spans_in r.table y) i within (levels_below (Shared r.table r'.table) r.table h l (root_of t) y shared at))

  module _ (done done' : ℕ → Span → ℕ → Type 0) (right : Levels (AreRight done t) r.table h (root_of t))
      (more : (l : ℕ) (y : Span) (i : ℕ) → OnLevel r.table h (root_of t) l y → done' l y i → done l y i ⊎ ((y ≡ x) × (i ≡ slot))) where
    was : (l : ℕ) (y : Span) → OnLevel r.table h (root_of t) l y → AreRight done t l y
    was l y at = levels_at (AreRight done t) r.table h l (root_of t) y right at

    here : AreRight done' t' (suc k) x
    here i within' is_done =
        let within : i < length (spans_in r.table x) = subst (λ (xs : List Span). i < length xs) (same (suc k) x on) within' in
        ⊎_elim
        (λ (e : i ≡ slot). (let at_slot : i ≡ slot = e in
        ap (λ n. column r'.table (row_in x.word) (gap_column (slots_of r.table.width Gapped) n)) at_slot
        ∙ (this_gap r k slot gap x has x_row used
        ∙ (is ∙ (ap (λ n. longest_below r.table k (span_at (spans_in r.table x) n ∷ [])) (sym at_slot) ∙ sym (below_same k x i on within))))))
        (λ (other : i ≡ slot → ⊥). other_gap r k slot gap x has x_row used (gap_column (slots_of r.table.width Gapped) i) (λ e. other (omega arith))
        ∙ (was (suc k) x on i within (elim (more (suc k) x i on is_done) [ inl before ↦ before | inr new ↦ absurd (other new.1) ]) ∙ sym (below_same k x i on within)))
        (cases_eq i slot)

    there : (l : ℕ) (y : Span) → OnLevel r.table h (root_of t) l y → row_in y.word ≢ row_in x.word → AreRight done' t' l y
    there zero y at other i within' is_done = tt
    there (suc l) y at other i within' is_done =
        let within : i < length (spans_in r.table y) = subst (λ (xs : List Span). i < length xs) (same (suc l) y at) within' in
        let few = row_most (on_level_law t h stands (suc l) y at).name in
        others_keep r k slot gap x has x_row used y other (gap_column (slots_of r.table.width Gapped) i) (omega arith) (gap_within r.table.width i (omega arith))
        ∙ (was (suc l) y at i within (elim (more (suc l) y i at is_done) [ inl before ↦ before | inr new ↦ absurd (other (ap (λ (z : Span). row_in z.word) new.0)) ]) ∙ sym (below_same l y i at within))

    each : (l : ℕ) (y : Span) → OnLevel r.table h (root_of t) l y → AreRight done' t' l y
    each l y at = ⊎_elim
        (λ (e : row_in y.word ≡ row_in x.word). (let one = one_place t h stands l (suc k) y x at on e in
        subst (λ (p : ℕ × Span). AreRight done' t' p.0 p.1) (λ j. (sym one.0 j, sym one.1 j)) here))
        (λ (other : row_in y.word ≡ row_in x.word → ⊥). there l y at other)
        (cases_eq (row_in y.word) (row_in x.word))

    pub right_then : Levels (AreRight done' t') r'.table h (root_of t')
    right_then = levels_shared (AreRight done' t') r.table r'.table h (root_of t) shared (levels_from (AreRight done' t') r.table h (root_of t) h 0 (omega arith) (λ l y low at. each l y at))
