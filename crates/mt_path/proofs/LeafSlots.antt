-- What stands in the slots of a row, and spans that fill a row's indexes slot by slot. For the proofs of the crates above, too.
use Rattle.mt_path.proofs.Prelude.{◌≡◌, ◌≢◌, ℕ, zero, suc, ◌+◌, ◌<◌, ◌≤◌, List, [], ◌∷◌, length, nat_lt, nat_le, true, false, refl, ap, ◌∙◌, subst, inl, inr, arith, lt-ltb, le-ltb, slice_index, if◌then◌else◌, cases_Bool, Span, pivot_column, slot_column, items_from, Fills, spans_from, fills_le, slot_for, span_at}
use Rattle.mt_path.proofs.Places.{slot_here, slot_behind}

-- ---- the columns of a slot

module _ (slots gaps : ℕ) (w : List ℕ) (base max : ℕ) where
  abbrev last_in : ℕ → ℕ
  last_in j = if nat_lt (j + 1) slots then slice_index w (base + pivot_column j) else max

  pub record StandsIn (j : ℕ) (x : Span) : Type 0 where
    pub last : x.last ≡ last_in j
    pub word : x.word ≡ slice_index w (base + slot_column slots j)

  head_in : (i j first last : ℕ) → j ≡ i + 0 → last ≡ last_in i
      → StandsIn j (record { first = first; last = last; word = slice_index w (base + slot_column slots i) })
  head_in i j first last at is =
      let same : i ≡ j = omega arith in
      subst (λ (n : ℕ). StandsIn n (record { first = first; last = last; word = slice_index w (base + slot_column slots i) })) same
      (record { last = is; word = refl })

  pub stands_in : (left i first k j : ℕ) → left + i ≡ slots → j ≡ i + k → k < length (items_from slots gaps w base max left i)
      → StandsIn j (span_at (spans_from first (items_from slots gaps w base max left i)) k)
  stands_in zero i first k j all at below = absurd (omega arith)
  stands_in (suc zero) i first zero j all at below =
      let test : nat_lt (i + 1) slots ≡ false = le-ltb (i + 1) slots (omega arith) in
      head_in i j first max at (rw test refl)
  stands_in (suc zero) i first (suc k) j all at below = absurd (omega arith)
  stands_in (suc (suc left)) i first zero j all at below =
      let inner : nat_lt (i + 1) slots ≡ true = lt-ltb (i + 1) slots (omega arith) in
      let here = head_in i j first (slice_index w (base + pivot_column i)) at (rw inner refl) in
      elim (cases_Bool (nat_le max (slice_index w (base + pivot_column i)))) [
        | inl last ↦ rw last here
        | inr more ↦ rw more here
      ]
  stands_in (suc (suc left)) i first (suc k) j all at below = elim (cases_Bool (nat_le max (slice_index w (base + pivot_column i)))) [
    | inl last ↦ let one : suc k < 1 = rw last at below in absurd (omega arith)
    | inr more ↦
        let rest : suc k < suc (length (items_from slots gaps w base max (suc left) (i + 1))) = rw more at below in
        rw more (stands_in (suc left) (i + 1) (slice_index w (base + pivot_column i) + 1) k j (omega arith) (omega arith) (omega arith))
  ]

-- ---- spans end to end, by their slots

pub fills_within : (lo hi : ℕ) (xs : List Span) (k : ℕ) → Fills lo hi xs → k < length xs → (lo ≤ (span_at xs k).first) × ((span_at xs k).first ≤ (span_at xs k).last) × ((span_at xs k).last < hi)
fills_within lo hi [] k fills below = absurd (omega arith)
fills_within lo hi (x ∷ xs) zero fills below =
    let begins = fills.0 in let ends = fills.1 in let rest = fills_le (x.last + 1) hi xs fills.2 in (omega arith, omega arith, omega arith)
fills_within lo hi (x ∷ xs) (suc k) fills below =
    let behind = fills_within (x.last + 1) hi xs k fills.2 (omega arith) in
    let ends = fills.1 in let low = behind.0 in
    (omega arith, behind.1, behind.2)

pub fills_first : (lo hi : ℕ) (xs : List Span) → Fills lo hi xs → 0 < length xs → (span_at xs 0).first ≡ lo
fills_first lo hi [] fills some = absurd (omega arith)
fills_first lo hi (x ∷ xs) fills some = fills.0

pub fills_next : (lo hi : ℕ) (xs : List Span) (k : ℕ) → Fills lo hi xs → suc k < length xs → (span_at xs (suc k)).first ≡ (span_at xs k).last + 1
fills_next lo hi [] k fills below = absurd (omega arith)
fills_next lo hi (x ∷ xs) zero fills below = fills_first (x.last + 1) hi xs fills.2 (omega arith)
fills_next lo hi (x ∷ xs) (suc k) fills below = fills_next (x.last + 1) hi xs k fills.2 (omega arith)

-- a span that does not end at the end has one behind it
pub fills_more : (lo hi : ℕ) (xs : List Span) (k : ℕ) → Fills lo hi xs → k < length xs → (span_at xs k).last + 1 ≢ hi → suc k < length xs
fills_more lo hi [] k fills below other = absurd (omega arith)
fills_more lo hi (x ∷ []) zero fills below other = absurd (other fills.2)
fills_more lo hi (x ∷ y ∷ xs) zero fills below other = omega arith
fills_more lo hi (x ∷ xs) (suc k) fills below other = let behind = fills_more (x.last + 1) hi xs k fills.2 (omega arith) other in omega arith

-- the slot of an index is that of the span which holds it
pub fills_slot : (lo hi : ℕ) (xs : List Span) (k index : ℕ) → Fills lo hi xs → k < length xs → (span_at xs k).first ≤ index → index ≤ (span_at xs k).last → slot_for xs index ≡ k
fills_slot lo hi [] k index fills below from to = absurd (omega arith)
fills_slot lo hi (x ∷ xs) zero index fills below from to = slot_here x xs index to
fills_slot lo hi (x ∷ xs) (suc k) index fills below from to =
    let behind = (fills_within (x.last + 1) hi xs k fills.2 (omega arith)).0 in
    slot_behind x xs index (omega arith) ∙ ap suc (fills_slot (x.last + 1) hi xs k index fills.2 (omega arith) from to)
