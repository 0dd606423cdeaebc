-- How a row is searched for an index: slot by slot, up to the first pivot that is not below it.
use Rattle.mt_path.proofs.Prelude.{◌≡◌, ℕ, suc, ◌+◌, ◌-◌, ◌<◌, ◌≤◌, List, [], ◌∷◌, true, false, refl, sym, ap, ◌∙◌, subst, ⊎_elim, arith, lt-ltb, le-ltb, nat_lt, slice_index, cases_lt, Item, pivot_column, slot_column, item_at, items_from, items_at, Span, spans_from, IsItem, ends, goes_on, slots_of, gaps_of, Table, base_of, column, PathStep, Row, Found, slot_for, span_at, IsFoundSlot}
use Rattle.mt_path.proofs.Places.{slot_here, slot_behind}

module _ (slots gaps : ℕ) (w : List ℕ) (base max : ℕ) where
  abbrev pivot : ℕ → ℕ
  pivot i = slice_index w (base + pivot_column i)

  -- the spans from a slot on, the first of which begins at `first`
  abbrev pub spans_behind : ℕ → ℕ → List Span
  spans_behind i first = spans_from first (items_from slots gaps w base max (slots - i) i)

  abbrev pub all_spans : ℕ → List Span
  all_spans first = spans_from first (items_at slots gaps w base max)

  -- the slots below i do not hold the index, and slot i begins at `first`
  pub record Passed (min index i first : ℕ) : Type 0 where
    pub slot : slot_for (all_spans min) index ≡ i + slot_for (spans_behind i first) index
    pub span : (k : ℕ) → span_at (all_spans min) (i + k) ≡ span_at (spans_behind i first) k

  inner_item : (i : ℕ) → i + 1 < slots → IsItem slots gaps w base max i (item_at slots gaps w base i (pivot i))
  inner_item i inner = (refl, (let test : nat_lt (i + 1) slots ≡ true = lt-ltb (i + 1) slots inner in rw test refl))

  last_item : (i : ℕ) → i + 1 ≡ slots → IsItem slots gaps w base max i (item_at slots gaps w base i max)
  last_item i last = (refl, (let test : nat_lt (i + 1) slots ≡ false = le-ltb (i + 1) slots (omega arith) in rw test refl))

  abbrev span_of : ℕ → Item → Span
  span_of first x = record { first = first; last = x.last; word = x.word }

  pub passed_more : (min index i first : ℕ) → i + 1 < slots → pivot i < index → index ≤ max → Passed min index i first → Passed min index (i + 1) (pivot i + 1)
  passed_more min index i first inner past within passed =
      let x = item_at slots gaps w base i (pivot i) in
      let left : slots - i ≡ suc (slots - (i + 1)) = omega arith in
      let here : spans_behind i first ≡ span_of first x ∷ spans_behind (i + 1) (pivot i + 1) =
      ap (λ (n : ℕ). spans_from first (items_from slots gaps w base max n i)) left
      ∙ ap (spans_from first) (goes_on slots gaps w base max (slots - (i + 1)) i x (omega arith) (inner_item i inner) (omega arith)) in
      let slot = ap (λ (l : List Span). slot_for l index) here ∙ slot_behind (span_of first x) (spans_behind (i + 1) (pivot i + 1)) index past in
      record {
        slot = (let before = passed.slot in omega arith);
        span = λ k. ap (span_at (all_spans min)) (next i k) ∙ (passed.span (suc k) ∙ ap (λ (l : List Span). span_at l (suc k)) here);
      }
    where
      next : (i k : ℕ) → (i + 1) + k ≡ i + suc k
      next i k = omega arith

  -- the search ends in slot i, whose item is x
  pub record Ends (min index i first last : ℕ) : Type 0 where
    pub slot : i ≡ slot_for (all_spans min) index
    pub from : first ≡ (span_at (all_spans min) i).first
    pub to : last ≡ (span_at (all_spans min) i).last
    pub word : slice_index w (base + slot_column slots i) ≡ (span_at (all_spans min) i).word

  head_by : (i first : ℕ) (x : Item) → i < slots → IsItem slots gaps w base max i x → (behind : List Span) × (spans_behind i first ≡ span_of first x ∷ behind)
  head_by i first x used is =
      let left : slots - i ≡ suc (slots - (i + 1)) = omega arith in
      let from = ap (λ (n : ℕ). spans_from first (items_from slots gaps w base max n i)) left in
      ⊎_elim
      (λ (more : x.last < max). (
        spans_behind (i + 1) (x.last + 1),
        from ∙ ap (spans_from first) (goes_on slots gaps w base max (slots - (i + 1)) i x (omega arith) is more),
      ))
      (λ (last : max ≤ x.last). (
        [],
        from ∙ ap (spans_from first) (ends slots gaps w base max (suc (slots - (i + 1))) i x (omega arith) (omega arith) is last),
      ))
      (cases_lt x.last max)

  ends_by : (min index i first : ℕ) (x : Item) → i < slots → IsItem slots gaps w base max i x → index ≤ x.last → Passed min index i first → Ends min index i first x.last
  ends_by min index i first x used is within passed =
      let head = head_by i first x used is in
      let slot = ap (λ (l : List Span). slot_for l index) head.1 ∙ slot_here (span_of first x) head.0 index within in
      let span : span_at (all_spans min) i ≡ span_of first x = ap (span_at (all_spans min)) (none i) ∙ (passed.span 0 ∙ ap (λ (l : List Span). span_at l 0) head.1) in
      record {
        slot = (let before = passed.slot in omega arith);
        from = sym (ap (λ (y : Span). y.first) span);
        to = sym (ap (λ (y : Span). y.last) span);
        word = sym (ap (λ (y : Span). y.word) span ∙ ap (λ (y : Item). y.word) is.0);
      }
    where
      none : (i : ℕ) → i ≡ i + 0
      none i = omega arith

  pub ends_at_pivot : (min index i first : ℕ) → i + 1 < slots → index ≤ pivot i → Passed min index i first → Ends min index i first (pivot i)
  ends_at_pivot min index i first inner within passed = ends_by min index i first (item_at slots gaps w base i (pivot i)) (omega arith) (inner_item i inner) within passed

  pub ends_at_last : (min index i first : ℕ) → i + 1 ≡ slots → index ≤ max → Passed min index i first → Ends min index i first max
  ends_at_last min index i first last within passed = ends_by min index i first (item_at slots gaps w base i max) (omega arith) (last_item i last) within passed

-- ---- in a row of a table

-- the step in a slot of a row, and the first and the last index of what stands there
abbrev pub found_of : Row → ℕ → ℕ → ℕ → Found
found_of row slot first last = record { step = record { row = row.number; slot = slot; min = row.min; max = row.max }; first = first; last = last }

module _ (t : Table) (row : Row) (index : ℕ) where
  abbrev slots : ℕ
  slots = slots_of t.width row.kind

  -- the slots below i of the row do not hold the index, and slot i begins at `first`
  abbrev pub PassedIn : ℕ → ℕ → Type 0
  PassedIn i first = Passed slots (gaps_of t.width row.kind) t.words (base_of t row.number) row.max row.min index i first

  found_by : (i first last : ℕ) (found : Found) → i < slots → Ends slots (gaps_of t.width row.kind) t.words (base_of t row.number) row.max row.min index i first last → found ≡ found_of row i first last → IsFoundSlot t row index found
  found_by i first last found used ends is =
      subst (IsFoundSlot t row index) (sym is)
      (record { step = ap with_slot ends.slot; used = used; span = λ j. record { first = ends.from j; last = ends.to j; word = ends.word j } })
    where
      with_slot : ℕ → PathStep
      with_slot slot = record { row = row.number; slot = slot; min = row.min; max = row.max }

  pub found_at_pivot : (i first pivot : ℕ) (found : Found) → i + 1 < slots → pivot ≡ column t row.number (1 + i) → index ≤ pivot → PassedIn i first → found ≡ found_of row i first pivot → IsFoundSlot t row index found
  found_at_pivot i first pivot found inner is within passed built =
      found_by i first (column t row.number (1 + i)) found (omega arith)
      (ends_at_pivot slots (gaps_of t.width row.kind) t.words (base_of t row.number) row.max row.min index i first inner (omega (arith, is)) passed)
      (built ∙ ap (found_of row i first) is)

  pub found_at_last : (i first : ℕ) (found : Found) → i + 1 ≡ slots → index ≤ row.max → PassedIn i first → found ≡ found_of row i first row.max → IsFoundSlot t row index found
  found_at_last i first found last within passed built =
      found_by i first row.max found (omega arith) (ends_at_last slots (gaps_of t.width row.kind) t.words (base_of t row.number) row.max row.min index i first last within passed) built

  pub pass : (i first pivot : ℕ) → i + 1 < slots → pivot ≡ column t row.number (1 + i) → pivot < index → index ≤ row.max → PassedIn i first → PassedIn (i + 1) (pivot + 1)
  pass i first pivot inner is past within passed =
      subst (λ (k : ℕ). PassedIn (i + 1) (k + 1)) (sym is)
      (passed_more slots (gaps_of t.width row.kind) t.words (base_of t row.number) row.max row.min index i first inner (omega (arith, is)) within passed)

  -- before the first slot there is none
  pub none_passed : PassedIn 0 row.min
  none_passed =
      let whole : slots - 0 ≡ slots = omega arith in
      let all : spans_behind slots (gaps_of t.width row.kind) t.words (base_of t row.number) row.max 0 row.min ≡ all_spans slots (gaps_of t.width row.kind) t.words (base_of t row.number) row.max row.min =
      ap (λ (n : ℕ). spans_from row.min (items_from slots (gaps_of t.width row.kind) t.words (base_of t row.number) row.max n 0)) whole in
      let same = ap (λ (l : List Span). slot_for l index) all in
      record { slot = omega (arith, same); span = λ k. ap (span_at (all_spans slots (gaps_of t.width row.kind) t.words (base_of t row.number) row.max row.min)) (none_more k) ∙ ap (λ (l : List Span). span_at l k) (sym all) }
    where
      none_more : (k : ℕ) → 0 + k ≡ k
      none_more k = omega arith
