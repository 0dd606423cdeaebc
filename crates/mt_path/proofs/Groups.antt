-- A row that is searched by groups of slots: which pivots are below an index tells the slot that holds it.
use Rattle.mt_path.proofs.Prelude.{lt-ltb, true, ◌≡◌, ℕ, zero, suc, ◌+◌, ◌-◌, ◌*◌, ◌<◌, ◌≤◌, List, [], ◌∷◌, length, refl, sym, ap, ◌∙◌, subst, inl, inr, arith, nat_lt, false, le-ltb, cases_lt, Span, Width, Long, Short, RowKind, items_at, slots_of, gaps_of, Fills, some_items, few_items, some_slots_of, length-spans_from, Table, base_of, column, Row, Found, IsLawfulRow, slot_for, span_at, spans_of, IsFoundSlot}
use Rattle.mt_layout.specs.declared.names.RowKind.TheVariants as kinds
use Rattle.mt_path.proofs.LeafSlots.{fills_within, fills_first, fills_next, stands_in}
use Rattle.mt_path.proofs.Middles.{rising, none_past, pivot_of}
use Rattle.mt_path.proofs.Places.{slot_here, slot_behind}
use Rattle.mt_path.proofs.Searches.{found_of}
pub use Rattle.mt_path.specs.Walks.{row_at}

-- ---- among spans end to end

-- the slot that holds an index is one of them, and what stands there does not end before the index
pub holds : (lo hi : ℕ) (xs : List Span) (index : ℕ) → Fills lo hi xs → 0 < length xs → index < hi → (slot_for xs index < length xs) × (index ≤ (span_at xs (slot_for xs index)).last)
holds lo hi [] index fills some within = absurd (omega arith)
holds lo hi (x ∷ []) index fills some within =
    let ends = fills.2 in
    let here = slot_here x [] index (omega arith) in
    subst (λ (k : ℕ). (k < 1) × (index ≤ (span_at (x ∷ []) k).last)) (sym here) (omega arith, omega arith)
holds lo hi (x ∷ y ∷ xs) index fills some within = elim (cases_lt x.last index) [
  | inl past ↦
      let behind = holds (x.last + 1) hi (y ∷ xs) index fills.2 (omega arith) within in
      subst (λ (k : ℕ). (k < length (x ∷ y ∷ xs)) × (index ≤ (span_at (x ∷ y ∷ xs) k).last)) (sym (slot_behind x (y ∷ xs) index past)) (omega (arith, behind.0), behind.1)
  | inr here ↦ subst (λ (k : ℕ). (k < length (x ∷ y ∷ xs)) × (index ≤ (span_at (x ∷ y ∷ xs) k).last)) (sym (slot_here x (y ∷ xs) index here)) (omega arith, here)
]

-- what stands before it ends before the index
pub before : (xs : List Span) (index k : ℕ) → k < slot_for xs index → (span_at xs k).last < index
before [] index k low = absurd (omega arith)
before (x ∷ xs) index zero low = elim (cases_lt x.last index) [
  | inl past ↦ past
  | inr here ↦ let none : 0 < 0 = subst (λ (n : ℕ). 0 < n) (slot_here x xs index here) low in absurd (omega arith)
]
before (x ∷ xs) index (suc k) low = elim (cases_lt x.last index) [
  | inl past ↦ let less : suc k < suc (slot_for xs index) = subst (λ (n : ℕ). suc k < n) (slot_behind x xs index past) low in before xs index k (omega arith)
  | inr here ↦ let none : suc k < 0 = subst (λ (n : ℕ). suc k < n) (slot_here x xs index here) low in absurd (omega arith)
]

-- ---- in a row

-- What the search needs of a row: its spans fill its indexes, and a pivot behind them is 0.
pub record IsSought (t : Table) (row : Row) : Type 0 where
  pub fills : Fills row.min (row.max + 1) (spans_of t row)
  pub unused : (k : ℕ) → k + 1 < slots_of t.width row.kind → length (spans_of t row) ≤ k → column t row.number (1 + k) ≡ 0

pub sought : (t : Table) (row : Row) → IsLawfulRow t row → IsSought t row
sought t row lawful = record {
  fills = lawful.fills;
  unused = λ k inner none.
      pivot_of t row lawful k inner
      ∙ none_past (items_at (slots_of t.width row.kind) (gaps_of t.width row.kind) t.words (base_of t row.number) row.max) k (omega (arith, length-spans_from row.min (items_at (slots_of t.width row.kind) (gaps_of t.width row.kind) t.words (base_of t row.number) row.max)));
}

module _ (t : Table) (row : Row) (lawful : IsSought t row) where
  long : length (spans_of t row) ≡ length (items_at (slots_of t.width row.kind) (gaps_of t.width row.kind) t.words (base_of t row.number) row.max)
  long = length-spans_from row.min (items_at (slots_of t.width row.kind) (gaps_of t.width row.kind) t.words (base_of t row.number) row.max)

  fit : length (items_at (slots_of t.width row.kind) (gaps_of t.width row.kind) t.words (base_of t row.number) row.max) ≤ slots_of t.width row.kind
  fit = few_items (slots_of t.width row.kind) (gaps_of t.width row.kind) t.words (base_of t row.number) row.max (slots_of t.width row.kind) 0

  last_is : (k : ℕ) → k + 1 < slots_of t.width row.kind → k < length (spans_of t row) → (span_at (spans_of t row) k).last ≡ column t row.number (1 + k)
  last_is k inner below =
      let test : nat_lt (k + 1) (slots_of t.width row.kind) ≡ true = lt-ltb (k + 1) (slots_of t.width row.kind) inner in
      let here = stands_in (slots_of t.width row.kind) (gaps_of t.width row.kind) t.words (base_of t row.number) row.max (slots_of t.width row.kind) 0 row.min k k (omega arith) (omega arith) (omega (arith, long)) in
      rw test at here.last

module _ (t : Table) (row : Row) (lawful : IsSought t row) (index : ℕ) (within : index ≤ row.max) where
  abbrev slots : ℕ
  slots = slots_of t.width row.kind

  -- the slot that holds the index
  abbrev pub here : ℕ
  here = slot_for (spans_of t row) index

  some_spans : 0 < length (spans_of t row)
  some_spans =
      let some = some_items slots (gaps_of t.width row.kind) t.words (base_of t row.number) row.max slots 0 (omega (arith, some_slots_of t.width row.kind)) in
      omega (arith, long t row lawful)

  here_is : (here < length (spans_of t row)) × (index ≤ (span_at (spans_of t row) here).last)
  here_is = holds row.min (row.max + 1) (spans_of t row) index lawful.fills some_spans (omega arith)

  -- A pivot in front of the slot is below the index.
  pub low_pivot : (k : ℕ) → k + 1 < slots → k < here → column t row.number (1 + k) < index
  low_pivot k inner low =
      let used = here_is.0 in
      let is = last_is t row lawful k inner (omega arith) in
      let past = before (spans_of t row) index k low in
      omega arith

  -- The slot's own is not.
  pub own_pivot : (k : ℕ) → k + 1 < slots → k ≡ here → index ≤ column t row.number (1 + k)
  own_pivot k inner same =
      let used = here_is.0 in
      let is = last_is t row lawful k inner (omega arith) in
      let to = here_is.1 in
      let at : (span_at (spans_of t row) k).last ≡ (span_at (spans_of t row) here).last = ap (λ (n : ℕ). (span_at (spans_of t row) n).last) same in
      omega arith

  -- A pivot from the slot on is unused or not below the index.
  high_pivot : (P : Type 0) (k : ℕ) → k + 1 < slots → here ≤ k → (column t row.number (1 + k) ≡ 0 → P) → (index ≤ column t row.number (1 + k) → P) → P
  high_pivot P k inner high unused past = elim (cases_lt k (length (spans_of t row))) [
    | inl used ↦
        let is = last_is t row lawful k inner used in
        let to = here_is.1 in
        let rises = rising row.min (row.max + 1) (spans_of t row) here k lawful.fills high used in
        past (omega arith)
    | inr none ↦
        unused (lawful.unused k inner none)
  ]

  -- But the first, a pivot in front of the slot is not 0.
  some_pivot : (k : ℕ) → suc k + 1 < slots → suc k < here → 0 < column t row.number (1 + suc k)
  some_pivot k inner low =
      let used = here_is.0 in
      let is = last_is t row lawful (suc k) inner (omega arith) in
      let next = fills_next row.min (row.max + 1) (spans_of t row) k lawful.fills (omega arith) in
      let order = fills_within row.min (row.max + 1) (spans_of t row) (suc k) lawful.fills (omega arith) in
      let rises = order.1 in
      omega arith

  -- What `under` tells of the pivot in a column behind the first: whether the slot is at that column's number or above.
  pub tells : (col word one : ℕ) → 1 < col → col < slots → word ≡ column t row.number col
      → (0 < word → word < index → one ≡ 1) → (word ≡ 0 → one ≡ 0) → (index ≤ word → one ≡ 0) → one ≡ 1 - (col - here)
  tells zero word one some inner is told none past = absurd (omega arith)
  tells (suc zero) word one some inner is told none past = absurd (omega arith)
  tells (suc (suc k)) word one some inner is told none past = elim (cases_lt (suc k) here) [
    | inl low ↦
        let not_zero = some_pivot k (omega arith) low in
        let below = low_pivot (suc k) (omega arith) low in
        let same : 1 + suc k ≡ suc (suc k) = omega arith in
        let at : column t row.number (1 + suc k) ≡ column t row.number (suc (suc k)) = ap (column t row.number) same in
        let is_one = told (omega arith) (omega arith) in
        omega arith
    | inr high ↦
        let same : 1 + suc k ≡ suc (suc k) = omega arith in
        let at : column t row.number (1 + suc k) ≡ column t row.number (suc (suc k)) = ap (column t row.number) same in
        let is_none = high_pivot (one ≡ 0) (suc k) (omega arith) high (λ zero. none (omega arith)) (λ more. past (omega arith)) in
        omega arith
  ]

  -- What a comparison alone tells of the pivot of a slot that is used.
  pub tells_first : (k word one : ℕ) → k ≤ here → k + 1 < slots → word ≡ column t row.number (1 + k)
      → (word < index → one ≡ 1) → (index ≤ word → one ≡ 0) → one ≡ 1 - (1 + k - here)
  tells_first k word one reached inner is told past = elim (cases_lt k here) [
    | inl low ↦
        let below = low_pivot k inner low in
        let is_one = told (omega arith) in
        omega arith
    | inr high ↦
        let above = own_pivot k inner (omega arith) in
        let is_none = past (omega arith) in
        omega arith
  ]

  pub here_fits : here < slots
  here_fits = let used = here_is.0 in omega (arith, long t row lawful, fit t row lawful)

  pub here_used : here < length (spans_of t row)
  here_used = here_is.0

  -- The slot with what stands in it is what is found.
  pub found_here : (slot first last : ℕ) (found : Found) → slot ≡ here → first ≡ (span_at (spans_of t row) slot).first → last ≡ (span_at (spans_of t row) slot).last
      → found ≡ found_of row slot first last → IsFoundSlot t row index found
  found_here slot first last found same from to is =
      let used = here_used in
      let fits = here_fits in
      let stands = stands_in slots (gaps_of t.width row.kind) t.words (base_of t row.number) row.max slots 0 row.min slot slot (omega arith) (omega arith) (omega (arith, long t row lawful)) in
      subst (IsFoundSlot t row index) (sym is) (record {
        step = (λ i. record { row = row.number; slot = same i; min = row.min; max = row.max });
        used = omega arith;
        span = λ i. record { first = from i; last = to i; word = sym stands.word i };
      })

-- ---- the ends of a slot

module _ (t : Table) (row : Row) (lawful : IsSought t row) (slot : ℕ) (used : slot < length (spans_of t row)) where
  abbrev slots₁ : ℕ
  slots₁ = slots_of t.width row.kind

  pub first_of : slot ≡ 0 → row.min ≡ (span_at (spans_of t row) slot).first
  first_of none = sym (ap (λ (n : ℕ). (span_at (spans_of t row) n).first) none ∙ fills_first row.min (row.max + 1) (spans_of t row) lawful.fills (omega arith))

  pub first_by : (k : ℕ) → slot ≡ suc k → column t row.number slot + 1 ≡ (span_at (spans_of t row) slot).first
  first_by k is =
      let is_used : suc k < length (spans_of t row) = omega arith in
      let fits : slot < slots₁ = omega (arith, long t row lawful, fit t row lawful) in
      let next = fills_next row.min (row.max + 1) (spans_of t row) k lawful.fills is_used in
      let last = last_is t row lawful k (omega arith) (omega arith) in
      let shift : slot ≡ 1 + k = omega arith in
      let at : column t row.number slot ≡ column t row.number (1 + k) = ap (column t row.number) shift in
      let to : (span_at (spans_of t row) slot).first ≡ (span_at (spans_of t row) (suc k)).first = ap (λ (n : ℕ). (span_at (spans_of t row) n).first) is in
      omega arith

  pub first_behind : 0 < slot → column t row.number slot + 1 ≡ (span_at (spans_of t row) slot).first
  first_behind some = first_by (slot - 1) (omega arith)

  pub ends_within : (span_at (spans_of t row) slot).first ≤ row.max
  ends_within = let within = fills_within row.min (row.max + 1) (spans_of t row) slot lawful.fills used in let order = within.1 in omega (arith, within.2)

  pub slot_fits : slot < slots₁
  slot_fits = omega (arith, long t row lawful, fit t row lawful)

  pub last_at_pivot : slot + 1 < slots₁ → column t row.number (1 + slot) ≡ (span_at (spans_of t row) slot).last
  last_at_pivot inner = sym (last_is t row lawful slot inner used)

  pub last_at_end : slots₁ ≤ slot + 1 → row.max ≡ (span_at (spans_of t row) slot).last
  last_at_end last =
      let test : nat_lt (slot + 1) slots₁ ≡ false = le-ltb (slot + 1) slots₁ last in
      let here = stands_in slots₁ (gaps_of t.width row.kind) t.words (base_of t row.number) row.max slots₁ 0 row.min slot slot (omega arith) (omega arith) (omega (arith, long t row lawful)) in
      sym (rw test at here.last)

-- ---- how many slots there are

pub rest_is : (width : Width) (kind : RowKind) → (slots_of width kind ≡ 16 → ⊥) → (slots_of width kind ≡ 10 → ⊥) → (slots_of width kind ≡ 32 → ⊥) → slots_of width kind ≡ 21
rest_is Long kinds.Leaf a b c = absurd (a refl)
rest_is Long kinds.Inner a b c = absurd (a refl)
rest_is Long kinds.Gapped a b c = absurd (b refl)
rest_is Short kinds.Leaf a b c = absurd (c refl)
rest_is Short kinds.Inner a b c = absurd (c refl)
rest_is Short kinds.Gapped a b c = refl

-- ---- sums

pub group_of_four : (c a b d : ℕ) → c < 16 → a ≡ 1 - (4 - c) → b ≡ 1 - (8 - c) → d ≡ 1 - (12 - c) → (4 * (a + b + d) ≤ c) × (c ≤ 4 * (a + b + d) + 3) × (4 * (a + b + d) ≤ 12)
group_of_four c a b d few is_a is_b is_d = (omega arith, omega arith, omega arith)

pub group_of_three : (c a b : ℕ) → c < 10 → a ≡ 1 - (3 - c) → b ≡ 1 - (6 - c) → (3 * (a + b) ≤ c) × (c ≤ 3 * (a + b) + 3) × (3 * (a + b) ≤ 6)
group_of_three c a b few is_a is_b = (omega arith, omega arith, omega arith)

pub group_of_eight : (c a b d : ℕ) → c < 32 → a ≡ 1 - (8 - c) → b ≡ 1 - (16 - c) → d ≡ 1 - (24 - c) → (8 * (a + b + d) ≤ c) × (c ≤ 8 * (a + b + d) + 7) × (8 * (a + b + d) ≤ 24)
group_of_eight c a b d few is_a is_b is_d = (omega arith, omega arith, omega arith)

pub half_of_eight : (c s a : ℕ) → s ≤ c → c ≤ s + 7 → a ≡ 1 - (4 + s - c) → (s + 4 * a ≤ c) × (c ≤ s + 4 * a + 3) × (a ≤ 1)
half_of_eight c s a low high is_a = (omega arith, omega arith, omega arith)

pub group_of_five : (c a b d : ℕ) → c < 21 → a ≡ 1 - (5 - c) → b ≡ 1 - (10 - c) → d ≡ 1 - (15 - c) → (5 * (a + b + d) ≤ c) × (c ≤ 5 * (a + b + d) + 5) × (5 * (a + b + d) ≤ 15)
group_of_five c a b d few is_a is_b is_d = (omega arith, omega arith, omega arith)

pub half_of_five : (c s a : ℕ) → s ≤ c → c ≤ s + 5 → a ≡ 1 - (3 + s - c) → (s + 3 * a ≤ c) × (c ≤ s + 3 * a + 2) × (a ≤ 1)
half_of_five c s a low high is_a = (omega arith, omega arith, omega arith)

pub within_four : (c s a b d : ℕ) → s ≤ c → c ≤ s + 3 → a ≡ 1 - (1 + s - c) → b ≡ 1 - (2 + s - c) → d ≡ 1 - (3 + s - c) → s + a + b + d ≡ c
within_four c s a b d low high is_a is_b is_d = omega arith

pub within_three : (c s a b : ℕ) → s ≤ c → c ≤ s + 2 → a ≡ 1 - (1 + s - c) → b ≡ 1 - (2 + s - c) → s + a + b ≡ c
within_three c s a b low high is_a is_b = omega arith

-- ---- rounds of pivots

-- What `under` says of the pivot in a column.
pub record IsPivot (t : Table) (row : Row) (index col word one : ℕ) : Type 0 where
  pub is : word ≡ column t row.number col
  pub below : 0 < word → word < index → one ≡ 1
  pub unused : word ≡ 0 → one ≡ 0
  pub past : index ≤ word → one ≡ 0

module _ (t : Table) (row : Row) (lawful : IsSought t row) (index : ℕ) (within : index ≤ row.max) where
  abbrev many : ℕ
  many = slots_of t.width row.kind

  abbrev slot : ℕ
  slot = slot_for (spans_of t row) index

  told : (col word one : ℕ) → 1 < col → col < many → IsPivot t row index col word one → one ≡ 1 - (col - slot)
  told col word one some inner p = tells t row lawful index within col word one some inner p.is p.below p.unused p.past

  -- the first pivot of the last round is compared, since its slot is used
  compared : (s word : ℕ) → s ≤ slot → s + 1 < many → word ≡ column t row.number (1 + s) → mir.Val.bool_byte (nat_lt word index) ≡ 1 - (1 + s - slot)
  compared s word low few is =
      tells_first t row lawful index within s word (mir.Val.bool_byte (nat_lt word index)) low few is
      (λ less. (let test = lt-ltb word index less in rw test refl)) (λ more. (let test = le-ltb word index more in rw test refl))

  last_four : (s x y z b d : ℕ) → s ≤ slot → slot ≤ s + 3 → 3 + s < many → x ≡ column t row.number (1 + s) → IsPivot t row index (2 + s) y b → IsPivot t row index (3 + s) z d
      → s + mir.Val.bool_byte (nat_lt x index) + b + d ≡ slot
  last_four s x y z b d low high few is_x is_y is_z =
      within_four slot s (mir.Val.bool_byte (nat_lt x index)) b d low high (compared s x low (omega arith) is_x) (told (2 + s) y b (omega arith) (omega arith) is_y) (told (3 + s) z d (omega arith) (omega arith) is_z)

  -- 16 slots: three pivots tell which four
  pub of_sixteen : many ≡ 16 → (p q r a b d : ℕ) → IsPivot t row index 4 p a → IsPivot t row index 8 q b → IsPivot t row index 12 r d → let s = 4 * (a + b + d) in
      (x y z e f : ℕ) → x ≡ column t row.number (1 + s) → IsPivot t row index (2 + s) y e → IsPivot t row index (3 + s) z f → s + mir.Val.bool_byte (nat_lt x index) + e + f ≡ slot
  of_sixteen all p q r a b d is_p is_q is_r x y z e f is_x is_y is_z =
      let fits = here_fits t row lawful index within in
      let four = group_of_four slot a b d (omega arith) (told 4 p a (omega arith) (omega arith) is_p) (told 8 q b (omega arith) (omega arith) is_q) (told 12 r d (omega arith) (omega arith) is_r) in
      let top = four.2 in
      last_four (4 * (a + b + d)) x y z e f four.0 four.1 (omega arith) is_x is_y is_z

  -- 10 slots: two pivots tell which four
  pub of_ten : many ≡ 10 → (p q a b : ℕ) → IsPivot t row index 3 p a → IsPivot t row index 6 q b → let s = 3 * (a + b) in
      (x y z e f : ℕ) → x ≡ column t row.number (1 + s) → IsPivot t row index (2 + s) y e → IsPivot t row index (3 + s) z f → s + mir.Val.bool_byte (nat_lt x index) + e + f ≡ slot
  of_ten all p q a b is_p is_q x y z e f is_x is_y is_z =
      let fits = here_fits t row lawful index within in
      let three = group_of_three slot a b (omega arith) (told 3 p a (omega arith) (omega arith) is_p) (told 6 q b (omega arith) (omega arith) is_q) in
      let top = three.2 in
      last_four (3 * (a + b)) x y z e f three.0 three.1 (omega arith) is_x is_y is_z

  -- 32 slots: three pivots tell which eight, and one which four of those
  pub of_thirty_two : many ≡ 32 → (p q r a b d : ℕ) → IsPivot t row index 8 p a → IsPivot t row index 16 q b → IsPivot t row index 24 r d → let eight = 8 * (a + b + d) in
      (w h : ℕ) → IsPivot t row index (4 + eight) w h → let s = eight + 4 * h in
      (x y z e f : ℕ) → x ≡ column t row.number (1 + s) → IsPivot t row index (2 + s) y e → IsPivot t row index (3 + s) z f → s + mir.Val.bool_byte (nat_lt x index) + e + f ≡ slot
  of_thirty_two all p q r a b d is_p is_q is_r w h is_w x y z e f is_x is_y is_z =
      let fits = here_fits t row lawful index within in
      let eight = group_of_eight slot a b d (omega arith) (told 8 p a (omega arith) (omega arith) is_p) (told 16 q b (omega arith) (omega arith) is_q) (told 24 r d (omega arith) (omega arith) is_r) in
      let top = eight.2 in
      let half = half_of_eight slot (8 * (a + b + d)) h eight.0 eight.1 (told (4 + 8 * (a + b + d)) w h (omega arith) (omega arith) is_w) in
      let one = half.2 in
      last_four (8 * (a + b + d) + 4 * h) x y z e f half.0 half.1 (omega arith) is_x is_y is_z

  -- 21 slots: three pivots tell which five or six, and one which three of those
  pub of_twenty_one : many ≡ 21 → (p q r a b d : ℕ) → IsPivot t row index 5 p a → IsPivot t row index 10 q b → IsPivot t row index 15 r d → let five = 5 * (a + b + d) in
      (w h : ℕ) → IsPivot t row index (3 + five) w h → let s = five + 3 * h in
      (x y e : ℕ) → x ≡ column t row.number (1 + s) → IsPivot t row index (2 + s) y e → s + mir.Val.bool_byte (nat_lt x index) + e ≡ slot
  of_twenty_one all p q r a b d is_p is_q is_r w h is_w x y e is_x is_y =
      let fits = here_fits t row lawful index within in
      let five = group_of_five slot a b d (omega arith) (told 5 p a (omega arith) (omega arith) is_p) (told 10 q b (omega arith) (omega arith) is_q) (told 15 r d (omega arith) (omega arith) is_r) in
      let s = 5 * (a + b + d) + 3 * h in
      let top = five.2 in
      let half = half_of_five slot (5 * (a + b + d)) h five.0 five.1 (told (3 + 5 * (a + b + d)) w h (omega arith) (omega arith) is_w) in
      let one = half.2 in
      within_three slot s (mir.Val.bool_byte (nat_lt x index)) e half.0 half.1 (compared s x half.0 (omega arith) is_x) (told (2 + s) y e (omega arith) (omega arith) is_y)
