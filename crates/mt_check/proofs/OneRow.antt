-- What the tests of a row ask is what the laws say.
use Rattle.mt_check.proofs.Prelude.{◌≡◌, ◌≢◌, ℕ, ◌+◌, ◌<◌, ◌≤◌, ◌==◌, ◌&&◌, ◌||◌, List, [], ◌∷◌, Option, Some, Bool, true, false, not, length, refl, sym, ap, ◌∙◌, inl, inr, arith, nat_eq, nat_le, nat_lt, slice_index, AllByRecursion, flat_map, list_all, list_any, pointwise, cases_Bool, and_parts, and_from, leb-true, le-leb, lt-ltb, eqb-true, eqb-false, eq-eqb, ne_eqb, not-true, not_from_false, ext_get_or, get_or-map-range_with_len, length-map-range_with_len, slice_eq-Decides, Decides-eqb, Range, reserved, columns, RowKind, Inner, Gapped, Item, Span, row_in, named_kind, slots_of, gaps_of, gap_column, spans_from, leaf_range, Fills, BeginsFull, Apart, EndsFull, fills_le, few_items, some_items, some_slots_of, layout_of, length-row_words, Table, base_of, column, spans_by, spans_in, items_in, GapsFrom, longest_below, rise_to, words_of, are_apart, has_gaps_from, row_items, words_of_parts}

-- ---- what stands in a row of a kind

pub spans_are : (t : Table) (kind : RowKind) (x : Span) → named_kind x.word ≡ Some kind → spans_in t x ≡ spans_from x.first (items_in t kind x)
spans_are t kind x named = ap (λ (k : Option RowKind). spans_by t k x) named

pub some_in : (t : Table) (kind : RowKind) (x : Span) → 1 ≤ length (items_in t kind x)
some_in t kind x = some_items (slots_of t.width kind) (gaps_of t.width kind) t.words (base_of t (row_in x.word)) x.last (slots_of t.width kind) 0 (some_slots_of t.width kind)

pub few_of : (t : Table) (kind : RowKind) (row last : ℕ) → length (row_items t kind row last) ≤ slots_of t.width kind
few_of t kind row last = few_items (slots_of t.width kind) (gaps_of t.width kind) t.words (base_of t row) last (slots_of t.width kind) 0

-- ---- pivots

pub rising_fills : (first last : ℕ) (items : List Item) → rise_to first last items ≡ true → Fills first (last + 1) (spans_from first items)
rising_fills first last [] rise = absurd (cc)
rising_fills first last (x ∷ []) rise =
    let parts = and_parts (nat_le first x.last) (x.last == last) rise in
    (refl, leb-true first x.last parts.0, ap (λ (n : ℕ). n + 1) (eqb-true x.last last parts.1))
rising_fills first last (x ∷ y ∷ items) rise =
    let parts = and_parts (nat_le first x.last) (nat_lt x.last last && rise_to (x.last + 1) last (y ∷ items)) rise in
    let more = and_parts (nat_lt x.last last) (rise_to (x.last + 1) last (y ∷ items)) parts.1 in
    (refl, leb-true first x.last parts.0, rising_fills (x.last + 1) last (y ∷ items) more.1)

pub fills_rising : (first last : ℕ) (items : List Item) → 1 ≤ length items → Fills first (last + 1) (spans_from first items) → rise_to first last items ≡ true
fills_rising first last [] some fills = absurd (omega arith)
fills_rising first last (x ∷ []) some fills =
    let ends = fills.2 in
    and_from (nat_le first x.last) (x.last == last) (le-leb first x.last fills.1) (eq-eqb x.last last (omega arith))
fills_rising first last (x ∷ y ∷ items) some fills =
    let next = fills.2.1 in
    let behind = fills_le (y.last + 1) (last + 1) (spans_from (y.last + 1) items) fills.2.2 in
    and_from (nat_le first x.last) (nat_lt x.last last && rise_to (x.last + 1) last (y ∷ items)) (le-leb first x.last fills.1)
    (and_from (nat_lt x.last last) (rise_to (x.last + 1) last (y ∷ items)) (lt-ltb x.last last (omega arith)) (fills_rising (x.last + 1) last (y ∷ items) (omega arith) fills.2))

-- the columns are those that the items make
module _ (t : Table) (kind : RowKind) (row last : ℕ) where
  abbrev made : List ℕ
  made = words_of_parts t kind row last

  abbrev pub Unused : Type 0
  Unused = (c : ℕ) → c < columns t.width → column t row c ≡ slice_index made c

  made_length : length made ≡ columns t.width
  made_length = length-row_words (columns t.width) (slots_of t.width kind) (gaps_of t.width kind) (column t row 0) (row_items t kind row last) (layout_of t.width kind) (few_of t kind row last)

  words_length : length (words_of t row) ≡ columns t.width
  words_length = length-map-range_with_len (column t row) 0 (columns t.width)

  pub word_in : (c : ℕ) → c < columns t.width → slice_index (words_of t row) c ≡ column t row c
  word_in c within = get_or-map-range_with_len (column t row) 0 (columns t.width) c c 0 within (omega arith)

  decides : (pointwise nat_eq (words_of t row) made ≡ true → words_of t row ≡ made) × (words_of t row ≡ made → pointwise nat_eq (words_of t row) made ≡ true)
  decides = slice_eq-Decides Decides-eqb (words_of t row) made (pointwise nat_eq (words_of t row) made) refl

  pub same_unused : pointwise nat_eq (words_of t row) made ≡ true → Unused
  same_unused same = λ c within. sym (word_in c within) ∙ ap (λ (w : List ℕ). slice_index w c) (decides.0 same)

  pub unused_same : Unused → pointwise nat_eq (words_of t row) made ≡ true
  unused_same unused = decides.1 (ext_get_or 0 (words_of t row) made (words_length ∙ sym made_length) (λ c within. let inside : c < columns t.width = omega (arith, words_length) in word_in c inside ∙ unused c inside))

-- ---- entries

pub entries_all : (first : ℕ) (items : List Item) → list_all (λ (x : Item). not (reserved x.word)) items ≡ true → AllByRecursion (λ (y : Span). reserved y.word ≡ false) (spans_from first items)
entries_all first [] all = tt
entries_all first (x ∷ items) all =
    let parts = and_parts (not (reserved x.word)) (list_all (λ (x : Item). not (reserved x.word)) items) all in
    (not-true (reserved x.word) parts.0, entries_all (x.last + 1) items parts.1)

pub all_entries : (first : ℕ) (items : List Item) → AllByRecursion (λ (y : Span). reserved y.word ≡ false) (spans_from first items) → list_all (λ (x : Item). not (reserved x.word)) items ≡ true
all_entries first [] all = refl
all_entries first (x ∷ items) all =
    and_from (not (reserved x.word)) (list_all (λ (x : Item). not (reserved x.word)) items) (not_from_false (reserved x.word) all.0) (all_entries (x.last + 1) items all.1)

-- ---- holes

-- the last of the spans is an entry, or what stands before them is, where there are none
abbrev pub EndsOr : Bool → List Span → Type 0
EndsOr before [] = before ≡ false
EndsOr before (x ∷ xs) = EndsFull (x ∷ xs)

pub record Parted (before may_end : Bool) (xs : List Span) : Type 0 where
  pub begins : before ≡ true → BeginsFull xs
  pub apart : Apart xs
  pub ends : may_end ≡ false → EndsOr before xs

entry_is : (word : ℕ) → not (word == 0) ≡ true → word ≢ 0
entry_is word is = eqb-false word 0 (not-true (word == 0) is)

hole_before : (before : Bool) (word : ℕ) → not (before && (word == 0)) ≡ true → before ≡ true → word ≢ 0
hole_before true word is hole = entry_is word is
hole_before false word is hole = absurd (cc)

before_hole : (before : Bool) (word : ℕ) → (before ≡ true → word ≢ 0) → not (before && (word == 0)) ≡ true
before_hole true word full = not_from_false (word == 0) (ne_eqb word 0 (full refl))
before_hole false word full = refl

none_left : (before may_end : Bool) → (may_end || not before) ≡ true → may_end ≡ false → before ≡ false
none_left before true all ends = absurd (cc)
none_left before false all ends = not-true before all

left_none : (before may_end : Bool) → (may_end ≡ false → before ≡ false) → (may_end || not before) ≡ true
left_none before true none = refl
left_none before false none = not_from_false before (none refl)

ends_cons : (x : Span) (xs : List Span) → EndsOr (x.word == 0) xs → EndsFull (x ∷ xs)
ends_cons x [] ends = eqb-false x.word 0 ends
ends_cons x (y ∷ ys) ends = ends

cons_ends : (x : Span) (xs : List Span) → EndsFull (x ∷ xs) → EndsOr (x.word == 0) xs
cons_ends x [] ends = ne_eqb x.word 0 ends
cons_ends x (y ∷ ys) ends = ends

pub apart_parted : (before may_end : Bool) (first : ℕ) (items : List Item) → are_apart before may_end items ≡ true → Parted before may_end (spans_from first items)
apart_parted before may_end first [] apart = record { begins = λ _. tt; apart = tt; ends = none_left before may_end apart }
apart_parted before may_end first (x ∷ items) apart =
    let parts = and_parts (not (before && (x.word == 0))) (are_apart (x.word == 0) may_end items) apart in
    let behind = apart_parted (x.word == 0) may_end (x.last + 1) items parts.1 in
    record {
      begins = hole_before before x.word parts.0;
      apart = ((λ hole. behind.begins (eq-eqb x.word 0 hole)), behind.apart);
      ends = λ full. ends_cons (record { first = first; last = x.last; word = x.word }) (spans_from (x.last + 1) items) (behind.ends full);
    }

pub parted_apart : (before may_end : Bool) (first : ℕ) (items : List Item) → Parted before may_end (spans_from first items) → are_apart before may_end items ≡ true
parted_apart before may_end first [] parted = left_none before may_end parted.ends
parted_apart before may_end first (x ∷ items) parted =
    and_from (not (before && (x.word == 0))) (are_apart (x.word == 0) may_end items) (before_hole before x.word parted.begins)
    (parted_apart (x.word == 0) may_end (x.last + 1) items (record {
      begins = λ hole. parted.apart.0 (eqb-true x.word 0 hole);
      apart = parted.apart.1;
      ends = λ full. cons_ends (record { first = first; last = x.last; word = x.word }) (spans_from (x.last + 1) items) (parted.ends full);
    }))

pub any_ranges : (first : ℕ) (items : List Item) → list_any (λ (x : Item). not (x.word == 0)) items ≡ true → flat_map leaf_range (spans_from first items) ≢ []
any_ranges first [] any none = cc
any_ranges first (x ∷ items) any none = elim (cases_Bool (x.word == 0)) [
  | inl hole ↦ any_ranges (x.last + 1) items (rw hole at any) (rw hole at none)
  | inr entry ↦ filled (flat_map leaf_range (spans_from (x.last + 1) items)) (rw entry at none)
]
  where
    filled : (rs : List Range) → record { first = first; last = x.last; entry = x.word } ∷ rs ≡ [] → ⊥
    filled rs is = cc

pub ranges_any : (first : ℕ) (items : List Item) → flat_map leaf_range (spans_from first items) ≢ [] → list_any (λ (x : Item). not (x.word == 0)) items ≡ true
ranges_any first [] some = absurd (some refl)
ranges_any first (x ∷ items) some = elim (cases_Bool (x.word == 0)) [
  | inl hole ↦ rw hole (ranges_any (x.last + 1) items (λ none. some (rw hole none)))
  | inr entry ↦ rw entry refl
]

-- ---- gaps

module _ (longest : Span → ℕ) (t : Table) (row : ℕ) where
  -- the longest holes below the spans are those of their height
  abbrev AreLongest : ℕ → List Span → Type 0
  AreLongest h xs = AllByRecursion (λ (x : Span). longest x ≡ longest_below t h (x ∷ [])) xs

  abbrev gap_word : ℕ → ℕ
  gap_word slot = column t row (gap_column (slots_of t.width Gapped) slot)

  pub gaps_told : (h slot : ℕ) (xs : List Span) → AreLongest h xs → has_gaps_from longest t Gapped row slot xs ≡ true → GapsFrom t h row slot xs
  gaps_told h slot [] same told = tt
  gaps_told h slot (x ∷ xs) same told =
      let parts = and_parts (gap_word slot == longest x) (has_gaps_from longest t Gapped row (slot + 1) xs) told in
      (eqb-true (gap_word slot) (longest x) parts.0 ∙ same.0, gaps_told h (slot + 1) xs same.1 parts.1)

  pub told_gaps : (h slot : ℕ) (xs : List Span) → AreLongest h xs → GapsFrom t h row slot xs → has_gaps_from longest t Gapped row slot xs ≡ true
  told_gaps h slot [] same gaps = refl
  told_gaps h slot (x ∷ xs) same gaps =
      and_from (gap_word slot == longest x) (has_gaps_from longest t Gapped row (slot + 1) xs) (eq-eqb (gap_word slot) (longest x) (gaps.0 ∙ sym same.0)) (told_gaps h (slot + 1) xs same.1 gaps.1)

  pub none_told : (slot : ℕ) (xs : List Span) → has_gaps_from longest t Inner row slot xs ≡ true
  none_told slot [] = refl
  none_told slot (x ∷ xs) = none_told (slot + 1) xs
