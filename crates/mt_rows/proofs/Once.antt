-- No row is reached twice, since each row's first pivot lies inside the row's own range.
use Rattle.mt_rows.proofs.Prelude.{◌≡◌, ◌≢◌, ◌⊎◌, ℕ, zero, suc, ◌+◌, ◌-◌, ◌<◌, ◌≤◌, ◌==◌, List, [], ◌∷◌, Option, Some, None, Bool, false, length, nat_le, refl, ap, subst, inl, inr, ⊎_elim, arith, if◌then◌else◌, slice_index, AllByRecursion, cases_Bool, eqb-true, leb-false, Width, deepest, all_map, all_front, all_back, all_join, RowKind, row_in, named_kind, items_from, items_at, least-below-slots, some_least, Span, spans_from, Fills, slots_of, gaps_of, least_items, fills_le, Table, base_of, column, spans_by, spans_in, root_span, expand, Levels, one_if, tally, times, is_row_of, reached_in, Tree, IsRow, Stands, top_of, kind_on, covers_all, least_of_root}
use Rattle.mt_rows.proofs.Lists.{Filled, expand_fills, levels_map, levels_here}
use Rattle.mt_rows.proofs.Depth.{rows_by_depth}

-- ---- rows of two items or more

-- the row does not cover every index
abbrev pub IsPart : Tree → Span → Type 0
IsPart t x = covers_all t x ≡ false

pub record Wide (t : Table) (x : Span) : Type 0 where
  pub fills : Filled t x
  pub two : 2 ≤ length (spans_in t x)

part_wide : (t : Tree) (h : ℕ) (x : Span) → IsPart t x → IsRow t h x → Wide t.table x
part_wide t h x part row = record {
  fills = row.pivots.fills;
  two =
      let least : least_items t.table.width (kind_on t.gapped h) ≤ length (spans_in t.table x) = subst (λ (b : Bool). (if b then least_of_root h else least_items t.table.width (kind_on t.gapped h)) ≤ length (spans_in t.table x)) part row.count.least in
      omega (arith, least, some_least t.table.width (kind_on t.gapped h));
}

pub inner_wide : (t : Tree) (h : ℕ) (x : Span) → IsRow t (suc h) x → Wide t.table x
inner_wide t h x row = record {
  fills = row.pivots.fills;
  two = elim (cases_Bool (covers_all t x)) [
    | inl all ↦ subst (λ (b : Bool). (if b then 2 else least_items t.table.width (kind_on t.gapped (suc h))) ≤ length (spans_in t.table x)) all row.count.least
    | inr part ↦ (part_wide t (suc h) x part row).two
  ];
}

-- spans that begin above 0 do not cover every index
late_parts : (t : Tree) (lo hi : ℕ) (xs : List Span) → 0 < lo → Fills lo hi xs → AllByRecursion (IsPart t) xs
late_parts t lo hi [] late fills = tt
late_parts t lo hi (x ∷ xs) late fills = (first (let begins = fills.0 in omega arith), late_parts t (x.last + 1) hi xs (omega arith) fills.2)
  where
    first : 0 < x.first → IsPart t x
    first above = elim (cases_Bool (x.first == 0)) [ inl at ↦ let e = eqb-true x.first 0 at in absurd (omega arith) | inr off ↦ rw off refl ]

-- nor does one of two spans or more
split_parts : (t : Tree) (lo last : ℕ) (xs : List Span) → last ≤ top_of t → Fills lo (last + 1) xs → 2 ≤ length xs → AllByRecursion (IsPart t) xs
split_parts t lo last [] within fills two = tt
split_parts t lo last (x ∷ []) within fills two = absurd (omega arith)
split_parts t lo last (x ∷ y ∷ ys) within fills two =
    let behind = fills_le (y.last + 1) (last + 1) ys fills.2.2 in
    let second = fills.2.1 in
    (first (omega arith), late_parts t (x.last + 1) (last + 1) (y ∷ ys) (omega arith) fills.2)
  where
    first : x.last < top_of t → IsPart t x
    first below = elim (cases_Bool (x.first == 0)) [
      | inl at ↦ elim (cases_Bool (x.last == top_of t)) [ inl all ↦ let e = eqb-true x.last (top_of t) all in absurd (omega arith) | inr short ↦ rw (at, short) refl ]
      | inr off ↦ rw off refl
    ]

pub expand_parts : (t : Tree) (lo hi : ℕ) (xs : List Span) → hi ≤ top_of t + 1 → AllByRecursion (Wide t.table) xs → Fills lo hi xs → AllByRecursion (IsPart t) (expand t.table xs)
expand_parts t lo hi [] within wide fills = tt
expand_parts t lo hi (x ∷ xs) within wide fills =
    let behind = fills_le (x.last + 1) hi xs fills.2 in
    all_join (IsPart t) (spans_in t.table x) (expand t.table xs) (split_parts t x.first x.last (spans_in t.table x) (omega arith) wide.0.fills wide.0.two) (expand_parts t (x.last + 1) hi xs within wide.1 fills.2)

pub rows_wide : (t : Tree) (h : ℕ) (xs : List Span) → AllByRecursion (IsPart t) xs → AllByRecursion (IsRow t h) xs → AllByRecursion (Wide t.table) xs
rows_wide t h [] parts rows = tt
rows_wide t h (x ∷ xs) parts rows = (part_wide t h x parts.0 rows.0, rows_wide t h xs parts.1 rows.1)

pub wide_fills : (t : Table) (lo hi : ℕ) (xs : List Span) → AllByRecursion (Wide t) xs → Fills lo hi xs → Fills lo hi (expand t xs)
wide_fills t lo hi xs wide fills = expand_fills t lo hi xs (all_map (Wide t) (Filled t) (λ x w. w.fills) xs wide) fills

abbrev AllWide : Table → ℕ → List Span → Type 0
AllWide t h xs = Levels (λ (_ : ℕ) (x : Span). Wide t x) t h xs

levels_wide : (t : Tree) (h lo hi : ℕ) (xs : List Span) → hi ≤ top_of t + 1 → AllByRecursion (Wide t.table) xs → Levels (IsRow t) t.table h xs → Fills lo hi xs → AllWide t.table h xs
levels_wide t zero lo hi xs within wide rows fills = wide
levels_wide t (suc h) lo hi xs within wide rows fills =
    let below = rows_wide t h (expand t.table xs) (expand_parts t lo hi xs within wide fills) (levels_here (IsRow t) t.table h (expand t.table xs) rows.1) in
    (wide, levels_wide t h lo hi (expand t.table xs) within below rows.1 (wide_fills t.table lo hi xs wide fills))

-- ---- first pivots

abbrev first_pivot : Table → ℕ → ℕ
first_pivot t row = column t row 1

abbrev pivot_of : Table → Span → ℕ
pivot_of t x = first_pivot t (row_in x.word)

abbrev FirstEnds : ℕ → List Span → Type 0
FirstEnds k [] = ⊥
FirstEnds k (x ∷ xs) = x.last ≡ k

abbrev NoneEnds : ℕ → List Span → Type 0
NoneEnds k xs = AllByRecursion (λ (x : Span). x.last ≢ k) xs

not_both : (k : ℕ) (xs : List Span) → FirstEnds k xs → NoneEnds k xs → ⊥
not_both k [] first none = first
not_both k (x ∷ xs) first none = none.0 first

ends_above : (k lo hi : ℕ) (xs : List Span) → FirstEnds k xs → Fills lo hi xs → lo ≤ k
ends_above k lo hi [] first fills = absurd first
ends_above k lo hi (x ∷ xs) first fills = let begins = fills.1 in omega (arith, first)

abbrev Splits : ℕ → ℕ → List Span → Type 0
Splits pivot last xs = (pivot < last) × FirstEnds pivot xs

-- of two items or more, the first ends at the first pivot
first_item : (slots gaps left : ℕ) (w : List ℕ) (base first last : ℕ) → 2 ≤ length (spans_from first (items_from slots gaps w base last (suc (suc left)) 0))
    → Splits (slice_index w (base + 1)) last (spans_from first (items_from slots gaps w base last (suc (suc left)) 0))
first_item slots gaps left w base first last two = elim (cases_Bool (nat_le last (slice_index w (base + 1)))) [
  | inl ends ↦ let one : 2 ≤ 1 = rw ends at two in absurd (omega arith)
  | inr more ↦ (leb-false last (slice_index w (base + 1)) more, rw more refl)
]

first_of_row : (width : Width) (kind : RowKind) (w : List ℕ) (base first last : ℕ) → 2 ≤ length (spans_from first (items_at (slots_of width kind) (gaps_of width kind) w base last))
    → Splits (slice_index w (base + 1)) last (spans_from first (items_at (slots_of width kind) (gaps_of width kind) w base last))
first_of_row width kind w base first last two =
    let slots = slots_of width kind in
    let gaps = gaps_of width kind in
    let some = some_least width kind in
    let enough = least-below-slots width kind in
    let is : suc (suc (slots - 2)) ≡ slots = omega arith in
    subst (λ (n : ℕ). 2 ≤ length (spans_from first (items_from slots gaps w base last n 0)) → Splits (slice_index w (base + 1)) last (spans_from first (items_from slots gaps w base last n 0)))
    is (first_item slots gaps (slots - 2) w base first last) two

first_by : (t : Table) (x : Span) (kind : Option RowKind) → 2 ≤ length (spans_by t kind x) → Splits (pivot_of t x) x.last (spans_by t kind x)
first_by t x None two = absurd (omega arith)
first_by t x (Some kind) two = first_of_row t.width kind t.words (base_of t (row_in x.word)) x.first x.last two

record Split (t : Table) (x : Span) : Type 0 where
  low : x.first ≤ pivot_of t x
  high : pivot_of t x < x.last
  ends : FirstEnds (pivot_of t x) (spans_in t x)

wide_split : (t : Table) (x : Span) → Wide t x → Split t x
wide_split t x wide =
    let first = first_by t x (named_kind x.word) wide.two in
    record { low = ends_above (pivot_of t x) x.first (x.last + 1) (spans_in t x) first.1 wide.fills; high = first.0; ends = first.1 }

-- ---- no row's range ends at the first pivot of a row beside it or below it

pivots_from : (t : Table) (lo hi : ℕ) (xs : List Span) → AllByRecursion (Wide t) xs → Fills lo hi xs → AllByRecursion (λ (y : Span). lo ≤ pivot_of t y) xs
pivots_from t lo hi [] wide fills = tt
pivots_from t lo hi (x ∷ xs) wide fills =
    let split = wide_split t x wide.0 in let low = split.low in let begins = fills.0 in let ends = fills.1 in
    (omega arith, all_map (λ (y : Span). x.last + 1 ≤ pivot_of t y) (λ (y : Span). lo ≤ pivot_of t y) (λ y above. omega arith) xs (pivots_from t (x.last + 1) hi xs wide.1 fills.2))

ends_from : (lo hi k : ℕ) (xs : List Span) → k < lo → Fills lo hi xs → NoneEnds k xs
ends_from lo hi k [] below fills = tt
ends_from lo hi k (x ∷ xs) below fills = let ends = fills.1 in ((λ e. omega arith), ends_from (x.last + 1) hi k xs (omega arith) fills.2)

none_ends_beside : (t : Table) (lo hi : ℕ) (xs : List Span) → AllByRecursion (Wide t) xs → Fills lo hi xs → AllByRecursion (λ (y : Span). NoneEnds (pivot_of t y) xs) xs
none_ends_beside t lo hi [] wide fills = tt
none_ends_beside t lo hi (x ∷ xs) wide fills =
    let split = wide_split t x wide.0 in let high = split.high in (
      ((λ e. omega arith), ends_from (x.last + 1) hi (pivot_of t x) xs (omega arith) fills.2),
      both xs (pivots_from t (x.last + 1) hi xs wide.1 fills.2) (none_ends_beside t (x.last + 1) hi xs wide.1 fills.2),
    )
  where
    both : (ys : List Span) → AllByRecursion (λ (y : Span). x.last + 1 ≤ pivot_of t y) ys → AllByRecursion (λ (y : Span). NoneEnds (pivot_of t y) xs) ys → AllByRecursion (λ (y : Span). NoneEnds (pivot_of t y) (x ∷ xs)) ys
    both [] above none = tt
    both (y ∷ ys) above none = (((λ e. let here = above.0 in omega arith), none.0), both ys above.1 none.1)

last_end : (lo last k : ℕ) (xs : List Span) → Fills lo (last + 1) xs → 1 ≤ length xs → NoneEnds k xs → last ≢ k
last_end lo last k [] fills some none = absurd (omega arith)
last_end lo last k (x ∷ []) fills some none = λ e. none.0 (let end = fills.2 in omega arith)
last_end lo last k (x ∷ y ∷ ys) fills some none = last_end (x.last + 1) last k (y ∷ ys) fills.2 (omega arith) none.1

none_ends_above : (t : Table) (k : ℕ) (xs : List Span) → AllByRecursion (Wide t) xs → NoneEnds k (expand t xs) → NoneEnds k xs
none_ends_above t k [] wide none = tt
none_ends_above t k (x ∷ xs) wide none = (
  last_end x.first x.last k (spans_in t x) wide.0.fills (let two = wide.0.two in omega arith) (all_front (λ (z : Span). z.last ≢ k) (spans_in t x) (expand t xs) none),
  none_ends_above t k xs wide.1 (all_back (λ (z : Span). z.last ≢ k) (spans_in t x) (expand t xs) none),
)

none_ends_below : (t : Table) (h lo hi : ℕ) (xs : List Span) → AllWide t h xs → Fills lo hi xs → Levels (λ (_ : ℕ) (y : Span). NoneEnds (pivot_of t y) xs) t h xs
none_ends_below t zero lo hi xs wide fills = none_ends_beside t lo hi xs wide fills
none_ends_below t (suc h) lo hi xs wide fills = (
  none_ends_beside t lo hi xs wide.0 fills,
  levels_map (λ (_ : ℕ) (y : Span). NoneEnds (pivot_of t y) (expand t xs)) (λ (_ : ℕ) (y : Span). NoneEnds (pivot_of t y) xs) t
      (λ _ y none. none_ends_above t (pivot_of t y) xs wide.0 none) h (expand t xs) (none_ends_below t h lo hi (expand t xs) wide.1 (wide_fills t lo hi xs wide.0 fills)),
)

-- ---- counting

tally_none : (p : Span → Bool) (xs : List Span) → AllByRecursion (λ (x : Span). p x ≡ false) xs → tally p xs ≡ 0
tally_none p [] none = refl
tally_none p (x ∷ xs) none = let behind = tally_none p xs none.1 in rw none.0 (omega arith)

pub times_none : (p : ℕ → Span → Bool) (t : Table) (h : ℕ) (xs : List Span) → Levels (λ (h : ℕ) (x : Span). p h x ≡ false) t h xs → times p t h xs ≡ 0
times_none p t zero xs none = tally_none (p zero) xs none
times_none p t (suc h) xs none = let here = tally_none (p (suc h)) xs none.0 in let below = times_none p t h (expand t xs) none.1 in omega arith

not_row : (t : Table) (row : ℕ) (y : Span) → pivot_of t y ≢ first_pivot t row → (row_in y.word == row) ≡ false
not_row t row y other = elim (cases_Bool (row_in y.word == row)) [ inl is ↦ absurd (other (ap (first_pivot t) (eqb-true (row_in y.word) row is))) | inr not ↦ not ]

once_beside : (t : Table) (row lo hi : ℕ) (xs : List Span) → AllByRecursion (Wide t) xs → Fills lo hi xs → tally (is_row_of row 0) xs ≤ 1
once_beside t row lo hi [] wide fills = omega arith
once_beside t row lo hi (x ∷ xs) wide fills = elim (cases_Bool (row_in x.word == row)) [
  | inl is ↦
      let same : pivot_of t x ≡ first_pivot t row = ap (first_pivot t) (eqb-true (row_in x.word) row is) in
      let split = wide_split t x wide.0 in let high = split.high in
      let behind = tally_none (is_row_of row 0) xs (all_map (λ (y : Span). x.last + 1 ≤ pivot_of t y) (λ (y : Span). (row_in y.word == row) ≡ false) (λ y above. not_row t row y (λ e. omega arith)) xs (pivots_from t (x.last + 1) hi xs wide.1 fills.2)) in
      rw is (omega arith)
  | inr not ↦ let behind = once_beside t row (x.last + 1) hi xs wide.1 fills.2 in rw not (omega arith)
]

-- the row is not here, or an item here ends at its first pivot
here_or_not : (t : Table) (row : ℕ) (xs : List Span) → AllByRecursion (Wide t) xs → (tally (is_row_of row 0) xs ≡ 0) ⊎ (NoneEnds (first_pivot t row) (expand t xs) → ⊥)
here_or_not t row [] wide = inl refl
here_or_not t row (x ∷ xs) wide = elim (cases_Bool (row_in x.word == row)) [
  | inl is ↦ inr (λ none.
      let ends = subst (λ (k : ℕ). FirstEnds k (spans_in t x)) (ap (first_pivot t) (eqb-true (row_in x.word) row is)) (wide_split t x wide.0).ends in
      not_both (first_pivot t row) (spans_in t x) ends (all_front (λ (z : Span). z.last ≢ first_pivot t row) (spans_in t x) (expand t xs) none))
  | inr not ↦ rw not (⊎_elim (λ (none : tally (is_row_of row 0) xs ≡ 0). inl (omega arith))
      (λ (here : NoneEnds (first_pivot t row) (expand t xs) → ⊥). inr (λ none. here (all_back (λ (z : Span). z.last ≢ first_pivot t row) (spans_in t x) (expand t xs) none))) (here_or_not t row xs wide.1))
]

wide_once : (t : Table) (row h lo hi : ℕ) (xs : List Span) → AllWide t h xs → Fills lo hi xs → times (is_row_of row) t h xs ≤ 1
wide_once t row zero lo hi xs wide fills = once_beside t row lo hi xs wide fills
wide_once t row (suc h) lo hi xs wide fills =
    let fills_below = wide_fills t lo hi xs wide.0 fills in
    let below = wide_once t row h lo hi (expand t xs) wide.1 fills_below in
    let here = once_beside t row lo hi xs wide.0 fills in
    ⊎_elim (λ (none : tally (is_row_of row 0) xs ≡ 0). omega arith)
    (λ (ends : NoneEnds (first_pivot t row) (expand t xs) → ⊥).
    let none = times_none (is_row_of row) t h (expand t xs)
    (levels_map (λ (_ : ℕ) (y : Span). NoneEnds (pivot_of t y) (expand t xs)) (λ (h : ℕ) (y : Span). is_row_of row h y ≡ false) t
    (λ _ y none. not_row t row y (λ e. ends (subst (λ (k : ℕ). NoneEnds k (expand t xs)) e none))) h (expand t xs) (none_ends_below t h lo hi (expand t xs) wide.1 fills_below)) in
    omega arith) (here_or_not t row xs wide.0)

pub once : (t : Tree) (h row : ℕ) (root : Span) → Levels (IsRow t) t.table h (root ∷ []) → Fills 0 (top_of t + 1) (root ∷ []) → times (is_row_of row) t.table h (root ∷ []) ≤ 1
once t zero row root rows fills = elim (cases_Bool (row_in root.word == row)) [ inl is ↦ rw is (omega arith) | inr not ↦ rw not (omega arith) ]
once t (suc h) row root rows fills =
    wide_once t.table row (suc h) 0 (top_of t + 1) (root ∷ []) (levels_wide t (suc h) 0 (top_of t + 1) (root ∷ []) (omega arith) (inner_wide t h root rows.0.0, tt) rows fills) fills

-- ---- of the rows that are reached from the root

pub once_in : (t : Tree) (h row : ℕ) → Stands t h → tally (λ (r : ℕ). r == row) (reached_in t.table t.root) ≤ 1
once_in t h row stands =
    let same = rows_by_depth t deepest h row (root_span t.table t.root) stands.low stands.rows in
    let one = once t h row (root_span t.table t.root) stands.rows (refl, omega arith, refl) in
    omega (arith, same, one)

-- ---- what is not counted is nowhere

pub tally_nowhere : (p : Span → Bool) (xs : List Span) → tally p xs ≡ 0 → AllByRecursion (λ (x : Span). p x ≡ false) xs
tally_nowhere p [] none = tt
tally_nowhere p (x ∷ xs) none = elim (cases_Bool (p x)) [
  | inl passes ↦ let some : 1 + tally p xs ≡ 0 = subst (λ (b : Bool). one_if b + tally p xs ≡ 0) passes none in absurd (omega arith)
  | inr fails ↦ (fails, tally_nowhere p xs (let behind : 0 + tally p xs ≡ 0 = subst (λ (b : Bool). one_if b + tally p xs ≡ 0) fails none in omega arith))
]

pub times_nowhere : (p : ℕ → Span → Bool) (t : Table) (h : ℕ) (xs : List Span) → times p t h xs ≡ 0 → Levels (λ (h : ℕ) (x : Span). p h x ≡ false) t h xs
times_nowhere p t zero xs none = tally_nowhere (p zero) xs none
times_nowhere p t (suc h) xs none = (tally_nowhere (p (suc h)) xs (omega arith), times_nowhere p t h (expand t xs) (omega arith))
