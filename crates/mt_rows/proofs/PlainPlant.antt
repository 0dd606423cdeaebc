-- The rows that are reached: how many there are at the most, and what becomes of the fates when each is made live.
use Rattle.mt_rows.proofs.Prelude.{◌≡◌, ◌≢◌, ◌⊎◌, ℕ, zero, suc, ◌+◌, ◌-◌, ◌*◌, ◌^◌, ◌<◌, ◌≤◌, ◌==◌, List, [], ◌∷◌, Option, Some, None, Bool, true, false, length, map, take, refl, sym, ap, ◌∙◌, subst, inl, inr, arith, length-append, length-set, get_or-set_same, get_or-set_other, zero-add, slice_index, slice_index_or, slice_set, nat_le, nat_lt, if◌then◌else◌, flat_map, cases_Bool, cases_eq, cases_lt, eq-eqb, ne_eqb, lt-ltb, le-ltb, get_or_past, length-flat_map-take, pow-succ', pow-le-pow_right, one-le-pow, mul-le-mul_right, mul-add, Kind, Width, columns, deepest, first_row, slots_of-columns, some_columns, many_columns, deepest_fits, RowKind, Leaf, Inner, Gapped, items_from, items_at, pivot_column, row_in, named_kind, Span, slots_of, gaps_of, length-spans_from, Table, base_of, spans_by, spans_in, by_kind, rows_of, reached_in, one_if, tally, Sheet, life_of, LiveAreReached, is_reached, MayPlant, Planted, Life, Fate, New, Draft, Live, Buried, State, life_in, buried_in, past_of, fate_of, sheet_of, IsPlainState, life_at, Fated, enlivened}
use Rattle.mt_rows.specs.declared.rows.Life.TheVariants as lives
use Rattle.mt_rows.proofs.PlainFates.{buried-kept, either_same}
use Rattle.mt_rows.proofs.Deeper.{rows_of_inner}

-- ---- how many

items_few : (slots gaps : ℕ) (w : List ℕ) (base max left i : ℕ) → length (items_from slots gaps w base max left i) ≤ left
items_few slots gaps w base max zero i = omega arith
items_few slots gaps w base max (suc zero) i = omega arith
items_few slots gaps w base max (suc (suc left)) i = elim (cases_Bool (nat_le max (slice_index w (base + pivot_column i)))) [
  | inl ends ↦ rw ends (omega arith)
  | inr more ↦ let rest = items_few slots gaps w base max (suc left) (i + 1) in rw more (omega arith)
]

-- a row has fewer children than columns. For the proofs of the crates above, too.
pub children_few : (t : Table) (x : Span) → length (spans_in t x) ≤ columns t.width
children_few t x = by (named_kind x.word)
  where
    by : (kind : Option RowKind) → length (spans_by t kind x) ≤ columns t.width
    by None = omega arith
    by (Some kind) =
        let slots = slots_of t.width kind in let gaps = gaps_of t.width kind in let base = base_of t (row_in x.word) in
        let same = length-spans_from x.first (items_at slots gaps t.words base x.last) in
        omega (arith, same, items_few slots gaps t.words base x.last slots 0, slots_of-columns t.width kind)

-- what stands below children is no more than each has at the most. For the proofs of the crates above, too.
pub below_few : {A : Type 0} (f : Span → List A) (most : ℕ) (xs : List Span) → ((x : Span) → length (f x) ≤ most) → length (flat_map f xs) ≤ length xs * most
below_few f most [] few = omega arith
below_few f most (x ∷ xs) few = let first = few x in let rest = below_few f most xs few in let both = length-append (f x) (flat_map f xs) in omega arith

-- a row and what its children give are fewer than a child gives at the most, for each column
row_few : (width : Width) (kind : Option RowKind) (row p q : ℕ) (below : List ℕ) → 1 ≤ p → q ≡ columns width * p → length below ≤ columns width * (p - 1) → length (by_kind kind (row ∷ []) (row ∷ below)) < q
row_few width kind row p q below some more few = by kind
  where
    most : length below + 32 ≤ q
    most =
        let before : p ≡ p - 1 + 1 = omega arith in
        let one_more = ap (λ (n : ℕ). columns width * n) before ∙ mul-add (columns width) (p - 1) 1 in
        omega (arith, one_more, many_columns width)

    by : (kind : Option RowKind) → length (by_kind kind (row ∷ []) (row ∷ below)) < q
    by None = let fit = most in omega arith
    by (Some Leaf) = let fit = most in omega arith
    by (Some Inner) = let fit = most in omega arith
    by (Some Gapped) = let fit = most in omega arith

pub rows_few : (t : Table) (depth : ℕ) (x : Span) → length (rows_of t depth x) < columns t.width ^ depth
rows_few t zero x = omega (arith, one-le-pow zero (columns t.width) (some_columns t.width))
rows_few t (suc depth) x =
    let most = columns t.width ^ depth - 1 in
    let each = below_few (rows_of t depth) most (spans_in t x) (λ y. let few = rows_few t depth y in omega arith) in
    let wide = mul-le-mul_right most (children_few t x) in
    row_few t.width (named_kind x.word) (row_in x.word) (columns t.width ^ depth) (columns t.width ^ suc depth) (flat_map (rows_of t depth) (spans_in t x)) (one-le-pow depth (columns t.width) (some_columns t.width)) (pow-succ' (columns t.width) depth) (omega arith)

-- a word counts what a level has at the most. For the proofs of the crates above, too.
pub level_fits : (width : Width) (depth n : ℕ) → depth ≤ deepest → n ≤ columns width ^ depth → n < 2 ^ 64
level_fits width depth n low few =
    let most : columns width ^ depth ≤ columns width ^ deepest = pow-le-pow_right (some_columns width) low in
    omega (arith, few, most, deepest_fits width)

pub rows_fit : (t : Table) (depth : ℕ) (x : Span) → depth ≤ deepest → length (rows_of t depth x) < 2 ^ 64
rows_fit t depth x low = level_fits t.width depth (length (rows_of t depth x)) low (let few = rows_few t depth x in omega arith)

-- ---- one more child counted

module _ (t : Table) (depth : ℕ) (x : Span) (kind : RowKind) (deep : 0 < depth) (low : depth ≤ deepest) (named : named_kind x.word ≡ Some kind) (other : kind ≢ Leaf) where
  pub one_more_fits : (xs : List Span) (i count more : ℕ) (d : Span) → xs ≡ spans_in t x → i < length xs → count ≡ 1 + length (flat_map (rows_of t (depth - 1)) (take i xs))
      → more ≡ length (rows_of t (depth - 1) (slice_index_or xs i d)) → count + more < 2 ^ 64
  one_more_fits xs i count more d same within counted next =
      let all = rows_fit t depth x low in
      let parts = length-flat_map-take (rows_of t (depth - 1)) xs i d within in
      let whole : length (rows_of t depth x) ≡ suc (length (flat_map (rows_of t (depth - 1)) xs)) = ap length (rows_of_inner t depth x kind deep named other ∙ ap (λ (l : List Span). row_in x.word ∷ flat_map (rows_of t (depth - 1)) l) (sym same)) in
      omega arith

-- ---- each row made live

pub enlivened_length : (rows : List ℕ) (fates : List Fate) → length (enlivened fates rows) ≡ length fates
enlivened_length [] fates = refl
enlivened_length (r ∷ rows) fates = enlivened_length rows (slice_set fates r Live) ∙ length-set fates r Live

-- a row that is counted is live then, and each other row keeps its fate
pub enlivened_fate : (rows : List ℕ) (fates : List Fate) (row : ℕ) → row < length fates
    → slice_index_or (enlivened fates rows) row New ≡ (if nat_lt 0 (tally (λ (r : ℕ). r == row) rows) then Live else slice_index_or fates row New)
enlivened_fate [] fates row within = refl
enlivened_fate (r ∷ rows) fates row within =
    enlivened_fate rows (slice_set fates r Live) row (omega (arith, length-set fates r Live)) ∙ elim (cases_eq r row) [
      | inl here ↦
          let at : slice_index_or (slice_set fates r Live) row New ≡ Live = ap (λ (k : ℕ). slice_index_or (slice_set fates r Live) k New) (sym here) ∙ get_or-set_same fates r Live New (omega arith) in
          rw (at, eq-eqb r row here, lt-ltb 0 (1 + tally (λ (r : ℕ). r == row) rows) (omega arith)) (sym (either_same (nat_lt 0 (tally (λ (r : ℕ). r == row) rows)) Live))
      | inr other ↦
          rw (get_or-set_other fates r row Live New (λ e. other (sym e)), ne_eqb r row other, zero-add (tally (λ (r : ℕ). r == row) rows)) refl
    ]

-- no fate is new but for rows made live
pub enlivened_or_kept : (rows : List ℕ) (fates : List Fate) (row : ℕ) → (slice_index_or (enlivened fates rows) row New ≡ Live) ⊎ (slice_index_or (enlivened fates rows) row New ≡ slice_index_or fates row New)
enlivened_or_kept rows fates row = elim (cases_lt row (length fates)) [
  | inl within ↦ by (nat_lt 0 (tally (λ (r : ℕ). r == row) rows)) (enlivened_fate rows fates row within)
  | inr beyond ↦ inr (get_or_past (enlivened fates rows) row New (omega (arith, enlivened_length rows fates)) ∙ sym (get_or_past fates row New beyond))
]
  where
    by : (b : Bool) → slice_index_or (enlivened fates rows) row New ≡ (if b then Live else slice_index_or fates row New)
        → (slice_index_or (enlivened fates rows) row New ≡ Live) ⊎ (slice_index_or (enlivened fates rows) row New ≡ slice_index_or fates row New)
    by true is = inl is
    by false is = inr is

-- where no row was buried by a call to come, none is so then
pub enlivened_buried : (past : ℕ) (rows : List ℕ) (fates : List Fate) → ((row : ℕ) → buried_in past (slice_index_or fates row New) ≡ false) → map (buried_in past) (enlivened fates rows) ≡ map (buried_in past) fates
enlivened_buried past [] fates none = refl
enlivened_buried past (r ∷ rows) fates none =
    enlivened_buried past rows (slice_set fates r Live) (λ row. kept row (enlivened_or_kept (r ∷ []) fates row)) ∙ buried-kept past fates r Live (sym (none r))
  where
    kept : (row : ℕ) → (slice_index_or (enlivened fates (r ∷ [])) row New ≡ Live) ⊎ (slice_index_or (enlivened fates (r ∷ [])) row New ≡ slice_index_or fates row New) → buried_in past (slice_index_or (slice_set fates r Live) row New) ≡ false
    kept row (inl live) = ap (buried_in past) live
    kept row (inr same) = ap (buried_in past) same ∙ none row

-- ---- by the sheet

-- between calls no row is buried
pub none_buried : (p : State) → IsPlainState p → p.in_flight ≡ false → (row : ℕ) → buried_in (past_of p) (fate_of p row) ≡ false
none_buried p plain idle row = by (fate_of p row) refl
  where
    by : (f : Fate) → fate_of p row ≡ f → buried_in (past_of p) f ≡ false
    by New at = refl
    by Draft at = refl
    by Live at = refl
    by (Buried call) at =
        let low : call ≤ p.ended + 0 = subst (λ (b : Bool). call ≤ p.ended + one_if b) idle (plain.buried row call at).2 in
        le-ltb (past_of p) call (omega arith)

-- with another root word and other fates
abbrev pub planted : State → ℕ → Fated → State
planted p root f = record p { root = root; fates = f }

module _ (p : State) (f : Fated) (s : Sheet) (kind : Kind) (root : ℕ) (plain : IsPlainState p) (is : sheet_of p ≡ s) (may : MayPlant kind s root)
    (counted : f.opened ≡ length (reached_in (sheet_of p).tree.table root)) (settles : f.items ≡ enlivened p.fates.items (reached_in (sheet_of p).tree.table root)) where
  reached : List ℕ
  reached = reached_in (sheet_of p).tree.table root

  idle : p.in_flight ≡ false
  idle = ap (λ (s : Sheet). s.in_flight) is ∙ may.idle

  buried_stays : (row call : ℕ) → slice_index_or f.items row New ≡ Buried call → (first_row ≤ row) × (1 ≤ call) × (call ≤ p.ended + one_if p.in_flight)
  buried_stays row call at = by (enlivened_or_kept (reached_in (sheet_of p).tree.table root) p.fates.items row)
    where
      same : slice_index_or f.items row New ≡ slice_index_or (enlivened p.fates.items (reached_in (sheet_of p).tree.table root)) row New
      same = ap (λ (l : List Fate). slice_index_or l row New) settles

      by : (slice_index_or (enlivened p.fates.items (reached_in (sheet_of p).tree.table root)) row New ≡ Live) ⊎ (slice_index_or (enlivened p.fates.items (reached_in (sheet_of p).tree.table root)) row New ≡ fate_of p row)
          → (first_row ≤ row) × (1 ≤ call) × (call ≤ p.ended + one_if p.in_flight)
      by (inl live) = let e = same in absurd (cc)
      by (inr kept) = plain.buried row call (sym kept ∙ (sym same ∙ at))

  -- before the first call no row of an empty tree is live
  not_live : (row : ℕ) → life_in (past_of p) (fate_of p row) ≡ lives.Live → ⊥
  not_live row = by (fate_of p row) refl
    where
      by : (f : Fate) → fate_of p row ≡ f → life_in (past_of p) f ≡ lives.Live → ⊥
      by New at alive = absurd (cc)
      by Draft at alive = absurd (cc)
      by Live at alive = plain.fresh row (ap (λ (s : Sheet). s.ended) is ∙ may.first) idle (ap (λ (s : Sheet). s.tree.root) is ∙ may.empty) at
      by (Buried call) at alive =
          let known = plain.buried row call at in
          let none : p.ended ≡ 0 = ap (λ (s : Sheet). s.ended) is ∙ may.first in
          let some = known.1 in
          let low : call ≤ p.ended + 0 = subst (λ (b : Bool). call ≤ p.ended + one_if b) idle known.2 in
          absurd (omega arith)

  none_reached : root ≡ 0 → enlivened p.fates.items (reached_in (sheet_of p).tree.table root) ≡ p.fates.items
  none_reached empty = ap (λ (r : ℕ). enlivened p.fates.items (reached_in (sheet_of p).tree.table r)) empty

  pub planted_plain : IsPlainState (planted p root f)
  planted_plain = record {
    few = plain.few;
    words = plain.words;
    fates = ap length settles ∙ (enlivened_length (reached_in (sheet_of p).tree.table root) p.fates.items ∙ plain.fates);
    cleared = plain.cleared;
    room = plain.room;
    calm = plain.calm;
    buried = buried_stays;
    fresh = λ row first none empty alive. not_live row (ap (life_in (past_of p)) (sym (ap (λ (l : List Fate). slice_index_or l row New) (settles ∙ none_reached empty)) ∙ alive));
  }

  life_after : (row : ℕ) → row < first_row + p.rows → life_in (past_of p) (slice_index_or f.items row New) ≡ (if nat_lt 0 (tally (λ (r : ℕ). r == row) (reached_in (sheet_of p).tree.table root)) then lives.Live else life_in (past_of p) (fate_of p row))
  life_after row within =
      ap (λ (l : List Fate). life_in (past_of p) (slice_index_or l row New)) settles
      ∙ (ap (life_in (past_of p)) (enlivened_fate (reached_in (sheet_of p).tree.table root) p.fates.items row (let size = plain.fates in omega arith))
      ∙ by (nat_lt 0 (tally (λ (r : ℕ). r == row) (reached_in (sheet_of p).tree.table root))))
    where
      by : (b : Bool) → life_in (past_of p) (if b then Live else fate_of p row) ≡ (if b then lives.Live else life_in (past_of p) (fate_of p row))
      by true = refl
      by false = refl

  life_told : (row : ℕ) → row < first_row + p.rows → life_of (sheet_of (planted p root f)).lives row ≡ (if is_reached (sheet_of (planted p root f)).tree row then lives.Live else life_in (past_of p) (fate_of p row))
  life_told row within = life_at (past_of p) f.items row ∙ life_after row within

  live_are_reached : LiveAreReached (sheet_of (planted p root f)).tree (sheet_of (planted p root f)).lives
  live_are_reached row first within = (
    λ alive. elim (cases_Bool (is_reached (sheet_of (planted p root f)).tree row)) [
      | inl is ↦ is
      | inr not ↦ absurd (not_live row (sym (life_told row within ∙ ap (λ (b : Bool). if b then lives.Live else life_in (past_of p) (fate_of p row)) not) ∙ alive))
    ],
    λ is. life_told row within ∙ ap (λ (b : Bool). if b then lives.Live else life_in (past_of p) (fate_of p row)) is,
  )

  pub planted_is : Planted s (sheet_of (planted p root f)) root
  planted_is = subst (λ (s : Sheet). Planted s (sheet_of (planted p root f)) root) is (record {
    rest =
        let buried = ap (map (buried_in (past_of p))) settles ∙ enlivened_buried (past_of p) (reached_in (sheet_of p).tree.table root) p.fates.items (none_buried p plain idle) in
        λ i. record (sheet_of (planted p root f)) { buried = buried i; opened = counted i };
    lives = λ row first within.
        life_at (past_of p) f.items row ∙ (life_after row within
        ∙ ap (λ (l : Life). if nat_lt 0 (tally (λ (r : ℕ). r == row) (reached_in (sheet_of p).tree.table root)) then lives.Live else l) (sym (life_at (past_of p) p.fates.items row)));
    live = live_are_reached;
  })
