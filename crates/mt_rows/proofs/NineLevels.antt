-- A tree of as many rows as can be named has nine levels at the most: each level below the first two has as many times the
-- rows of the one above it as an inner row has items at the least, or more, and no row is reached twice. So a way from the
-- root passes few slots.
use Rattle.mt_rows.proofs.Prelude.{◌≡◌, ℕ, zero, suc, ◌+◌, ◌-◌, ◌*◌, ◌^◌, ◌<◌, ◌≤◌, ◌==◌, List, [], ◌∷◌, Bool, length, nat_lt, refl, subst, inl, inr, ⊎_elim, arith, length-append, mul-le-mul_left, if◌then◌else◌, true, false, AllByRecursion, cases_Bool, cases_lt, lt-ltb, ltb-true, ltb-false, le-ltb, eqb-false, Width, Long, Short, deepest, most_rows, first_row, all_map, row_in, Names-named_kind, least_four, Span, Fills, least_items, slots_of, spans_in, root_span, inner_of, expand, level, Levels, tally, is_row_of, Tree, IsRow, top_of, kind_on, least_of_root, root_of}
use Rattle.mt_rows.proofs.Heights.{times_split, level_rows}
use Rattle.mt_rows.proofs.Once.{IsPart, inner_wide, expand_parts, rows_wide, wide_fills, once}
use Rattle.mt_rows.proofs.Reached.{here_le}

-- ---- how many rows a level has at the least

part_least : (t : Tree) (h : ℕ) (x : Span) → IsPart t x → IsRow t h x → least_items t.table.width (kind_on t.gapped h) ≤ length (spans_in t.table x)
part_least t h x part row = subst (λ (b : Bool). (if b then least_of_root h else least_items t.table.width (kind_on t.gapped h)) ≤ length (spans_in t.table x)) part row.count.least

expand_least : (t : Tree) (f h : ℕ) (xs : List Span) → f ≤ least_items t.table.width (kind_on t.gapped h) → AllByRecursion (IsPart t) xs → AllByRecursion (IsRow t h) xs → f * length xs ≤ length (expand t.table xs)
expand_least t f h [] low parts rows = omega arith
expand_least t f h (x ∷ xs) low parts rows =
    omega (arith, low, length-append (spans_in t.table x) (expand t.table xs), part_least t h x parts.0 rows.0, expand_least t f h xs low parts.1 rows.1)

pub expand_four : (t : Tree) (h : ℕ) (xs : List Span) → AllByRecursion (IsPart t) xs → AllByRecursion (IsRow t h) xs → 4 * length xs ≤ length (expand t.table xs)
expand_four t h xs = expand_least t 4 h xs (least_four t.table.width (kind_on t.gapped h))

-- n, multiplied by f so many times
abbrev pub grown : ℕ → ℕ → ℕ → ℕ
grown f zero n = n
grown f (suc d) n = grown f d (f * n)

parts_grow : (t : Tree) (f d k h n lo hi : ℕ) (xs : List Span) → f ≤ least_items t.table.width (inner_of t.gapped) → h ≡ d + k → hi ≤ top_of t + 1 → n ≤ length xs → AllByRecursion (IsPart t) xs → Levels (IsRow t) t.table h xs → Fills lo hi xs
    → grown f d n ≤ length (level t.table d xs)
parts_grow t f zero k h n lo hi xs low height within some parts rows fills = some
parts_grow t f (suc d) k zero n lo hi xs low height within some parts rows fills = absurd (omega arith)
parts_grow t f (suc d) k (suc h) n lo hi xs low height within some parts rows fills =
    let wide = rows_wide t (suc h) xs parts rows.0 in
    let more = expand_least t f (suc h) xs low parts rows.0 in
    let many = mul-le-mul_left f some in
    parts_grow t f d k h (f * n) lo hi (expand t.table xs) low (omega arith) within (omega (arith, more, many)) (expand_parts t lo hi xs within wide fills) rows.1 (wide_fills t.table lo hi xs wide fills)

long_level : (t : Tree) (f d k h : ℕ) → f ≤ least_items t.table.width (inner_of t.gapped) → h ≡ suc d + k → Levels (IsRow t) t.table h (root_of t) → grown f d 2 ≤ length (level t.table (suc d) (root_of t))
long_level t f d k zero low height rows = absurd (omega arith)
long_level t f d k (suc h) low height rows =
    let root = root_span t.table t.root in
    let wide = inner_wide t h root rows.0.0 in
    let fills : Fills 0 (top_of t + 1) (root_of t) = (refl, omega arith, refl) in
    parts_grow t f d k h 2 0 (top_of t + 1) (expand t.table (root_of t)) low (omega arith) (omega arith) (omega (arith, length-append (spans_in t.table root) [], wide.two))
    (expand_parts t 0 (top_of t + 1) (root_of t) (omega arith) (wide, tt) fills) rows.1 (wide_fills t.table 0 (top_of t + 1) (root_of t) (wide, tt) fills)

-- ---- how many rows a level has at the most

module _ {A : Type 0} (f : A → ℕ) where
  none_below : (n : ℕ) (xs : List A) → AllByRecursion (λ (x : A). n ≤ f x) xs → tally (λ (x : A). nat_lt (f x) n) xs ≡ 0
  none_below n [] above = refl
  none_below n (x ∷ xs) above = let behind = none_below n xs above.1 in rw (le-ltb (f x) n above.0) (omega (arith, behind))

  one_more : (n : ℕ) (xs : List A) → tally (λ (x : A). nat_lt (f x) (n + 1)) xs ≤ tally (λ (x : A). nat_lt (f x) n) xs + tally (λ (x : A). f x == n) xs
  one_more n [] = omega arith
  one_more n (x ∷ xs) =
      let behind = one_more n xs in
      elim (cases_Bool (nat_lt (f x) (n + 1))) [
        | inl low ↦ elim (cases_Bool (nat_lt (f x) n)) [
          | inl below ↦ rw (low, below) (omega (arith, behind))
          | inr not ↦ elim (cases_Bool (f x == n)) [
            | inl at ↦ rw (low, not, at) (omega (arith, behind))
            | inr off ↦ let above = ltb-true (f x) (n + 1) low in let reach = ltb-false (f x) n not in let other = eqb-false (f x) n off in absurd (other (omega (arith, above, reach)))
          ]
        ]
        | inr high ↦ rw high (omega (arith, behind))
      ]

  few_below : (n m k : ℕ) (xs : List A) → k ≡ n + m → AllByRecursion (λ (x : A). n ≤ f x) xs → ((r : ℕ) → tally (λ (x : A). f x == r) xs ≤ 1) → tally (λ (x : A). nat_lt (f x) k) xs ≤ m
  few_below n zero k xs sum above once =
      let same : n ≡ k = omega arith in
      let none = subst (λ (j : ℕ). tally (λ (x : A). nat_lt (f x) j) xs ≡ 0) same (none_below n xs above) in
      omega (arith, none)
  few_below n (suc m) k xs sum above once =
      let same : (n + m) + 1 ≡ k = omega arith in
      let more = subst (λ (j : ℕ). tally (λ (x : A). nat_lt (f x) j) xs ≤ tally (λ (x : A). nat_lt (f x) (n + m)) xs + tally (λ (x : A). f x == (n + m)) xs) same (one_more (n + m) xs) in
      omega (arith, more, few_below n m (n + m) xs refl above once, once (n + m))

  all_below : (k : ℕ) (xs : List A) → AllByRecursion (λ (x : A). f x < k) xs → length xs ≤ tally (λ (x : A). nat_lt (f x) k) xs
  all_below k [] below = omega arith
  all_below k (x ∷ xs) below = let behind = all_below k xs below.1 in rw (lt-ltb (f x) k below.0) (omega (arith, behind))

  -- of a list whose values are m numbers from n on, each once at the most
  pub few : (n m : ℕ) (xs : List A) → AllByRecursion (λ (x : A). n ≤ f x) xs → AllByRecursion (λ (x : A). f x < n + m) xs → ((r : ℕ) → tally (λ (x : A). f x == r) xs ≤ 1) → length xs ≤ m
  few n m xs above below once = omega (arith, all_below (n + m) xs below, few_below n m (n + m) xs refl above once)

once_in_level : (t : Tree) (d k h row : ℕ) → h ≡ d + k → Levels (IsRow t) t.table h (root_of t) → tally (is_row_of row k) (level t.table d (root_of t)) ≤ 1
once_in_level t d k h row height rows =
    let all = once t h row (root_span t.table t.root) rows (refl, omega arith, refl) in
    let split = times_split (is_row_of row) t.table d k h (root_of t) height in
    omega (arith, all, split, here_le (is_row_of row) t.table k (level t.table d (root_of t)))

pub level_fits : (t : Tree) (d k h : ℕ) → h ≡ d + k → Levels (IsRow t) t.table h (root_of t) → length (level t.table d (root_of t)) ≤ t.rows
level_fits t d k h height rows =
    let here = level_rows (IsRow t) t.table d k h (root_of t) height rows in
    few (λ (x : Span). row_in x.word) first_row t.rows (level t.table d (root_of t))
    (all_map (IsRow t k) (λ (x : Span). first_row ≤ row_in x.word) (λ x row. (Names-named_kind x.word (kind_on t.gapped k) row.name.named).0.0) (level t.table d (root_of t)) here)
    (all_map (IsRow t k) (λ (x : Span). row_in x.word < first_row + t.rows) (λ x row. row.name.in_table) (level t.table d (root_of t)) here)
    (λ row. once_in_level t d k h row height rows)

-- ---- so that the levels are few

-- f is at most the least number of items of an inner row
pub grown_fits : (t : Tree) (f d k h : ℕ) → f ≤ least_items t.table.width (inner_of t.gapped) → h ≡ suc d + k → Levels (IsRow t) t.table h (root_of t) → grown f d 2 ≤ t.rows
grown_fits t f d k h low height rows = omega (arith, long_level t f d k h low height rows, level_fits t (suc d) k h height rows)

pub nine_levels : (t : Tree) (h : ℕ) → t.rows ≤ most_rows → Levels (IsRow t) t.table h (root_of t) → h < deepest
nine_levels t h named rows = ⊎_elim
    (λ (low : h < deepest). low)
    (λ (high : deepest ≤ h).
    let many : 2 * 4 ^ (deepest - 1) ≤ t.rows = grown_fits t 4 (deepest - 1) (h - deepest) h (least_four t.table.width (inner_of t.gapped)) (omega arith) rows in
    absurd (omega arith))
    (cases_lt h deepest)

-- ---- and a way passes few slots

-- the slots of as many inner rows as a way has above its leaf: the rows of the levels that a narrow tree cannot have are more than there are
few_slots : (w : Width) (gapped : Bool) (h rows : ℕ) → rows ≤ most_rows → h < deepest → ((d : ℕ) → suc d ≤ h → grown (least_items w (inner_of gapped)) d 2 ≤ rows) → slots_of w (inner_of gapped) * h ≤ 128
few_slots Long false h rows named low many = omega arith
few_slots Long true h rows named low many = omega arith
few_slots Short false h rows named low many = ⊎_elim
    (λ (below : h < 5). let goal : 32 * h ≤ 128 = omega arith in goal)
    (λ (high : 5 ≤ h). let most : grown 14 4 2 ≤ rows = many 4 high in absurd (omega arith))
    (cases_lt h 5)
few_slots Short true h rows named low many = ⊎_elim
    (λ (below : h < 6). let goal : 21 * h ≤ 128 = omega arith in goal)
    (λ (high : 6 ≤ h). let most : grown 9 5 2 ≤ rows = many 5 high in absurd (omega arith))
    (cases_lt h 6)

pub few_slots_passed : (t : Tree) (h : ℕ) → t.rows ≤ most_rows → Levels (IsRow t) t.table h (root_of t) → slots_of t.table.width (inner_of t.gapped) * h ≤ 128
few_slots_passed t h named rows =
    few_slots t.table.width t.gapped h t.rows named (nine_levels t h named rows)
    (λ d low. grown_fits t (least_items t.table.width (inner_of t.gapped)) d (h - suc d) h (omega arith) (omega arith) rows)
