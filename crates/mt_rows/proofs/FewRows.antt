-- A tree has few rows beside its ranges: every inner row but the root has four children or more, and every leaf but the
-- root three entries or more, since no two holes follow each other.
use Rattle.mt_rows.proofs.Prelude.{◌≡◌, ◌≢◌, ℕ, zero, suc, ◌+◌, ◌*◌, ◌/◌, ◌^◌, ◌<◌, ◌≤◌, ◌==◌, List, [], ◌∷◌, ◌++◌, Bool, length, refl, sym, ap, ◌∙◌, subst, inl, inr, arith, append-nil, length-append, if◌then◌else◌, AllByRecursion, flat_map, cases_Bool, eqb-true, flat_map-append, pow-succ', Range, deepest, Leaf, least_items, row_in, named_kind, Span, leaf_range, Fills, BeginsFull, Apart, least_six, Table, spans_in, root_span, expand, map_of, Levels, rows_of, map_in, reached_in, Tree, IsRow, Stands, top_of, root_of}
use Rattle.mt_rows.proofs.Depth.{IsLeaf, IsInner, leaves, inners, by_leaf, by_inner, ranges_by_depth, some_least}
use Rattle.mt_rows.proofs.Once.{IsPart, inner_wide, expand_parts, rows_wide, wide_fills}
use Rattle.mt_rows.proofs.NineLevels.{expand_four}

-- ---- how many rows are reached, by levels

abbrev rows_below : Table → ℕ → List Span → ℕ
rows_below t zero xs = length xs
rows_below t (suc h) xs = length xs + rows_below t h (expand t xs)

leaf_rows : (t : Table) (depth : ℕ) (xs : List Span) → AllByRecursion IsLeaf xs → length (flat_map (rows_of t (suc depth)) xs) ≡ length xs
leaf_rows t depth [] leaf = refl
leaf_rows t depth (x ∷ xs) leaf =
    let first : rows_of t (suc depth) x ≡ row_in x.word ∷ [] = by_leaf (named_kind x.word) (row_in x.word ∷ []) (row_in x.word ∷ flat_map (rows_of t depth) (spans_in t x)) leaf.0 in
    let here = ap (λ (l : List ℕ). length (l ++ flat_map (rows_of t (suc depth)) xs)) first in
    let behind = leaf_rows t depth xs leaf.1 in
    omega (arith, here, behind)

inner_rows : (gapped : Bool) (t : Table) (depth : ℕ) (xs : List Span) → AllByRecursion (IsInner gapped) xs
    → length (flat_map (rows_of t (suc depth)) xs) ≡ length xs + length (flat_map (rows_of t depth) (expand t xs))
inner_rows gapped t depth [] inner = refl
inner_rows gapped t depth (x ∷ xs) inner =
    let first : rows_of t (suc depth) x ≡ row_in x.word ∷ flat_map (rows_of t depth) (spans_in t x) = by_inner gapped (named_kind x.word) (row_in x.word ∷ []) (row_in x.word ∷ flat_map (rows_of t depth) (spans_in t x)) inner.0 in
    let here = ap (λ (l : List ℕ). length (l ++ flat_map (rows_of t (suc depth)) xs)) first in
    let apart = length-append (flat_map (rows_of t depth) (spans_in t x)) (flat_map (rows_of t (suc depth)) xs) in
    let behind = inner_rows gapped t depth xs inner.1 in
    let below = ap (λ (l : List ℕ). length l) (flat_map-append (rows_of t depth) (spans_in t x) (expand t xs)) ∙ length-append (flat_map (rows_of t depth) (spans_in t x)) (flat_map (rows_of t depth) (expand t xs)) in
    omega (arith, here, apart, behind, below)

rows_by_levels : (t : Tree) (depth h : ℕ) (xs : List Span) → h < depth → Levels (IsRow t) t.table h xs → length (flat_map (rows_of t.table depth) xs) ≡ rows_below t.table h xs
rows_by_levels t zero h xs deep rows = absurd (omega arith)
rows_by_levels t (suc depth) zero xs deep rows = leaf_rows t.table depth xs (leaves t xs rows)
rows_by_levels t (suc depth) (suc h) xs deep rows =
    let here = inner_rows t.gapped t.table depth xs (inners t h xs rows.0) in
    let below = rows_by_levels t depth h (expand t.table xs) (omega arith) rows.1 in
    omega (arith, here, below)

reached_by_levels : (t : Tree) (h : ℕ) → Stands t h → length (reached_in t.table t.root) ≡ rows_below t.table h (root_of t)
reached_by_levels t h stands =
    ap (λ (l : List ℕ). length l) (sym (append-nil (reached_in t.table t.root))) ∙ rows_by_levels t deepest h (root_of t) stands.low stands.rows

-- ---- how many entries stand in a leaf

-- one item more than twice as many entries at the most, and no more where the first is an entry
record Halves (xs : List Span) : Type 0 where
  any : length xs ≤ 2 * length (flat_map leaf_range xs) + 1
  full : BeginsFull xs → length xs ≤ 2 * length (flat_map leaf_range xs)

apart_halves : (xs : List Span) → Apart xs → Halves xs
apart_halves [] apart = record { any = omega arith; full = λ _. omega arith }
apart_halves (x ∷ xs) apart =
    let behind = apart_halves xs apart.1 in
    elim (cases_Bool (x.word == 0)) [
      | inl hole ↦
          let begins = behind.full (apart.0 (eqb-true x.word 0 hole)) in
          record { any = rw hole (omega (arith, begins)); full = λ entry. absurd (entry (eqb-true x.word 0 hole)) }
      | inr entry ↦ let any = behind.any in record { any = rw entry (omega (arith, any)); full = λ _. rw entry (omega (arith, any)) }
    ]

leaf_three : (t : Tree) (x : Span) → IsPart t x → IsRow t zero x → 3 ≤ length (flat_map leaf_range (spans_in t.table x))
leaf_three t x part row =
    let least : least_items t.table.width Leaf ≤ length (spans_in t.table x) = subst (λ (b : Bool). (if b then 1 else least_items t.table.width Leaf) ≤ length (spans_in t.table x)) part row.count.least in
    let any = (apart_halves (spans_in t.table x) row.holes.apart).any in
    omega (arith, least, least_six t.table.width, any)

leaves_three : (t : Tree) (xs : List Span) → AllByRecursion (IsPart t) xs → AllByRecursion (IsRow t zero) xs → 3 * length xs ≤ length (map_of t.table zero xs)
leaves_three t [] parts rows = omega arith
leaves_three t (x ∷ xs) parts rows =
    let apart = ap (λ (l : List Range). length l) (flat_map-append leaf_range (spans_in t.table x) (expand t.table xs)) ∙ length-append (flat_map leaf_range (spans_in t.table x)) (flat_map leaf_range (expand t.table xs)) in
    omega (arith, apart, leaf_three t x parts.0 rows.0, leaves_three t xs parts.1 rows.1)

-- ---- below rows none of which covers every index

parts_few : (t : Tree) (h lo hi : ℕ) (xs : List Span) → hi ≤ top_of t + 1 → AllByRecursion (IsPart t) xs → Levels (IsRow t) t.table h xs → Fills lo hi xs
    → 9 * rows_below t.table h xs + 3 * length xs ≤ 4 * length (map_of t.table h xs)
parts_few t zero lo hi xs within parts rows fills = omega (arith, leaves_three t xs parts rows)
parts_few t (suc h) lo hi xs within parts rows fills =
    let wide = rows_wide t (suc h) xs parts rows.0 in
    let four = expand_four t (suc h) xs parts rows.0 in
    let below = parts_few t h lo hi (expand t.table xs) within (expand_parts t lo hi xs within wide fills) rows.1 (wide_fills t.table lo hi xs wide fills) in
    omega (arith, four, below)

parts_many : (t : Tree) (h n lo hi : ℕ) (xs : List Span) → hi ≤ top_of t + 1 → n ≤ length xs → AllByRecursion (IsPart t) xs → Levels (IsRow t) t.table h xs → Fills lo hi xs
    → 3 * (n * 4 ^ h) ≤ length (map_of t.table h xs)
parts_many t zero n lo hi xs within some parts rows fills = omega (arith, some, leaves_three t xs parts rows)
parts_many t (suc h) n lo hi xs within some parts rows fills =
    let wide = rows_wide t (suc h) xs parts rows.0 in
    let four = expand_four t (suc h) xs parts rows.0 in
    let below = parts_many t h (4 * n) lo hi (expand t.table xs) within (omega (arith, four, some)) (expand_parts t lo hi xs within wide fills) rows.1 (wide_fills t.table lo hi xs wide fills) in
    rw (pow-succ' 4 h) (omega (arith, below))

-- ---- below the root

-- the rows below an inner root: two or more, none of which covers every index
record BelowRoot (t : Tree) (h : ℕ) (xs : List Span) : Type 0 where
  two : 2 ≤ length xs
  parts : AllByRecursion (IsPart t) xs
  rows : Levels (IsRow t) t.table h xs
  fills : Fills 0 (top_of t + 1) xs

below_root : (t : Tree) (h : ℕ) → Levels (IsRow t) t.table (suc h) (root_of t) → BelowRoot t h (expand t.table (root_of t))
below_root t h rows =
    let root = root_span t.table t.root in
    let wide = inner_wide t h root rows.0.0 in
    let fills : Fills 0 (top_of t + 1) (root_of t) = (refl, omega arith, refl) in
    record {
      two = omega (arith, length-append (spans_in t.table root) [], wide.two);
      parts = expand_parts t 0 (top_of t + 1) (root_of t) (omega arith) (wide, tt) fills;
      rows = rows.1;
      fills = wide_fills t.table 0 (top_of t + 1) (root_of t) (wide, tt) fills;
    }

root_few : (t : Tree) (h : ℕ) → Levels (IsRow t) t.table h (root_of t) → 2 * rows_below t.table h (root_of t) ≤ length (map_of t.table h (root_of t)) + 4
root_few t zero rows = omega arith
root_few t (suc h) rows =
    let below = below_root t h rows in
    let xs = expand t.table (root_of t) in
    let few = parts_few t h 0 (top_of t + 1) xs (omega arith) below.parts below.rows below.fills in
    omega (arith, few, below.two)

root_many : (t : Tree) (h : ℕ) → Levels (IsRow t) t.table h (root_of t) → 3 * 4 ^ h ≤ 2 * length (map_of t.table h (root_of t)) + 1
root_many t zero rows =
    let root = root_span t.table t.root in
    let entry : map_of t.table zero (root_of t) ≢ [] = λ none. rows.0.holes.some (ap (flat_map leaf_range) (sym (append-nil (spans_in t.table root))) ∙ none) in
    some (map_of t.table zero (root_of t)) entry
  where
    some : (m : List Range) → m ≢ [] → 3 ≤ 2 * length m + 1
    some [] entry = absurd (entry refl)
    some (r ∷ m) entry = omega arith
root_many t (suc h) rows =
    let below = below_root t h rows in
    let many = parts_many t h 2 0 (top_of t + 1) (expand t.table (root_of t)) (omega arith) below.two below.parts below.rows below.fills in
    rw (pow-succ' 4 h) (omega (arith, many))

-- ---- a row on each level

rows_tall : (t : Tree) (h : ℕ) (xs : List Span) → 1 ≤ length xs → Levels (IsRow t) t.table h xs → h + 1 ≤ rows_below t.table h xs
rows_tall t zero xs some rows = some
rows_tall t (suc h) xs some rows =
    let below = rows_tall t h (expand t.table xs) (first xs some rows.0) rows.1 in
    omega (arith, some, below)
  where
    first : (xs : List Span) → 1 ≤ length xs → AllByRecursion (IsRow t (suc h)) xs → 1 ≤ length (expand t.table xs)
    first [] some rows = absurd (omega arith)
    first (x ∷ xs) some rows = omega (arith, length-append (spans_in t.table x) (expand t.table xs), some_least t (suc h) x, rows.0.count.least)

-- ---- in a tree

module _ (t : Tree) (h : ℕ) (stands : Stands t h) where
  ranges : length (map_in t.table t.root) ≡ length (map_of t.table h (root_of t))
  ranges = ap (λ (m : List Range). length m) (ranges_by_depth t deepest h (root_span t.table t.root) stands.low stands.rows)

  pub few_rows : length (reached_in t.table t.root) ≤ length (map_in t.table t.root) / 2 + 2
  few_rows = omega (arith, reached_by_levels t h stands, ranges, root_few t h stands.rows)

  pub row_on_each_level : h + 1 ≤ length (reached_in t.table t.root)
  row_on_each_level = omega (arith, reached_by_levels t h stands, rows_tall t h (root_of t) (omega arith) stands.rows)

  pub many_ranges : 3 * 4 ^ h ≤ 2 * length (map_in t.table t.root) + 1
  many_ranges = omega (arith, ranges, root_many t h stands.rows)
