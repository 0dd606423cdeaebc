-- How much stands below a row at the most, and what stands in a leaf.
use Rattle.mt_check.proofs.Prelude.{◌≡◌, ℕ, zero, suc, ◌+◌, ◌^◌, ◌<◌, ◌≤◌, ◌==◌, List, [], ◌∷◌, Option, Some, None, not, length, filter, refl, ap, inl, inr, arith, flat_map, cases_Bool, pow-succ', one-le-pow, mul-le-mul_right, Range, columns, deepest, RowKind, Leaf, Inner, Gapped, Item, Span, named_kind, spans_from, leaf_range, some_columns, Table, spans_in, by_kind, ranges_of, children_few, below_few, level_fits}

-- ---- ranges below a row

one_range : (x : Span) → length (leaf_range x) ≤ 1
one_range x = elim (cases_Bool (x.word == 0)) [ inl hole ↦ rw hole (omega arith) | inr entry ↦ rw entry (omega arith) ]

either_few : (kind : Option RowKind) (leaf inner : List Range) (most : ℕ) → length leaf ≤ most → length inner ≤ most → length (by_kind kind leaf inner) ≤ most
either_few None leaf inner most few_leaf few_inner = omega arith
either_few (Some Leaf) leaf inner most few_leaf few_inner = few_leaf
either_few (Some Inner) leaf inner most few_leaf few_inner = few_inner
either_few (Some Gapped) leaf inner most few_leaf few_inner = few_inner

ranges_few : (t : Table) (depth : ℕ) (x : Span) → length (ranges_of t depth x) ≤ columns t.width ^ depth
ranges_few t zero x = omega arith
ranges_few t (suc depth) x =
    let most = columns t.width ^ depth in
    let some = one-le-pow depth (columns t.width) (some_columns t.width) in
    let next = pow-succ' (columns t.width) depth in
    let wide = mul-le-mul_right most (children_few t x) in
    let least = mul-le-mul_right (columns t.width) some in
    let leaf = below_few leaf_range 1 (spans_in t x) one_range in
    let inner = below_few (ranges_of t depth) most (spans_in t x) (ranges_few t depth) in
    either_few (named_kind x.word) (flat_map leaf_range (spans_in t x)) (flat_map (ranges_of t depth) (spans_in t x)) (columns t.width ^ suc depth) (omega (arith, children_few t x)) (omega arith)

pub ranges_fit : (t : Table) (depth : ℕ) (x : Span) → depth ≤ deepest → length (ranges_of t depth x) < 2 ^ 64
ranges_fit t depth x low = level_fits t.width depth (length (ranges_of t depth x)) low (ranges_few t depth x)

-- ---- entries of a leaf

pub entries_counted : (first : ℕ) (items : List Item) → length (filter (λ (x : Item). not (x.word == 0)) items) ≡ length (flat_map leaf_range (spans_from first items))
entries_counted first [] = refl
entries_counted first (x ∷ items) =
    let behind = entries_counted (x.last + 1) items in
    elim (cases_Bool (x.word == 0)) [ inl hole ↦ rw hole behind | inr entry ↦ rw entry (ap suc behind) ]
