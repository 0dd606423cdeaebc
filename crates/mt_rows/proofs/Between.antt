-- Where the ranges of a map lie, and a store that leaves what lies below it and above it.
use Rattle.mt_rows.proofs.Prelude.{◌≡◌, ℕ, zero, suc, ◌+◌, ◌-◌, ◌<◌, ◌≤◌, ◌==◌, List, [], ◌∷◌, ◌++◌, min, max, nat_lt, false, refl, ap, ◌∙◌, inl, inr, arith, append-nil, append_assoc, AllByRecursion, flat_map, cases_Bool, lt-ltb, le-ltb, Range, over, parts_below, parts_above, part_stored, cut_below, cut_above, all_map, Span, leaf_range, Fills, fills_le, expand, map_of, Levels, Tree, IsRow}
use Rattle.mt_rows.proofs.Lists.{Filled, expand_fills}
-- this stands below; here it is for the crates above
pub use Rattle.mt_layout.proofs.SpanLists.{fills_split}

-- ---- the ranges of a map

-- the range is one of indexes from `lo` up to, but without, `hi`
abbrev pub Between : ℕ → ℕ → Range → Type 0
Between lo hi r = (lo ≤ r.first) × (r.first ≤ r.last) × (r.last < hi)

pub between_more : (lo lo' hi : ℕ) (m : List Range) → lo ≤ lo' → AllByRecursion (Between lo' hi) m → AllByRecursion (Between lo hi) m
between_more lo lo' hi m le each = all_map (Between lo' hi) (Between lo hi) (λ r between. let begins = between.0 in (omega arith, between.1, between.2)) m each

-- the ranges of a leaf's spans lie where the spans do
pub leaf_between : (lo hi : ℕ) (xs : List Span) → Fills lo hi xs → AllByRecursion (Between lo hi) (flat_map leaf_range xs)
leaf_between lo hi [] fills = tt
leaf_between lo hi (x ∷ xs) fills =
    let le = fills_le (x.last + 1) hi xs fills.2 in
    let begins = fills.0 in let ends = fills.1 in
    let behind = between_more lo (x.last + 1) hi (flat_map leaf_range xs) (omega arith) (leaf_between (x.last + 1) hi xs fills.2) in
    elim (cases_Bool (x.word == 0)) [ inl hole ↦ rw hole behind | inr entry ↦ rw entry ((omega arith, omega arith, omega arith), behind) ]

-- the ranges below rows lie where the rows do
pub map_between : (t : Tree) (h lo hi : ℕ) (xs : List Span) → Levels (IsRow t) t.table h xs → Fills lo hi xs → AllByRecursion (Between lo hi) (map_of t.table h xs)
map_between t zero lo hi xs rows fills = leaf_between lo hi (expand t.table xs) (expand_fills t.table lo hi xs (all_map (IsRow t zero) (Filled t.table) (λ x row. row.pivots.fills) xs rows) fills)
map_between t (suc h) lo hi xs rows fills = map_between t h lo hi (expand t.table xs) rows.1 (expand_fills t.table lo hi xs (all_map (IsRow t (suc h)) (Filled t.table) (λ x row. row.pivots.fills) xs rows.0) fills)

-- ---- a store between two maps

parts_below-append : (first : ℕ) (xs ys : List Range) → parts_below (xs ++ ys) first ≡ parts_below xs first ++ parts_below ys first
parts_below-append first [] ys = refl
parts_below-append first (x ∷ xs) ys = elim (cases_Bool (nat_lt x.first first)) [
  | inl below ↦ rw below (ap (λ (l : List Range). cut_below first x ∷ l) (parts_below-append first xs ys))
  | inr not ↦ rw not (parts_below-append first xs ys)
]

parts_above-append : (last : ℕ) (xs ys : List Range) → parts_above (xs ++ ys) last ≡ parts_above xs last ++ parts_above ys last
parts_above-append last [] ys = refl
parts_above-append last (x ∷ xs) ys = elim (cases_Bool (nat_lt last x.last)) [
  | inl above ↦ rw above (ap (λ (l : List Range). cut_above last x ∷ l) (parts_above-append last xs ys))
  | inr not ↦ rw not (parts_above-append last xs ys)
]

all_below : (lo hi first : ℕ) (m : List Range) → AllByRecursion (Between lo hi) m → hi ≤ first → parts_below m first ≡ m
all_below lo hi first [] each le = refl
all_below lo hi first (r ∷ m) each le =
    let ends = each.0.1 in let within = each.0.2 in
    let whole : min r.last (first - 1) ≡ r.last = omega arith in
    rw (lt-ltb r.first first (omega arith), whole) (ap (λ (l : List Range). r ∷ l) (all_below lo hi first m each.1 le))

none_below : (lo hi first : ℕ) (m : List Range) → AllByRecursion (Between lo hi) m → first ≤ lo → parts_below m first ≡ []
none_below lo hi first [] each le = refl
none_below lo hi first (r ∷ m) each le = let begins = each.0.0 in rw (le-ltb r.first first (omega arith)) (none_below lo hi first m each.1 le)

all_above : (lo hi last : ℕ) (m : List Range) → AllByRecursion (Between lo hi) m → last < lo → parts_above m last ≡ m
all_above lo hi last [] each lt = refl
all_above lo hi last (r ∷ m) each lt =
    let begins = each.0.0 in let ends = each.0.1 in
    let whole : max r.first (last + 1) ≡ r.first = omega arith in
    rw (lt-ltb last r.last (omega arith), whole) (ap (λ (l : List Range). r ∷ l) (all_above lo hi last m each.1 lt))

none_above : (lo hi last : ℕ) (m : List Range) → AllByRecursion (Between lo hi) m → hi ≤ last + 1 → parts_above m last ≡ []
none_above lo hi last [] each le = refl
none_above lo hi last (r ∷ m) each le = let within = each.0.2 in rw (le-ltb last r.last (omega arith)) (none_above lo hi last m each.1 le)

-- what lies below a store and above it stays
pub over_between : (lo middle high hi first last entry : ℕ) (front m back : List Range) → AllByRecursion (Between lo middle) front → AllByRecursion (Between high hi) back → middle ≤ first → first ≤ last → last < high
    → over (front ++ (m ++ back)) first last entry ≡ front ++ (over m first last entry ++ back)
over_between lo middle high hi first last entry front m back below above from order to =
    let low = parts_below-append first front (m ++ back)
    ∙ (λ i. all_below lo middle first front below from i ++ (parts_below-append first m back ∙ (ap (λ (l : List Range). parts_below m first ++ l) (none_below high hi first back above (omega arith)) ∙ append-nil (parts_below m first))) i) in
    let high = parts_above-append last front (m ++ back)
    ∙ (λ i. none_above lo middle last front below (omega arith) i ++ (parts_above-append last m back ∙ ap (λ (l : List Range). parts_above m last ++ l) (all_above high hi last back above to)) i) in
    (λ i. low i ++ (part_stored first last entry ++ high i)) ∙ regroup front (parts_below m first) (part_stored first last entry) (parts_above m last) back
  where
    regroup : (f x s y b : List Range) → (f ++ x) ++ (s ++ (y ++ b)) ≡ f ++ ((x ++ (s ++ y)) ++ b)
    regroup f x s y b = simp append_assoc

-- a store over just one range replaces its entry
pub over_exact : (first last entry old : ℕ) → first ≤ last → (entry == 0) ≡ false → over (record { first = first; last = last; entry = old } ∷ []) first last entry ≡ record { first = first; last = last; entry = entry } ∷ []
over_exact first last entry old order some = rw (le-ltb first first (omega arith), le-ltb last last (omega arith), some) refl
