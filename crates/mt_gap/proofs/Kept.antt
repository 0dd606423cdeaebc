-- What is kept of holes: of those out of the window and the short ones nothing, of a long one in the window something.
use Rattle.mt_gap.proofs.Prelude.{◌≡◌, ℕ, zero, suc, ◌+◌, ◌-◌, ◌<◌, ◌≤◌, ◌==◌, List, [], ◌∷◌, ◌++◌, min, max, nat_le, map, length, Some, refl, sym, ap, ◌∙◌, subst, inl, inr, arith, filter, AllByRecursion, flat_map, map-append, filter-append, flat_map-append, cases_Bool, lt-leb, leb-true, leb-false, Span, Fills, longest_in, Table, expand, Levels, Tree, IsRow, longest_below, all_map, fills_le, expand_fills, expand-append, rows_filled, Hole, clip, fits, kept, lowest_in, leaf_hole}
use Rattle.mt_gap.proofs.HolesBelow.{holes_below}

pub kept-append : (n lo hi : ℕ) (xs ys : List Hole) → kept n lo hi (xs ++ ys) ≡ kept n lo hi xs ++ kept n lo hi ys
kept-append n lo hi xs ys = ap (filter (fits n)) (map-append (clip lo hi) xs ys) ∙ filter-append (fits n) (map (clip lo hi) xs) (map (clip lo hi) ys)

pub holes_below-append : (t : Table) (h : ℕ) (xs ys : List Span) → holes_below t h (xs ++ ys) ≡ holes_below t h xs ++ holes_below t h ys
holes_below-append t zero xs ys = rw (expand-append t xs ys) (flat_map-append leaf_hole (expand t xs) (expand t ys))
holes_below-append t (suc h) xs ys = rw (expand-append t xs ys) (holes_below-append t h (expand t xs) (expand t ys))

-- ---- where holes lie

abbrev pub Between : ℕ → ℕ → Hole → Type 0
Between a b x = (a ≤ x.first) × (x.first ≤ x.last) × (x.last < b)

between_more : (a a' b : ℕ) (xs : List Hole) → a ≤ a' → AllByRecursion (Between a' b) xs → AllByRecursion (Between a b) xs
between_more a a' b xs le each = all_map (Between a' b) (Between a b) (λ x between. let begins = between.0 in (omega arith, between.1, between.2)) xs each

pub leaf_between : (a b : ℕ) (xs : List Span) → Fills a b xs → AllByRecursion (Between a b) (flat_map leaf_hole xs)
leaf_between a b [] fills = tt
leaf_between a b (x ∷ xs) fills =
    let le = fills_le (x.last + 1) b xs fills.2 in
    let begins = fills.0 in let ends = fills.1 in
    let behind = between_more a (x.last + 1) b (flat_map leaf_hole xs) (omega arith) (leaf_between (x.last + 1) b xs fills.2) in
    elim (cases_Bool (x.word == 0)) [ inl hole ↦ rw hole ((omega arith, omega arith, omega arith), behind) | inr entry ↦ rw entry behind ]

pub holes_between : (t : Tree) (h a b : ℕ) (xs : List Span) → Levels (IsRow t) t.table h xs → Fills a b xs → AllByRecursion (Between a b) (holes_below t.table h xs)
holes_between t zero a b xs rows fills = leaf_between a b (expand t.table xs) (expand_fills t.table a b xs (rows_filled t zero xs rows) fills)
holes_between t (suc h) a b xs rows fills = holes_between t h a b (expand t.table xs) rows.1 (expand_fills t.table a b xs (rows_filled t (suc h) xs rows.0) fills)

-- ---- how long they are

abbrev pub hole_size : Hole → ℕ
hole_size x = x.last + 1 - x.first

abbrev pub longest_of : List Hole → ℕ
longest_of [] = 0
longest_of (x ∷ xs) = max (hole_size x) (longest_of xs)

longest_of_spans : (xs : List Span) → longest_in xs ≡ longest_of (flat_map leaf_hole xs)
longest_of_spans [] = refl
longest_of_spans (x ∷ xs) =
    let behind = longest_of_spans xs in
    elim (cases_Bool (x.word == 0)) [ inl hole ↦ rw hole (ap (λ (k : ℕ). max (x.last + 1 - x.first) k) behind) | inr entry ↦ rw entry (omega (arith, behind)) ]

-- a gap word is the length of the longest of the holes
pub longest_is : (t : Table) (h : ℕ) (xs : List Span) → longest_below t h xs ≡ longest_of (holes_below t h xs)
longest_is t zero xs = longest_of_spans (expand t xs)
longest_is t (suc h) xs = longest_is t h (expand t xs)

-- ---- what is kept

kept_not : (n lo hi : ℕ) (x : Hole) (xs : List Hole) → min hi x.last + 1 < max lo x.first + n → kept n lo hi (x ∷ xs) ≡ kept n lo hi xs
kept_not n lo hi x xs short = rw (lt-leb (max lo x.first + n) (min hi x.last + 1) short) refl

-- a hole with room is the first that is kept, and one without is not kept
pub kept_either : (P : List Hole → Type 0) (n lo hi : ℕ) (x : Hole) (xs : List Hole) → (max lo x.first + n ≤ min hi x.last + 1 → P (clip lo hi x ∷ kept n lo hi xs)) → (min hi x.last + 1 < max lo x.first + n → P (kept n lo hi xs)) → P (kept n lo hi (x ∷ xs))
kept_either P n lo hi x xs room short = elim (cases_Bool (nat_le (max lo x.first + n) (min hi x.last + 1))) [
  | inl whole ↦ (let first : kept n lo hi (x ∷ xs) ≡ clip lo hi x ∷ kept n lo hi xs = (rw whole refl) in subst P (sym first) (room (leb-true (max lo x.first + n) (min hi x.last + 1) whole)))
  | inr less ↦ (let not = leb-false (max lo x.first + n) (min hi x.last + 1) less in subst P (sym (kept_not n lo hi x xs not)) (short not))
]

pub none_short : (n lo hi : ℕ) (xs : List Hole) → 1 ≤ n → longest_of xs < n → kept n lo hi xs ≡ []
none_short n lo hi [] some short = refl
none_short n lo hi (x ∷ xs) some short = kept_not n lo hi x xs (omega arith) ∙ none_short n lo hi xs some (omega arith)

pub none_below : (n lo hi a b : ℕ) (xs : List Hole) → 1 ≤ n → AllByRecursion (Between a b) xs → b ≤ lo → kept n lo hi xs ≡ []
none_below n lo hi a b [] some each le = refl
none_below n lo hi a b (x ∷ xs) some each le = let ends = each.0.2 in kept_not n lo hi x xs (omega arith) ∙ none_below n lo hi a b xs some each.1 le

pub none_above : (n lo hi a b : ℕ) (xs : List Hole) → 1 ≤ n → AllByRecursion (Between a b) xs → hi < a → kept n lo hi xs ≡ []
none_above n lo hi a b [] some each lt = refl
none_above n lo hi a b (x ∷ xs) some each lt = let begins = each.0.0 in kept_not n lo hi x xs (omega arith) ∙ none_above n lo hi a b xs some each.1 lt

pub some_inside : (n lo hi a b : ℕ) (xs : List Hole) → 1 ≤ n → AllByRecursion (Between a b) xs → lo ≤ a → b ≤ hi + 1 → n ≤ longest_of xs → 0 < length (kept n lo hi xs)
some_inside n lo hi a b [] some each from to long = absurd (omega arith)
some_inside n lo hi a b (x ∷ xs) some each from to long =
    let begins = each.0.0 in let order = each.0.1 in let ends = each.0.2 in
    kept_either (λ (l : List Hole). 0 < length l) n lo hi x xs (λ room. omega arith) (λ short. some_inside n lo hi a b xs some each.1 from to (omega arith))

-- the lowest place lies where the holes do
pub lowest_between : (n lo hi a b start : ℕ) (xs : List Hole) → 1 ≤ n → AllByRecursion (Between a b) xs → lowest_in (kept n lo hi xs) ≡ Some start → (a ≤ start) × (start < b)
lowest_between n lo hi a b start [] some each is = absurd (cc)
lowest_between n lo hi a b start (x ∷ xs) some each is =
    let begins = each.0.0 in let ends = each.0.2 in
    kept_either (λ (l : List Hole). lowest_in l ≡ Some start → (a ≤ start) × (start < b)) n lo hi x xs
    (λ room here. let both : Some (max lo x.first) ≡ Some start = here in let same : max lo x.first ≡ start = cc in (omega arith, omega arith))
    (λ short. lowest_between n lo hi a b start xs some each.1) is
