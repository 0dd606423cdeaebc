-- The items of a map fill its indexes, no two holes follow each other, and their ranges are those of the map.
use Rattle.mt_bulk.proofs.Prelude.{◌≡◌, ◌≢◌, ℕ, ◌+◌, ◌-◌, ◌<◌, ◌≤◌, ◌==◌, false, List, [], ◌∷◌, ◌++◌, refl, ap, ◌∙◌, arith, nat_lt, ne_eqb, AllByRecursion, flat_map, cond_both, ltb-true, ltb-false, Kind, Range, IsMap, IsMapFrom, greatest_of, all_map, Item, spans_from, leaf_range, Fills, Apart, hole_to, items_between, items_of}

abbrev IsBelow : ℕ → Range → Type 0
IsBelow hi r = r.last < hi

-- ---- they fill the indexes

hole_fills : (lo hi : ℕ) → lo ≤ hi → Fills lo hi (spans_from lo (hole_to lo hi))
hole_fills lo hi order = cond_both (nat_lt lo hi) _ _ (λ (hole : List Item). Fills lo hi (spans_from lo hole))
    (λ some. let wide = ltb-true lo hi some in (refl, omega arith, omega arith))
    (λ none. let least = ltb-false lo hi none in omega arith)

pub items_fill : (m : List Range) (lo hi : ℕ) → lo ≤ hi → IsMapFrom lo m → AllByRecursion (IsBelow hi) m → Fills lo hi (spans_from lo (items_between lo hi m))
items_fill [] lo hi order map below = hole_fills lo hi order
items_fill (r ∷ m) lo hi order map below =
    let from = map.0 in
    let to = map.1 in
    let under = below.0 in
    let behind = items_fill m (r.last + 1) hi (omega arith) map.3 below.1 in
    cond_both (nat_lt lo r.first) _ _ (λ (hole : List Item). Fills lo hi (spans_from lo (hole ++ (record { last = r.last; word = r.entry; gap = 0 } ∷ items_between (r.last + 1) hi m))))
    (λ some. let wide = ltb-true lo r.first some in (refl, omega arith, (refl, omega arith, behind)))
    (λ none. (refl, omega arith, behind))

-- ---- no two holes follow each other

pub items_apart : (m : List Range) (lo hi : ℕ) → IsMapFrom lo m → Apart (spans_from lo (items_between lo hi m))
items_apart [] lo hi map = cond_both (nat_lt lo hi) _ _ (λ (hole : List Item). Apart (spans_from lo hole)) (λ some. ((λ hole. tt), tt)) (λ none. tt)
items_apart (r ∷ m) lo hi map =
    let full : r.entry ≢ 0 = (let some = map.2 in λ zero_is. omega arith) in
    let behind = items_apart m (r.last + 1) hi map.3 in
    cond_both (nat_lt lo r.first) _ _ (λ (hole : List Item). Apart (spans_from lo (hole ++ (record { last = r.last; word = r.entry; gap = 0 } ∷ items_between (r.last + 1) hi m))))
    (λ some. ((λ hole. full), ((λ hole. absurd (full hole)), behind)))
    (λ none. ((λ hole. absurd (full hole)), behind))

-- ---- their ranges are those of the map

hole_ranges : (lo hi : ℕ) → flat_map leaf_range (spans_from lo (hole_to lo hi)) ≡ []
hole_ranges lo hi = cond_both (nat_lt lo hi) _ _ (λ (hole : List Item). flat_map leaf_range (spans_from lo hole) ≡ []) (λ some. refl) (λ none. refl)

-- an entry's range, where it begins at the first index of the range
entry_range : (r : Range) (lo : ℕ) (rest : List Range) → lo ≡ r.first → 0 < r.entry
    → leaf_range (record { first = lo; last = r.last; word = r.entry }) ++ rest ≡ r ∷ rest
entry_range r lo rest at some =
    let full : (r.entry == 0) ≡ false = ne_eqb r.entry 0 (λ none. omega arith) in
    rw full (λ i. record { first = at i; last = r.last; entry = r.entry } ∷ rest)

pub items_ranges : (m : List Range) (lo hi : ℕ) → IsMapFrom lo m → flat_map leaf_range (spans_from lo (items_between lo hi m)) ≡ m
items_ranges [] lo hi map = hole_ranges lo hi
items_ranges (r ∷ m) lo hi map =
    let from = map.0 in
    let behind = items_ranges m (r.last + 1) hi map.3 in
    let tail = flat_map leaf_range (spans_from (r.last + 1) (items_between (r.last + 1) hi m)) in
    cond_both (nat_lt lo r.first) _ _ (λ (hole : List Item). flat_map leaf_range (spans_from lo (hole ++ (record { last = r.last; word = r.entry; gap = 0 } ∷ items_between (r.last + 1) hi m))) ≡ r ∷ m)
    (λ some. let wide = ltb-true lo r.first some in entry_range r (r.first - 1 + 1) tail (omega arith) map.2 ∙ ap (λ (l : List Range). r ∷ l) behind)
    (λ none. let least = ltb-false lo r.first none in entry_range r lo tail (omega arith) map.2 ∙ ap (λ (l : List Range). r ∷ l) behind)

-- ---- of a map of a kind

pub map_items_fill : (kind : Kind) (m : List Range) → IsMap kind m → Fills 0 (greatest_of kind + 1) (spans_from 0 (items_of kind m))
map_items_fill kind m is = items_fill m 0 (greatest_of kind + 1) (omega arith) is.rise (all_map (λ (r : Range). r.last ≤ greatest_of kind) (IsBelow (greatest_of kind + 1)) (λ r low. omega arith) m is.within)

pub map_items_apart : (kind : Kind) (m : List Range) → IsMap kind m → Apart (spans_from 0 (items_of kind m))
map_items_apart kind m is = items_apart m 0 (greatest_of kind + 1) is.rise

pub map_items_ranges : (kind : Kind) (m : List Range) → IsMap kind m → flat_map leaf_range (spans_from 0 (items_of kind m)) ≡ m
map_items_ranges kind m is = items_ranges m 0 (greatest_of kind + 1) is.rise
