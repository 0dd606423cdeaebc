-- Loops over a row's children.
use Rattle.mt_gap.proofs.Prelude.{◌≡◌, ℕ, zero, suc, ◌+◌, ◌-◌, ◌<◌, ◌≤◌, ◌==◌, List, [], ◌∷◌, ◌++◌, true, false, append-nil, Some, None, length, take, drop, refl, sym, ap, ◌∙◌, subst, inl, inr, arith, length-append, slice_index_or, flat_map, slice_get, cases_Bool, take-append-drop, flat_map-append, Span, Hole, clip, fits, kept, lowest_in, highest_in, Child, leaf_hole, child_hole, may_have, inside, narrow, has_sure}
use Rattle.mt_gap.proofs.NarrowedUp.{highest_back}
use Rattle.mt_gap.proofs.Kept.{kept-append}

pub drop_at : {A : Type 0} (xs : List A) (i : ℕ) (d : A) → i < length xs → drop i xs ≡ slice_index_or xs i d ∷ drop (suc i) xs
drop_at [] i d within = absurd (omega arith)
drop_at (x ∷ xs) zero d within = refl
drop_at (x ∷ xs) (suc i) d within = drop_at xs i d (omega arith)

-- where one more child is taken there is room for it
pub room_for : (n lo hi : ℕ) (acc first xs : List Child) (i : ℕ) (d : Child) → acc ++ narrow n lo hi (drop i xs) ≡ first ++ narrow n lo hi xs → length first + length (narrow n lo hi xs) ≤ 3
    → i < length xs → may_have n lo hi (slice_index_or xs i d) ≡ true → length acc < 3
room_for n lo hi acc first xs i d same room within may =
    let whole : length acc + length (narrow n lo hi (drop i xs)) ≡ length first + length (narrow n lo hi xs) = sym (length-append acc (narrow n lo hi (drop i xs))) ∙ (ap length same ∙ length-append first (narrow n lo hi xs)) in
    let some = subst (λ (l : List Child). 1 ≤ length (narrow n lo hi l)) (sym (drop_at xs i d within)) (taken (slice_index_or xs i d) (drop (suc i) xs) may) in
    omega arith
  where
    taken : (x : Child) (ys : List Child) → may_have n lo hi x ≡ true → 1 ≤ length (narrow n lo hi (x ∷ ys))
    taken x ys may = rw may (elim (cases_Bool (inside lo hi x)) [ inl in_it ↦ rw in_it (omega arith) | inr over ↦ rw over (omega arith) ])

-- the first hole with room
pub found_first : (n lo hi : ℕ) (xs : List Child) (i : ℕ) (d : Child) (first last : ℕ) → kept n lo hi (flat_map child_hole (take i xs)) ≡ [] → i < length xs
    → Some (record { first = first; last = last }) ≡ slice_get (kept n lo hi (leaf_hole (slice_index_or xs i d).span)) 0 → Some first ≡ lowest_in (kept n lo hi (flat_map child_hole xs))
found_first n lo hi xs i d first last none within found =
    let x = slice_index_or xs i d in
    let parts : xs ≡ take i xs ++ (x ∷ drop (suc i) xs) = sym (take-append-drop i xs) ∙ ap (λ (l : List Child). take i xs ++ l) (drop_at xs i d within) in
    let whole : kept n lo hi (flat_map child_hole xs) ≡ kept n lo hi (leaf_hole x.span) ++ kept n lo hi (flat_map child_hole (drop (suc i) xs)) =
    ap (λ (l : List Child). kept n lo hi (flat_map child_hole l)) parts
    ∙ (ap (kept n lo hi) (flat_map-append child_hole (take i xs) (x ∷ drop (suc i) xs))
    ∙ (kept-append n lo hi (flat_map child_hole (take i xs)) (flat_map child_hole (x ∷ drop (suc i) xs))
    ∙ (ap (λ (l : List Hole). l ++ kept n lo hi (flat_map child_hole (x ∷ drop (suc i) xs))) none
    ∙ kept-append n lo hi (leaf_hole x.span) (flat_map child_hole (drop (suc i) xs))))) in
    head_of (kept n lo hi (leaf_hole x.span)) (kept n lo hi (flat_map child_hole (drop (suc i) xs))) found ∙ ap lowest_in (sym whole)
  where
    head_of : (ys zs : List Hole) → Some (record { first = first; last = last }) ≡ slice_get ys 0 → Some first ≡ lowest_in (ys ++ zs)
    head_of [] zs is = absurd (cc)
    head_of (y ∷ ys) zs is = let same : record { first = first; last = last } ≡ y = cc in ap (λ (h : Hole). Some h.first) same

-- ---- the last hole with room

one_kept : (n lo hi : ℕ) (x : Span) → length (kept n lo hi (leaf_hole x)) ≤ 1
one_kept n lo hi x = elim (cases_Bool (x.word == 0)) [
  | inl hole ↦ rw hole (elim (cases_Bool (fits n (clip lo hi (record { first = x.first; last = x.last })))) [ inl room ↦ rw room (omega arith) | inr small ↦ rw small (omega arith) ])
  | inr entry ↦ rw entry (omega arith)
]

last_one : (n : ℕ) (xs ys : List Hole) (h : Hole) → length ys ≤ 1 → Some h ≡ slice_get ys 0 → Some (h.last + 1 - n) ≡ highest_in n (xs ++ ys)
last_one n xs [] h few is = absurd (cc)
last_one n xs (y ∷ []) h few is = let same : h ≡ y = cc in ap (λ (z : Hole). Some (z.last + 1 - n)) same ∙ sym (highest_back n xs (y ∷ []) (omega arith))
last_one n xs (y ∷ z ∷ ys) h few is = absurd (omega arith)

no_more : (n : ℕ) (xs ys : List Hole) → None ≡ slice_get ys 0 → highest_in n xs ≡ highest_in n (xs ++ ys)
no_more n xs [] is = ap (highest_in n) (sym (append-nil xs))
no_more n xs (y ∷ ys) is = absurd (cc)

pub later_some : (n lo hi : ℕ) (before : List Hole) (x : Span) (first last : ℕ) → Some (record { first = first; last = last }) ≡ slice_get (kept n lo hi (leaf_hole x)) 0
    → Some (last + 1 - n) ≡ highest_in n (kept n lo hi (before ++ leaf_hole x))
later_some n lo hi before x first last is =
    last_one n (kept n lo hi before) (kept n lo hi (leaf_hole x)) (record { first = first; last = last }) (one_kept n lo hi x) is ∙ ap (highest_in n) (sym (kept-append n lo hi before (leaf_hole x)))

pub later_none : (n lo hi : ℕ) (before : List Hole) (x : Span) → None ≡ slice_get (kept n lo hi (leaf_hole x)) 0 → highest_in n (kept n lo hi before) ≡ highest_in n (kept n lo hi (before ++ leaf_hole x))
later_none n lo hi before x is = no_more n (kept n lo hi before) (kept n lo hi (leaf_hole x)) is ∙ ap (highest_in n) (sym (kept-append n lo hi before (leaf_hole x)))

-- ---- rows side by side

pub narrow_stops : (n lo hi : ℕ) (xs ys : List Child) → has_sure n lo hi xs ≡ true → narrow n lo hi (xs ++ ys) ≡ narrow n lo hi xs
narrow_stops n lo hi [] ys sure = absurd (cc)
narrow_stops n lo hi (x ∷ xs) ys sure = elim (cases_Bool (may_have n lo hi x)) [
  | inl may ↦ elim (cases_Bool (inside lo hi x)) [
    | inl in_it ↦ rw (may, in_it) refl
    | inr over ↦ rw (may, over) (ap (λ (l : List Child). x ∷ l) (narrow_stops n lo hi xs ys (let rest : has_sure n lo hi xs ≡ true = (rw (← sure, may, over) refl) in rest)))
  ]
  | inr not ↦ rw not (narrow_stops n lo hi xs ys (let rest : has_sure n lo hi xs ≡ true = (rw (← sure, not) refl) in rest))
]

pub narrow_goes_on : (n lo hi : ℕ) (xs ys : List Child) → has_sure n lo hi xs ≡ false → narrow n lo hi (xs ++ ys) ≡ narrow n lo hi xs ++ narrow n lo hi ys
narrow_goes_on n lo hi [] ys sure = refl
narrow_goes_on n lo hi (x ∷ xs) ys sure = elim (cases_Bool (may_have n lo hi x)) [
  | inl may ↦ elim (cases_Bool (inside lo hi x)) [
    | inl in_it ↦ absurd (let no : true ≡ false = (rw (← sure, may, in_it) refl) in cc)
    | inr over ↦ rw (may, over) (ap (λ (l : List Child). x ∷ l) (narrow_goes_on n lo hi xs ys (let rest : has_sure n lo hi xs ≡ false = (rw (← sure, may, over) refl) in rest)))
  ]
  | inr not ↦ rw not (narrow_goes_on n lo hi xs ys (let rest : has_sure n lo hi xs ≡ false = (rw (← sure, not) refl) in rest))
]
