-- The holes of the map below rows are what stands as 0 in their leaves: no hole reaches over a leaf's end.
use Rattle.mt_gap.proofs.Prelude.{◌≡◌, ◌≢◌, ℕ, zero, suc, ◌+◌, ◌-◌, ◌<◌, ◌≤◌, ◌==◌, List, [], ◌∷◌, ◌++◌, false, refl, sym, ap, ◌∙◌, subst, inl, inr, arith, append-nil, AllByRecursion, flat_map, cases_Bool, lt-ltb, le-ltb, eqb-true, Span, leaf_range, Fills, Apart, spans_in, Table, expand, map_of, Levels, Tree, IsRow, top_of, fills_le, expand_fills, rows_filled, hole_between, holes_from, holes_to, Hole, leaf_hole, apart-append}

-- the holes below rows of a height; leaves have the height 0
abbrev pub holes_below : Table → ℕ → List Span → List Hole
holes_below t zero xs = flat_map leaf_hole (expand t xs)
holes_below t (suc h) xs = holes_below t h (expand t xs)

hole_here : (lo hi : ℕ) → lo < hi → hole_between lo hi ≡ record { first = lo; last = hi - 1 } ∷ []
hole_here lo hi lt = rw (lt-ltb lo hi lt) refl

no_hole : (lo : ℕ) → hole_between lo lo ≡ []
no_hole lo = rw (le-ltb lo lo (omega arith)) refl

-- a leaf span of no entry is the hole from where it begins to where the next begins
as_hole : (lo next : ℕ) (x : Span) → x.first ≡ lo → lo ≤ x.last → next ≡ x.last + 1 → hole_between lo next ≡ record { first = x.first; last = x.last } ∷ []
as_hole lo next x begins ends behind =
    let last : next - 1 ≡ x.last = omega arith in
    hole_here lo next (omega arith) ∙ (λ i. record { first = sym begins i; last = last i } ∷ [])

-- where nothing is held all indexes are one hole
pub one_hole : (top : ℕ) → holes_to top [] ≡ record { first = 0; last = top } ∷ []
one_hole top = as_hole 0 (top + 1) (record { first = 0; last = top; word = 0 }) refl (omega arith) refl

pub holes_of_spans : (lo hi : ℕ) (xs : List Span) → Fills lo hi xs → Apart xs → holes_from lo hi (flat_map leaf_range xs) ≡ flat_map leaf_hole xs
holes_of_spans lo hi [] fills apart = ap (hole_between lo) (sym fills) ∙ no_hole lo
holes_of_spans lo hi (x ∷ []) fills apart = elim (cases_Bool (x.word == 0)) [
  | inl hole ↦ rw hole (as_hole lo hi x fills.0 fills.1 (sym fills.2))
  | inr entry ↦ rw entry (
      (λ i. hole_between lo (fills.0 i) ++ hole_between (x.last + 1) (sym fills.2 i))
      ∙ (λ i. no_hole lo i ++ no_hole (x.last + 1) i))
]
holes_of_spans lo hi (x ∷ y ∷ ys) fills apart = elim (cases_Bool (x.word == 0)) [
  | inl hole ↦
      let full = eqb-other y.word (apart.0 (eqb-true x.word 0 hole)) in
      rw (hole, full) (
      (λ i. as_hole lo y.first x fills.0 fills.1 fills.2.0 i ++ holes_of_spans (y.last + 1) hi ys fills.2.2 apart.1.1 i))
  | inr entry ↦
      rw entry (
      (λ i. (ap (hole_between lo) fills.0 ∙ no_hole lo) i ++ holes_of_spans (x.last + 1) hi (y ∷ ys) fills.2 apart.1 i))
]
  where
    eqb-other : (w : ℕ) → w ≢ 0 → (w == 0) ≡ false
    eqb-other w other = elim (cases_Bool (w == 0)) [ inl same ↦ absurd (other (eqb-true w 0 same)) | inr differs ↦ differs ]

-- ---- no two holes follow each other, over the ends of leaves too

pub leaves_apart : (t : Tree) (lo : ℕ) (xs : List Span) → AllByRecursion (IsRow t zero) xs → Fills lo (top_of t + 1) xs → Apart (expand t.table xs)
leaves_apart t lo [] rows fills = tt
leaves_apart t lo (x ∷ []) rows fills = subst Apart (sym (append-nil (spans_in t.table x))) rows.0.holes.apart
leaves_apart t lo (x ∷ y ∷ ys) rows fills =
    let next = fills.2.1 in
    let end = fills_le (y.last + 1) (top_of t + 1) ys fills.2.2 in
    apart-append (spans_in t.table x) (expand t.table (y ∷ ys)) rows.0.holes.apart (rows.0.holes.ends (omega arith)) (leaves_apart t (x.last + 1) (y ∷ ys) rows.1 fills.2)

-- ---- the holes of the map below rows that end at the greatest index

pub holes_are : (t : Tree) (h lo : ℕ) (xs : List Span) → Levels (IsRow t) t.table h xs → Fills lo (top_of t + 1) xs → holes_from lo (top_of t + 1) (map_of t.table h xs) ≡ holes_below t.table h xs
holes_are t zero lo xs rows fills =
    holes_of_spans lo (top_of t + 1) (expand t.table xs) (expand_fills t.table lo (top_of t + 1) xs (rows_filled t zero xs rows) fills) (leaves_apart t lo xs rows fills)
holes_are t (suc h) lo xs rows fills = holes_are t h lo (expand t.table xs) rows.1 (expand_fills t.table lo (top_of t + 1) xs (rows_filled t (suc h) xs rows.0) fills)
