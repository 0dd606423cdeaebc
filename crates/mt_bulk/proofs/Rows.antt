-- The rows of a level, as they are cut and written, keep the laws of rows.
use Rattle.mt_bulk.proofs.Prelude.{◌≡◌, ◌≢◌, ℕ, zero, suc, ◌+◌, ◌<◌, ◌≤◌, Bool, false, List, [], ◌∷◌, ◌++◌, length, map, replicate, refl, sym, ap, ◌∙◌, subst, arith, append-nil, length-append, AllByRecursion, flat_map, cond_both, reserved, first_row, most_rows, all_front, all_back, Item, RowKind, Span, end_of, FitRow, NoGaps, RiseFrom, name_at, least_items, spans_from, leaf_range, Apart, EndsFull, apart_front, apart_back, ends_anywhere, length-spans_from, rise_from_zero, spans_from-append, two_hold_an_entry, Tree, IsRow, covers_all, kind_on, least_of, least_of_root, top_of, heads, AllButLast, EndsWithEntry}
use Rattle.mt_bulk.proofs.Facts.{AreFit, AreWritten, IsLeafOf, IsOfHeight}
use Rattle.mt_bulk.proofs.Lawful.{made_row}
use Rattle.mt_bulk.proofs.Written.{end_anyhow}

abbrev pub flat : List (List Item) → List Item
flat rows = flat_map (λ row. row) rows

-- ---- items one list after another

pub rise_front : (min : ℕ) (xs ys : List Item) → RiseFrom min (xs ++ ys) → RiseFrom min xs
rise_front min [] ys rise = tt
rise_front min (x ∷ xs) ys rise = (rise.0, rise_front (x.last + 1) xs ys rise.1)

pub rise_back : (min d : ℕ) (xs ys : List Item) → 1 ≤ length xs → RiseFrom min (xs ++ ys) → RiseFrom (end_of d xs + 1) ys
rise_back min d [] ys some rise = absurd (omega arith)
rise_back min d (x ∷ []) ys some rise = rise.1
rise_back min d (x ∷ y ∷ xs) ys some rise = rise_back (x.last + 1) x.last (y ∷ xs) ys (omega arith) rise.1

pub end-append : (d e : ℕ) (xs ys : List Item) → 1 ≤ length ys → end_of d (xs ++ ys) ≡ end_of e ys
end-append d e [] ys some = end_anyhow d e ys some
end-append d e (x ∷ xs) ys some = end-append x.last e xs ys some

pub rises_to : (min d : ℕ) (xs : List Item) → 1 ≤ length xs → RiseFrom min xs → min ≤ end_of d xs
rises_to min d [] some rise = absurd (omega arith)
rises_to min d (x ∷ []) some rise = rise.0
rises_to min d (x ∷ y ∷ xs) some rise = let low = rise.0 in let behind = rises_to (x.last + 1) x.last (y ∷ xs) (omega arith) rise.1 in omega arith

no_gaps_front : (xs ys : List Item) → NoGaps (xs ++ ys) → NoGaps xs
no_gaps_front [] ys none = refl
no_gaps_front (x ∷ xs) ys none =
    let first : x.gap ≡ 0 = cc in
    let others : map (λ (z : Item). z.gap) (xs ++ ys) ≡ replicate (length (xs ++ ys)) 0 = cc in
    let behind = no_gaps_front xs ys others in
    (λ i. first i ∷ behind i)

no_gaps_back : (xs ys : List Item) → NoGaps (xs ++ ys) → NoGaps ys
no_gaps_back [] ys none = none
no_gaps_back (x ∷ xs) ys none = let others : map (λ (z : Item). z.gap) (xs ++ ys) ≡ replicate (length (xs ++ ys)) 0 = cc in no_gaps_back xs ys others

-- ---- rows that fit

pub rows_fit : (slots gaps first : ℕ) (rows : List (List Item)) → AllByRecursion (λ row. 1 ≤ length row) rows → AllByRecursion (λ row. length row ≤ slots) rows → RiseFrom first (flat rows) → (gaps ≡ 0 → NoGaps (flat rows))
    → AllByRecursion (FitRow slots gaps) rows
rows_fit slots gaps first [] some few rise none = tt
rows_fit slots gaps first (row ∷ rows) some few rise none = (
  record { some = some.0; fit = few.0; rise = rise_from_zero first row (rise_front first row (flat rows) rise); no_gaps = λ g. no_gaps_front row (flat rows) (none g) },
  rows_fit slots gaps (end_of first row + 1) rows some.1 few.1 (rise_back first first row (flat rows) some.0 rise) (λ g. no_gaps_back row (flat rows) (none g)),
)

-- ---- heads

module _ (gapped : Bool) (kind : RowKind) where
  pub length_heads : (first number : ℕ) (rows : List (List Item)) → length (heads gapped kind first number rows) ≡ length rows
  length_heads first number [] = refl
  length_heads first number (row ∷ rows) = ap suc (length_heads (end_of first row + 1) (number + 1) rows)

  pub heads_rise : (first number : ℕ) (rows : List (List Item)) → AllByRecursion (λ row. 1 ≤ length row) rows → RiseFrom first (flat rows) → RiseFrom first (heads gapped kind first number rows)
  heads_rise first number [] some rise = tt
  heads_rise first number (row ∷ rows) some rise = (
    rises_to first first row some.0 (rise_front first row (flat rows) rise),
    heads_rise (end_of first row + 1) (number + 1) rows some.1 (rise_back first first row (flat rows) some.0 rise),
  )

  -- they end where the items do
  pub heads_end : (d e first number : ℕ) (rows : List (List Item)) → 1 ≤ length rows → AllByRecursion (λ row. 1 ≤ length row) rows → end_of d (heads gapped kind first number rows) ≡ end_of e (flat rows)
  heads_end d e first number [] some each = absurd (omega arith)
  heads_end d e first number (row ∷ []) some each = end_anyhow first e row each.0 ∙ sym (ap (end_of e) (append-nil row))
  heads_end d e first number (row ∷ next ∷ rows) some each =
      let more : 1 ≤ length (flat (next ∷ rows)) = (let own = each.1.0 in omega (arith, length-append next (flat rows))) in
      heads_end (end_of first row) e (end_of first row + 1) (number + 1) (next ∷ rows) (omega arith) each.1 ∙ sym (end-append e e row (flat (next ∷ rows)) more)

pub no_gaps_told : (kind : RowKind) (first number : ℕ) (rows : List (List Item)) → NoGaps (heads false kind first number rows)
no_gaps_told kind first number [] = refl
no_gaps_told kind first number (row ∷ rows) = ap (λ (l : List ℕ). 0 ∷ l) (no_gaps_told kind (end_of first row + 1) (number + 1) rows)

-- ---- what is asked of rows by their height

abbrev pub Heights : Tree → ℕ → ℕ → List (List Item) → Type 0
Heights t h first [] = Unit {0}
Heights t h first (row ∷ rows) = IsOfHeight t h first row × Heights t h (end_of first row + 1) rows

pub inner_heights : (t : Tree) (h first : ℕ) (rows : List (List Item)) → Heights t (suc h) first rows
inner_heights t h first [] = tt
inner_heights t h first (row ∷ rows) = (tt, inner_heights t h (end_of first row + 1) rows)

entries_in : (first : ℕ) (row : List Item) → AllByRecursion (λ x. reserved x.word ≡ false) row → AllByRecursion (λ (y : Span). reserved y.word ≡ false) (spans_from first row)
entries_in first [] each = tt
entries_in first (x ∷ row) each = (each.0, entries_in (x.last + 1) row each.1)

pub leaf_of : (t : Tree) (first : ℕ) (row : List Item) → AllByRecursion (λ x. reserved x.word ≡ false) row → Apart (spans_from first row) → (end_of first row < top_of t → EndsFull (spans_from first row)) → flat_map leaf_range (spans_from first row) ≢ []
    → IsLeafOf t first row
leaf_of t first row entries apart ends some = record { entries = entries_in first row entries; apart = apart; ends = ends; some = some }

pub leaf_heights : (t : Tree) (first : ℕ) (rows : List (List Item)) → AllByRecursion (λ row. 2 ≤ length row) rows → AllByRecursion (λ x. reserved x.word ≡ false) (flat rows) → Apart (spans_from first (flat rows))
    → AllButLast EndsWithEntry rows → (1 ≤ length rows → top_of t ≤ end_of 0 (flat rows)) → Heights t zero first rows
leaf_heights t first [] two entries apart ends top = tt
leaf_heights t first (row ∷ rows) two entries apart ends top =
    let some : 1 ≤ length row = (let both = two.0 in omega arith) in
    let parts = subst Apart (spans_from-append first row (flat rows) some) apart in
    let own = apart_front (spans_from first row) (spans_from (end_of 0 row + 1) (flat rows)) parts in
    let behind = subst (λ (n : ℕ). Apart (spans_from (n + 1) (flat rows))) (end_anyhow 0 first row some) (apart_back (spans_from first row) (spans_from (end_of 0 row + 1) (flat rows)) parts) in (
      leaf_of t first row (all_front (λ (x : Item). reserved x.word ≡ false) row (flat rows) entries) own (last_full rows ends top)
          (two_hold_an_entry (spans_from first row) own (let both = two.0 in omega (arith, length-spans_from first row))),
      leaf_heights t (end_of first row + 1) rows two.1 (all_back (λ (x : Item). reserved x.word ≡ false) row (flat rows) entries) behind (others rows ends) (below rows two.1 top),
    )
  where
    others : (rows : List (List Item)) → AllButLast EndsWithEntry (row ∷ rows) → AllButLast EndsWithEntry rows
    others [] ends = tt
    others (next ∷ rows) ends = ends.1

    last_full : (rows : List (List Item)) → AllButLast EndsWithEntry (row ∷ rows) → (1 ≤ suc (length rows) → top_of t ≤ end_of 0 (row ++ flat rows)) → end_of first row < top_of t → EndsFull (spans_from first row)
    last_full [] ends top low =
        let some : 1 ≤ length row = (let both = two.0 in omega arith) in
        let high = top (omega arith) in
        let whole = ap (end_of 0) (append-nil row) in
        let same = end_anyhow 0 first row some in
        absurd (omega arith)
    last_full (next ∷ rows) ends top low = ends_anywhere 0 first row ends.0

    below : (rows : List (List Item)) → AllByRecursion (λ row. 2 ≤ length row) rows → (1 ≤ suc (length rows) → top_of t ≤ end_of 0 (row ++ flat rows)) → 1 ≤ length rows → top_of t ≤ end_of 0 (flat rows)
    below [] two top some = absurd (omega arith)
    below (next ∷ rows) two top some =
        let more : 1 ≤ length (flat (next ∷ rows)) = (let own = two.0 in omega (arith, length-append next (flat rows))) in
        let high = top (omega arith) in
        let same = end-append 0 0 row (flat (next ∷ rows)) more in
        omega arith

-- ---- the rows of a level

root_least : (h : ℕ) → least_of_root h ≤ 2
root_least zero = omega arith
root_least (suc h) = omega arith

pub least_enough : (t : Tree) (h : ℕ) (x : Span) (n : ℕ) → 2 ≤ n → least_items t.table.width (kind_on t.gapped h) ≤ n → least_of t h x ≤ n
least_enough t h x n two many = cond_both (covers_all t x) _ _ (λ (l : ℕ). l ≤ n) (λ all. let few = root_least h in omega arith) (λ some. many)

abbrev pub Many : Tree → ℕ → List Item → Type 0
Many t h row = (2 ≤ length row) × (least_items t.table.width (kind_on t.gapped h) ≤ length row)

pub rows_made : (t : Tree) (h first number : ℕ) (rows : List (List Item)) → AreWritten t.table (kind_on t.gapped h) number rows → AreFit t.table (kind_on t.gapped h) rows → RiseFrom first (flat rows)
    → first_row ≤ number → number + length rows ≤ first_row + t.rows → t.rows ≤ most_rows → AllByRecursion (Many t h) rows → Heights t h first rows
    → AllByRecursion (IsRow t h) (spans_from first (heads t.gapped (kind_on t.gapped h) first number rows))
rows_made t h first number [] written fit rise low high few many heights = tt
rows_made t h first number (row ∷ rows) written fit rise low high few many heights = (
  made_row t h first number written.0.0 row written.0.1 fit.0 (rise_front first row (flat rows) rise) (omega arith, omega arith) (omega arith)
      (least_enough t h (record { first = first; last = end_of first row; word = name_at number (kind_on t.gapped h) }) (length row) many.0.0 many.0.1) heights.0,
  rows_made t h (end_of first row + 1) (number + 1) rows written.1 fit.1 (rise_back first first row (flat rows) fit.0.some rise) (omega arith) (omega arith) few many.1 heights.1,
)
