-- How many rows a level of so many rows has above it, and how many words what is built has.
use Rattle.mt_bulk.proofs.Prelude.{◌≡◌, ℕ, zero, suc, ◌+◌, ◌-◌, ◌*◌, ◌<◌, ◌≤◌, ◌==◌, Bool, true, false, List, [], ◌∷◌, length, drop, nat_lt, ne_eqb, refl, sym, ap, ◌∙◌, inl, inr, arith, length-append, length-drop, div_ceil, AllByRecursion, flat_map, cases_Bool, cond_both, ltb-true, ltb-false, eqb-true, eqb-false, Kind, Width, Long, Short, finds_room, columns, kind_width, Item, RowKind, row_words, slots_of, gaps_of, spans_from, Apart, layout_of, some_least, least-below-slots, length-row_words, kind_at, inner_of, Built, built_up, inner_slots, rows_up, size_in, words_of, cut, inner_count, inner_size}
use Rattle.mt_bulk.proofs.Built.{above_of, built_more, both_words, built_top, length_parents, level_cut, more_words, no_words, parents_of, rows_of, upper, Most}
use Rattle.mt_bulk.proofs.Ends.{inner_within, next_inner_row, none_behind_cut}
use Rattle.mt_bulk.proofs.Rows.{length_heads}

-- ---- the rows that so many items are cut into

-- one row, and the rows of what is behind it
abbrev IsStep : ℕ → ℕ → ℕ → Type 0
IsStep most n s = div_ceil n most ≡ 1 + div_ceil (n - s) most

one_step : (width : Width) (gapped : Bool) (n : ℕ) → 1 ≤ n → IsStep (inner_slots width gapped) n (inner_count (inner_slots width gapped) n)
one_step Long false n some = cond_both (nat_lt 32 n) _ _ (IsStep 16 n) (λ far. omega (arith, ltb-true 32 n far))
    (λ near. cond_both (nat_lt 16 n) _ _ (IsStep 16 n) (λ two. omega (arith, ltb-false 32 n near, ltb-true 16 n two)) (λ one. omega (arith, ltb-false 16 n one)))
one_step Long true n some = cond_both (nat_lt 20 n) _ _ (IsStep 10 n) (λ far. omega (arith, ltb-true 20 n far))
    (λ near. cond_both (nat_lt 10 n) _ _ (IsStep 10 n) (λ two. omega (arith, ltb-false 20 n near, ltb-true 10 n two)) (λ one. omega (arith, ltb-false 10 n one)))
one_step Short false n some = cond_both (nat_lt 64 n) _ _ (IsStep 32 n) (λ far. omega (arith, ltb-true 64 n far))
    (λ near. cond_both (nat_lt 32 n) _ _ (IsStep 32 n) (λ two. omega (arith, ltb-false 64 n near, ltb-true 32 n two)) (λ one. omega (arith, ltb-false 32 n one)))
one_step Short true n some = cond_both (nat_lt 42 n) _ _ (IsStep 21 n) (λ far. omega (arith, ltb-true 42 n far))
    (λ near. cond_both (nat_lt 21 n) _ _ (IsStep 21 n) (λ two. omega (arith, ltb-false 42 n near, ltb-true 21 n two)) (λ one. omega (arith, ltb-false 21 n one)))

-- half of them at the most, where they are two or more
pub half_at_most : (width : Width) (gapped : Bool) (n : ℕ) → 2 ≤ n → 2 * div_ceil n (inner_slots width gapped) ≤ n
half_at_most Long false n two = omega arith
half_at_most Long true n two = omega arith
half_at_most Short false n two = omega arith
half_at_most Short true n two = omega arith

pub some_rows : (width : Width) (gapped : Bool) (n : ℕ) → 1 ≤ n → 1 ≤ div_ceil n (inner_slots width gapped)
some_rows width gapped n some = omega (arith, one_step width gapped n some)

pub two_slots : (width : Width) (gapped : Bool) → 2 ≤ inner_slots width gapped
two_slots width gapped = omega (arith, some_least width (inner_of gapped), least-below-slots width (inner_of gapped))

no_rows : (width : Width) (gapped : Bool) → div_ceil 0 (inner_slots width gapped) ≡ 0
no_rows Long false = refl
no_rows Long true = refl
no_rows Short false = refl
no_rows Short true = refl

length_cut_by : (width : Width) (gapped : Bool) (left : ℕ) (items : List Item) (at : ℕ) → length items ≤ at + left → length (cut (inner_size (inner_slots width gapped)) (drop at items)) ≡ div_ceil (length items - at) (inner_slots width gapped)
length_cut_by width gapped zero items at low =
    let none : length items - at ≡ 0 = omega arith in
    ap length (none_behind_cut (inner_size (inner_slots width gapped)) items at (omega arith)) ∙ (sym (no_rows width gapped) ∙ ap (λ (n : ℕ). div_ceil n (inner_slots width gapped)) (sym none))
length_cut_by width gapped (suc left) items at low = elim (cases_Bool (nat_lt at (length items))) [
  | inl within ↦
      let most = inner_slots width gapped in
      let inside = ltb-true at (length items) within in
      let long = length-drop at items in
      let s = inner_size most (drop at items) in
      let moved = inner_within most (two_slots width gapped) items at inside in
      let onward = moved.0 in
      let behind = length_cut_by width gapped left items (at + s) (omega arith) in
      let step = one_step width gapped (length items - at) (omega arith) in
      let same : s ≡ inner_count most (length items - at) = ap (inner_count most) long in
      let place : length items - at - inner_count most (length items - at) ≡ length items - (at + s) = omega arith in
      let one = ap length (next_inner_row most (two_slots width gapped) items at inside) in
      let all : div_ceil (length items - at) most ≡ 1 + div_ceil (length items - (at + s)) most = step ∙ ap (λ (n : ℕ). 1 + div_ceil n most) place in
      omega (arith, one, behind, all)
  | inr past ↦
      let low = ltb-false at (length items) past in
      let none : length items - at ≡ 0 = omega arith in
      ap length (none_behind_cut (inner_size (inner_slots width gapped)) items at low) ∙ (sym (no_rows width gapped) ∙ ap (λ (n : ℕ). div_ceil n (inner_slots width gapped)) (sym none))
]

pub length_cut : (width : Width) (gapped : Bool) (items : List Item) → length (cut (inner_size (inner_slots width gapped)) items) ≡ div_ceil (length items) (inner_slots width gapped)
length_cut width gapped items = let all : length items - 0 ≡ length items = omega arith in length_cut_by width gapped (length items) items 0 (omega arith) ∙ ap (λ (n : ℕ). div_ceil n (inner_slots width gapped)) all

-- ---- the rows of a level and of those above it

pub rows_up_top : (width : Width) (gapped : Bool) (left : ℕ) → 1 ≤ left → rows_up width gapped left 1 ≡ 1
rows_up_top width gapped zero some = absurd (omega arith)
rows_up_top width gapped (suc left) some = refl

pub rows_up_more : (width : Width) (gapped : Bool) (left rows : ℕ) → 2 ≤ rows → rows_up width gapped (suc left) rows ≡ rows + rows_up width gapped left (div_ceil rows (inner_slots width gapped))
rows_up_more width gapped left rows two = rw (ne_eqb rows 1 (λ is. absurd (omega arith))) refl

-- the words of rows, where there is a parent word for each
pub length_words_few : (width : Width) (kind : RowKind) (parents : List ℕ) (rows : List (List Item)) → length parents ≡ length rows → AllByRecursion (λ row. length row ≤ slots_of width kind) rows → length (words_of width kind parents rows) ≡ columns width * length rows
length_words_few width kind [] [] same few = no_words width
length_words_few width kind [] (row ∷ rows) same few = absurd (omega arith)
length_words_few width kind (parent ∷ parents) [] same few = absurd (omega arith)
length_words_few width kind (parent ∷ parents) (row ∷ rows) same few =
    let here = row_words (columns width) (slots_of width kind) (gaps_of width kind) parent row in
    omega (arith, length-append here (words_of width kind parents rows), length-row_words (columns width) (slots_of width kind) (gaps_of width kind) parent row (layout_of width kind) few.0, length_words_few width kind parents rows (omega arith) few.1, more_words width (length rows))

-- ---- a level of several rows has fewer rows than items

pub rows_fewer : (tree : Kind) (h : ℕ) (items : List Item) → 1 ≤ length items → (h ≡ 0 → Apart (spans_from 0 items)) → (length (rows_of tree h items) == 1) ≡ false → (2 ≤ length (rows_of tree h items)) × (length (rows_of tree h items) < length items)
rows_fewer tree h items some apart more =
    let c = level_cut tree h items apart in
    let rows = rows_of tree h items in
    let not_one = eqb-false (length rows) 1 more in
    let there = some_rows_cut rows items c.joined some in
    let few_items = one_where_few rows items (Most tree h) c.one some not_one in
    (two_of (length rows) there not_one, c.fewer (omega (arith, few_items, some_least (kind_width tree) (kind_at tree h), least-below-slots (kind_width tree) (kind_at tree h))))
  where
    two_of : (n : ℕ) → 1 ≤ n → (n ≡ 1 → ⊥) → 2 ≤ n
    two_of n some other = elim (cases_Bool (nat_lt 1 n)) [ inl far ↦ omega (arith, ltb-true 1 n far) | inr near ↦ absurd (let low = ltb-false 1 n near in other (omega arith)) ]

    some_rows_cut : (rows : List (List Item)) (items : List Item) → flat_map (λ row. row) rows ≡ items → 1 ≤ length items → 1 ≤ length rows
    some_rows_cut [] items joined some = let none = ap length joined in absurd (omega arith)
    some_rows_cut (row ∷ rows) items joined some = omega arith

    one_where_few : (rows : List (List Item)) (items : List Item) (most : ℕ) → (1 ≤ length items → length items ≤ most → rows ≡ items ∷ []) → 1 ≤ length items → (length rows ≡ 1 → ⊥) → most < length items
    one_where_few rows items most one some other = elim (cases_Bool (nat_lt most (length items))) [ inl long ↦ ltb-true most (length items) long | inr short ↦ absurd (other (ap length (one some (ltb-false most (length items) short)))) ]

-- ---- the words of what is built

pub length_built : (tree : Kind) (left h number : ℕ) (items : List Item) → length items ≤ left → 1 ≤ length items → (h ≡ 0 → Apart (spans_from 0 items))
    → length (built_up tree left (kind_at tree h) number items).words ≡ columns (kind_width tree) * rows_up (kind_width tree) (finds_room tree) left (length (rows_of tree h items))
length_built tree zero h number items room some apart = absurd (omega arith)
length_built tree (suc left) h number items room some apart =
    let width = kind_width tree in
    let gapped = finds_room tree in
    let c = level_cut tree h items apart in
    let rows = rows_of tree h items in
    elim (cases_Bool (length rows == 1)) [
      | inl one ↦
          let is = eqb-true (length rows) 1 one in
          ap (λ (b : Built). length b.words) (built_top tree left h number items one)
          ∙ (length_words_few width (kind_at tree h) (1 ∷ []) rows (sym is) c.few
          ∙ ap (λ (n : ℕ). columns width * n) (is ∙ sym (ap (rows_up width gapped (suc left)) is)))
      | inr more ↦
          let fewer = rows_fewer tree h items some apart more in
          let two = fewer.0 in
          let less = fewer.1 in
          let above = above_of tree h number items in
          let as_many = length_heads gapped (kind_at tree h) 0 number rows in
          let upper_cut = level_cut tree (suc h) above (λ is_zero. absurd (omega arith)) in
          let same : length (parents_of tree h number items) ≡ length rows = length_parents (number + length rows) (rows_of tree (suc h) above) ∙ (ap length upper_cut.joined ∙ as_many) in
          let behind = length_built tree left (suc h) (number + length rows) above (omega arith) (omega arith) (λ is_zero. absurd (omega arith)) in
          let cut_above : length (rows_of tree (suc h) above) ≡ div_ceil (length rows) (inner_slots width gapped) = length_inner_rows width gapped above ∙ ap (λ (n : ℕ). div_ceil n (inner_slots width gapped)) as_many in
          let mine = words_of width (kind_at tree h) (parents_of tree h number items) rows in
          ap (λ (b : Built). length b.words) (built_more tree left h number items more)
          ∙ (length-append mine (upper tree left h number items).words
          ∙ ((λ i. length_words_few width (kind_at tree h) (parents_of tree h number items) rows same c.few i + (behind ∙ ap (λ (n : ℕ). columns width * rows_up width gapped left n) cut_above) i)
          ∙ (both_words width (length rows) (rows_up width gapped left (div_ceil (length rows) (inner_slots width gapped)))
          ∙ ap (λ (n : ℕ). columns width * n) (sym (rows_up_more width gapped left (length rows) two)))))
    ]
  where
    length_inner_rows : (width : Width) (gapped : Bool) (items : List Item) → length (cut (size_in width (inner_of gapped)) items) ≡ div_ceil (length items) (inner_slots width gapped)
    length_inner_rows width false items = length_cut width false items
    length_inner_rows width true items = length_cut width true items
