-- What is built up of items is a tree that stands for them.
use Rattle.mt_bulk.proofs.Prelude.{◌≡◌, ◌≢◌, ℕ, zero, suc, ◌+◌, ◌*◌, ◌<◌, ◌≤◌, ◌==◌, Bool, true, false, List, [], ◌∷◌, ◌++◌, length, map, refl, sym, ap, ◌∙◌, subst, inl, inr, arith, append-nil, append_assoc, length-append, eq-eqb, if◌then◌else◌, AllByRecursion, flat_map, range_with_len, cases_Bool, cases_lt, eqb-true, eqb-false, length-map, length-range_with_len, Kind, Width, Long, Short, finds_room, Range, reserved, columns, first_row, most_rows, greatest, kind_width, Item, RowKind, Span, end_of, row_words, FitRow, NoGaps, RiseFrom, name_at, parent_at, slots_of, gaps_of, least_items, spans_from, leaf_range, Apart, layout_of, least-below-slots, some_gaps_of, some_least, length-row_words, Table, inner_kind, inner_of, Levels, map_of, row_in-name_at, Tree, IsRow, IsTended, covers_all, kind_at, kind_on, least_of, least_of_root, Built, built_up, heads, parents_in, size_in, words_of, AllButLast, AreCut, EndsAnyhow, EndsWithEntry, cut}
use Rattle.mt_layout.specs.declared.names.RowKind.TheVariants as kinds
use Rattle.mt_layout.specs.Rows as names
use Rattle.mt_rows.specs.Spans as spans
use Rattle.mt_bulk.proofs.Facts.{AreFit, AreWritten, CanBeNamed, IsOfHeight}
use Rattle.mt_bulk.proofs.Lawful.{made_row}
use Rattle.mt_bulk.proofs.Placed.{are_written}
use Rattle.mt_bulk.proofs.Rows.{flat, Heights, heads_end, heads_rise, inner_heights, leaf_heights, leaf_of, length_heads, no_gaps_told, rows_fit, rows_made}
use Rattle.mt_bulk.proofs.Sizes.{inner_cut, leaves_cut}
use Rattle.mt_bulk.proofs.Tended.{AreNamed, AreTold, HaveParents, have_parents, heads_named}
use Rattle.mt_bulk.proofs.TendedRows.{AreToldBelow, heads_told, leaves_tended, rows_tended}
use Rattle.mt_bulk.proofs.Written.{levels_on, map_on, map_of_leaves}

-- ---- how a level is cut

abbrev pub EndsOf : ℕ → List Item → Type 0
EndsOf zero = EndsWithEntry
EndsOf (suc h) = EndsAnyhow

-- what is asked of the items of leaves
pub record AreOfLeaves (items : List Item) : Type 0 where
  pub entries : AllByRecursion (λ x. reserved x.word ≡ false) items
  pub apart : Apart (spans_from 0 items)
  pub some : flat_map leaf_range (spans_from 0 items) ≢ []

abbrev pub Least : Kind → ℕ → ℕ
Least tree h = least_items (kind_width tree) (kind_at tree h)

abbrev pub Most : Kind → ℕ → ℕ
Most tree h = slots_of (kind_width tree) (kind_at tree h)

abbrev pub rows_of : Kind → ℕ → List Item → List (List Item)
rows_of tree h items = cut (size_in (kind_width tree) (kind_at tree h)) items

inner_level : (width : Width) (gapped : Bool) (items : List Item) → AreCut (least_items width (inner_of gapped)) (slots_of width (inner_of gapped)) EndsAnyhow items (cut (size_in width (inner_of gapped)) items)
inner_level width false items = inner_cut (least_items width kinds.Inner) (slots_of width kinds.Inner) (some_least width kinds.Inner) (omega (arith, least-below-slots width kinds.Inner)) items
inner_level width true items = inner_cut (least_items width kinds.Gapped) (slots_of width kinds.Gapped) (some_least width kinds.Gapped) (omega (arith, least-below-slots width kinds.Gapped)) items

pub level_cut : (tree : Kind) (h : ℕ) (items : List Item) → (h ≡ 0 → Apart (spans_from 0 items)) → AreCut (Least tree h) (Most tree h) (EndsOf h) items (rows_of tree h items)
level_cut tree zero items apart = leaves_cut (least_items (kind_width tree) kinds.Leaf) (slots_of (kind_width tree) kinds.Leaf) (some_least (kind_width tree) kinds.Leaf) (least-below-slots (kind_width tree) kinds.Leaf) items (apart refl)
level_cut tree (suc h) items apart = inner_level (kind_width tree) (finds_room tree) items

least_two : (tree : Kind) (h : ℕ) → (2 ≤ Least tree h) × (Least tree h ≤ Most tree h)
least_two tree h = (some_least (kind_width tree) (kind_at tree h), omega (arith, least-below-slots (kind_width tree) (kind_at tree h)))

-- in trees with gaps heads tell the longest holes
heads_tell : (gapped : Bool) (t : Table) (h number : ℕ) (rows : List (List Item)) → AreWritten t (kind_on gapped h) number rows → AreFit t (kind_on gapped h) rows → CanBeNamed number (length rows) → (inner_of gapped ≡ kinds.Gapped → AreToldBelow t h 0 (flat rows))
    → inner_of gapped ≡ kinds.Gapped → AreTold t h 0 (heads gapped (kind_on gapped h) 0 number rows)
heads_tell false t h number rows written fit named told is = absurd (let no : kinds.Inner ≡ kinds.Gapped = is in cc)
heads_tell true t h number rows written fit named told is = heads_told t h 0 number rows written fit named.first named.last (told is)

-- where no gap is told in rows of this height
pub no_gap_heads : (width : Width) (gapped : Bool) (kind : RowKind) (first number : ℕ) (rows : List (List Item)) → gaps_of width (inner_of gapped) ≡ 0 → NoGaps (heads gapped kind first number rows)
no_gap_heads width false kind first number rows none = no_gaps_told kind first number rows
no_gap_heads width true kind first number rows none = absurd (some_gaps_of width none)

-- ---- rows

pub one_row : (rows : List (List Item)) (items : List Item) → length rows ≡ 1 → flat rows ≡ items → rows ≡ items ∷ []
one_row [] items one joined = absurd (omega arith)
one_row (row ∷ []) items one joined = let same = sym (append-nil row) ∙ joined in ap (λ (l : List Item). l ∷ []) same
one_row (row ∷ next ∷ rows) items one joined = absurd (omega arith)

pub length_parents : (number : ℕ) (rows : List (List Item)) → length (parents_in number rows) ≡ length (flat rows)
length_parents number [] = refl
length_parents number (row ∷ rows) =
    omega (arith, length-append (map (parent_at number) (range_with_len 0 (length row))) (parents_in (number + 1) rows), length-map (range_with_len 0 (length row)) (parent_at number), length-range_with_len 0 (length row), length_parents (number + 1) rows, length-append row (flat rows))

pub more_words : (width : Width) (n : ℕ) → columns width + columns width * n ≡ columns width * (suc n)
more_words Long n = omega arith
more_words Short n = omega arith

pub no_words : (width : Width) → 0 ≡ columns width * 0
no_words Long = refl
no_words Short = refl

pub rows_within : (width : Width) (a b : ℕ) → columns width * a ≤ columns width * b → a ≤ b
rows_within Long a b within = omega arith
rows_within Short a b within = omega arith

pub both_words : (width : Width) (a b : ℕ) → columns width * a + columns width * b ≡ columns width * (a + b)
both_words Long a b = omega arith
both_words Short a b = omega arith

pub length_words : (width : Width) (kind : RowKind) (parents : List ℕ) (rows : List (List Item)) → length parents ≡ length rows → AllByRecursion (FitRow (slots_of width kind) (gaps_of width kind)) rows
    → length (words_of width kind parents rows) ≡ columns width * length rows
length_words width kind [] [] same fit = no_words width
length_words width kind [] (row ∷ rows) same fit = absurd (omega arith)
length_words width kind (parent ∷ parents) [] same fit = absurd (omega arith)
length_words width kind (parent ∷ parents) (row ∷ rows) same fit =
    let here = row_words (columns width) (slots_of width kind) (gaps_of width kind) parent row in
    omega (arith, length-append here (words_of width kind parents rows), length-row_words (columns width) (slots_of width kind) (gaps_of width kind) parent row (layout_of width kind) fit.0.fit, length_words width kind parents rows (omega arith) fit.1, more_words width (length rows))

many_rows : (least : ℕ) (rows : List (List Item)) → 2 ≤ least → AllByRecursion (λ row. least ≤ length row) rows → AllByRecursion (λ row. (2 ≤ length row) × (least ≤ length row)) rows
many_rows least [] two many = tt
many_rows least (row ∷ rows) two many = ((let own = many.0 in omega arith, many.0), many_rows least rows two many.1)

both_two : (least : ℕ) (rows : List (List Item)) → AllByRecursion (λ row. (2 ≤ length row) × (least ≤ length row)) rows → AllByRecursion (λ row. 2 ≤ length row) rows
both_two least [] each = tt
both_two least (row ∷ rows) each = (each.0.0, both_two least rows each.1)

-- ---- one level

module _ (tree : Kind) where
  abbrev pub next_of : ℕ → ℕ → List Item → ℕ
  next_of h number items = number + length (rows_of tree h items)

  abbrev pub above_of : ℕ → ℕ → List Item → List Item
  above_of h number items = heads (finds_room tree) (kind_at tree h) 0 number (rows_of tree h items)

  abbrev pub parents_of : ℕ → ℕ → List Item → List ℕ
  parents_of h number items = parents_in (next_of h number items) (rows_of tree (suc h) (above_of h number items))

  abbrev pub level_words : ℕ → ℕ → List Item → List ℕ
  level_words h number items = words_of (kind_width tree) (kind_at tree h) (parents_of h number items) (rows_of tree h items)

  abbrev pub upper : ℕ → ℕ → ℕ → List Item → Built
  upper left h number items = built_up tree left (kind_at tree (suc h)) (next_of h number items) (above_of h number items)

  pub built_top : (left h number : ℕ) (items : List Item) → (length (rows_of tree h items) == 1) ≡ true
      → built_up tree (suc left) (kind_at tree h) number items ≡ record { root = name_at number (kind_at tree h); words = words_of (kind_width tree) (kind_at tree h) (1 ∷ []) (rows_of tree h items) }
  unfolding built_up
  built_top left h number items one = rw one refl

  pub built_more : (left h number : ℕ) (items : List Item) → (length (rows_of tree h items) == 1) ≡ false
      → built_up tree (suc left) (kind_at tree h) number items ≡ record { root = (upper left h number items).root; words = level_words h number items ++ (upper left h number items).words }
  unfolding built_up
  built_more left h number items more = rw more refl

-- ---- a tree

module _ (tree : Kind) (count root : ℕ) (words : List ℕ) (few : count ≤ most_rows) (size : length words ≡ columns (kind_width tree) * (first_row + count)) where
  abbrev pub T : Tree
  T = record { rows = count; gapped = finds_room tree; table = record { width = kind_width tree; words = words }; root = root }

  abbrev top : ℕ
  top = greatest (kind_width tree)

  -- what stands below the rows of a height that hold these items, and its map
  abbrev pub IsOver : ℕ → List Item → Type 0
  IsOver zero items = AreOfLeaves items
  IsOver (suc h) items = Levels (IsRow T) T.table h (spans_from 0 items) × (2 ≤ length items)

  abbrev pub map_over : ℕ → List Item → List Range
  map_over zero items = flat_map leaf_range (spans_from 0 items)
  map_over (suc h) items = map_of T.table h (spans_from 0 items)

  abbrev pub Stands' : ℕ → List Item → ℕ → ℕ → Type 0
  Stands' h items name k = Levels (IsRow T) T.table k (record { first = 0; last = top; word = name } ∷ []) × (map_of T.table k (record { first = 0; last = top; word = name } ∷ []) ≡ map_over h items)

  -- the rows below have their parent words in this level, and their gaps are told
  abbrev pub IsTendedOver : ℕ → ℕ → List Item → Type 0
  IsTendedOver zero number items = Unit {0}
  IsTendedOver (suc h) number items =
      Levels (IsTended T) T.table h (spans_from 0 items)
      × ((below : ℕ) × AreNamed (kind_at tree h) below items × HaveParents T.table below (parents_in number (rows_of tree (suc h) items)))
      × (inner_kind tree ≡ kinds.Gapped → AreTold T.table h 0 items)

  abbrev pub TendedTo : ℕ → ℕ → Type 0
  TendedTo name k = Levels (IsTended T) T.table k (record { first = 0; last = top; word = name } ∷ []) × (spans.column T.table (names.row_in name) 0 ≡ 1)

  abbrev heads_in : ℕ → ℕ → List (List Item) → List Span
  heads_in h number rows = spans_from 0 (heads (finds_room tree) (kind_at tree h) 0 number rows)

  -- a level that is written stands on what it holds
  levels_over : (h number : ℕ) (rows : List (List Item)) (items : List Item) → flat rows ≡ items → AreWritten T.table (kind_at tree h) number rows → AreFit T.table (kind_at tree h) rows → CanBeNamed number (length rows)
      → IsOver h items → AllByRecursion (IsRow T h) (heads_in h number rows) → Levels (IsRow T) T.table h (heads_in h number rows)
  levels_over zero number rows items joined written fit named over here = here
  levels_over (suc h) number rows items joined written fit named over here = levels_on T.table (finds_room tree) (kind_at tree (suc h)) number rows items joined written fit named (IsRow T) h over.0 here

  maps_over : (h number : ℕ) (rows : List (List Item)) (items : List Item) → flat rows ≡ items → AreWritten T.table (kind_at tree h) number rows → AreFit T.table (kind_at tree h) rows → CanBeNamed number (length rows)
      → map_of T.table h (heads_in h number rows) ≡ map_over h items
  maps_over zero number rows items joined written fit named = map_of_leaves T.table (finds_room tree) (kind_at tree zero) number rows items joined written fit named
  maps_over (suc h) number rows items joined written fit named = map_on T.table (finds_room tree) (kind_at tree (suc h)) number rows items joined written fit named h

  apart_if : (h : ℕ) (items : List Item) → IsOver h items → h ≡ 0 → Apart (spans_from 0 items)
  apart_if zero items over is = over.apart
  apart_if (suc h) items over is = absurd (omega arith)

  told_over : (h number : ℕ) (items : List Item) → IsTendedOver h number items → inner_kind tree ≡ kinds.Gapped → AreToldBelow T.table h 0 items
  told_over zero number items tend is = tt
  told_over (suc h) number items tend is = tend.2 is

  tended_here : (h number : ℕ) (rows : List (List Item)) (items : List Item) → rows ≡ rows_of tree h items → flat rows ≡ items → AreWritten T.table (kind_at tree h) number rows → AreFit T.table (kind_at tree h) rows → CanBeNamed number (length rows)
      → IsTendedOver h number items → AllByRecursion (IsTended T h) (heads_in h number rows)
  tended_here zero number rows items are joined written fit named tend = leaves_tended T (heads_in zero number rows)
  tended_here (suc h) number rows items are joined written fit named tend =
      rows_tended T h 0 number tend.1.0 rows written fit named.first named.last (subst (AreNamed (kind_at tree h) tend.1.0) (sym joined) tend.1.1)
      (subst (λ (l : List (List Item)). HaveParents T.table tend.1.0 (parents_in number l)) (sym are) tend.1.2) (λ g. subst (AreTold T.table h 0) (sym joined) (tend.2 g))

  tended_over : (h number : ℕ) (rows : List (List Item)) (items : List Item) → flat rows ≡ items → AreWritten T.table (kind_at tree h) number rows → AreFit T.table (kind_at tree h) rows → CanBeNamed number (length rows)
      → IsTendedOver h number items → AllByRecursion (IsTended T h) (heads_in h number rows) → Levels (IsTended T) T.table h (heads_in h number rows)
  tended_over zero number rows items joined written fit named tend here = here
  tended_over (suc h) number rows items joined written fit named tend here = levels_on T.table (finds_room tree) (kind_at tree (suc h)) number rows items joined written fit named (IsTended T) h tend.0 here

  -- ---- the top row

  root_least : (h : ℕ) (items : List Item) → 1 ≤ length items → IsOver h items → least_of_root h ≤ length items
  root_least zero items some over = some
  root_least (suc h) items some over = over.1

  root_height : (h : ℕ) (items : List Item) → end_of 0 items ≡ top → IsOver h items → IsOfHeight T h 0 items
  root_height zero items ends over = leaf_of T 0 items over.entries over.apart (λ low. absurd (omega arith)) over.some
  root_height (suc h) items ends over = tt

  covers : (items : List Item) (name : ℕ) → end_of 0 items ≡ top → covers_all T (record { first = 0; last = end_of 0 items; word = name }) ≡ true
  covers items name ends = eq-eqb (end_of 0 items) top ends

  top_row : (h number : ℕ) (items : List Item) → 1 ≤ length items → end_of 0 items ≡ top → IsOver h items → AreWritten T.table (kind_at tree h) number (items ∷ []) → AreFit T.table (kind_at tree h) (items ∷ []) → RiseFrom 0 items
      → first_row ≤ number → number + 1 ≤ first_row + count → Stands' h items (name_at number (kind_at tree h)) h
  top_row h number items some ends over written fit rise low high =
      let x : Span = record { first = 0; last = end_of 0 items; word = name_at number (kind_at tree h) } in
      let least : least_of T h x ≤ length items = subst (λ (b : Bool). (if b then least_of_root h else Least tree h) ≤ length items) (sym (covers items (name_at number (kind_at tree h)) ends)) (root_least h items some over) in
      let row = made_row T h 0 number written.0.0 items written.0.1 fit.0 rise (omega arith, omega arith) (omega arith) least (root_height h items ends over) in
      let named : CanBeNamed number 1 = record { first = low; last = omega arith } in
      let joined = append-nil items in
      let levels = levels_over h number (items ∷ []) items joined written fit named over (row, tt) in
      let maps = maps_over h number (items ∷ []) items joined written fit named in
      subst (λ (n : ℕ). Levels (IsRow T) T.table h (record { first = 0; last = n; word = name_at number (kind_at tree h) } ∷ []) × (map_of T.table h (record { first = 0; last = n; word = name_at number (kind_at tree h) } ∷ []) ≡ map_over h items)) ends (levels, maps)

  -- so many rows have room
  within : (front here rest : List ℕ) (number n : ℕ) → words ≡ front ++ (here ++ rest) → length front ≡ columns (kind_width tree) * number → length here ≡ columns (kind_width tree) * n → number + n ≤ first_row + count
  within front here rest number n is at long =
      rows_within (kind_width tree) (number + n) (first_row + count) (omega (arith, size, ap length is, length-append front (here ++ rest), length-append here rest, both_words (kind_width tree) number n))

  cut_of : (h : ℕ) (items : List Item) → IsOver h items → AreCut (Least tree h) (Most tree h) (EndsOf h) items (rows_of tree h items)
  cut_of h items over = level_cut tree h items (apart_if h items over)

  fit_of : (h : ℕ) (items : List Item) → IsOver h items → RiseFrom 0 items → (gaps_of (kind_width tree) (kind_at tree h) ≡ 0 → NoGaps items) → AreFit T.table (kind_at tree h) (rows_of tree h items)
  fit_of h items over rise none =
      let c = cut_of h items over in
      rows_fit (Most tree h) (gaps_of (kind_width tree) (kind_at tree h)) 0 (rows_of tree h items) c.some c.few (subst (RiseFrom 0) (sym c.joined) rise) (λ g. subst NoGaps (sym c.joined) (none g))

  written_of : (h number : ℕ) (parents : List ℕ) (rows : List (List Item)) (front rest : List ℕ) → words ≡ front ++ (words_of (kind_width tree) (kind_at tree h) parents rows ++ rest) → length parents ≡ length rows → AreFit T.table (kind_at tree h) rows
      → length front ≡ columns (kind_width tree) * number → AreWritten T.table (kind_at tree h) number rows
  written_of h number parents rows front rest is same fit at =
      subst (λ (w : List ℕ). AreWritten (record { width = kind_width tree; words = w }) (kind_at tree h) number rows) (sym is) (are_written (kind_width tree) (kind_at tree h) number parents rows front rest same fit at)

  heights_of : (h : ℕ) (items : List Item) (rows : List (List Item)) → flat rows ≡ items → IsOver h items → AllByRecursion (λ row. 2 ≤ length row) rows → AllButLast (EndsOf h) rows → end_of 0 items ≡ top → Heights T h 0 rows
  heights_of zero items rows joined over two ends end =
      leaf_heights T 0 rows two (subst (AllByRecursion (λ (x : Item). reserved x.word ≡ false)) (sym joined) over.entries) (subst (λ (l : List Item). Apart (spans_from 0 l)) (sym joined) over.apart) ends
      (λ some. let same = ap (end_of 0) joined in omega arith)
  heights_of (suc h) items rows joined over two ends end = inner_heights T h 0 rows

  some_rows : (rows : List (List Item)) (items : List Item) → flat rows ≡ items → 1 ≤ length items → 1 ≤ length rows
  some_rows [] items joined some = let none = ap length joined in absurd (omega arith)
  some_rows (row ∷ rows) items joined some = omega arith

  -- ---- a whole tree

  stands_up : (left h number : ℕ) (items : List Item) (front back : List ℕ) → length items ≤ left → 1 ≤ length items → RiseFrom 0 items → end_of 0 items ≡ top → (gaps_of (kind_width tree) (kind_at tree h) ≡ 0 → NoGaps items) → IsOver h items → IsTendedOver h number items
      → words ≡ front ++ ((built_up tree left (kind_at tree h) number items).words ++ back) → length front ≡ columns (kind_width tree) * number → first_row ≤ number
      → (k : ℕ) × Stands' h items (built_up tree left (kind_at tree h) number items).root k × TendedTo (built_up tree left (kind_at tree h) number items).root k
  stands_up zero h number items front back room some rise ends none over tend is at low = absurd (omega arith)
  stands_up (suc left) h number items front back room some rise ends none over tend is at low = elim (cases_Bool (length (rows_of tree h items) == 1)) [
    | inl one ↦
        let kind = kind_at tree h in
        let c = cut_of h items over in
        let rows = rows_of tree h items in
        let made = built_top tree left h number items one in
        let single = one_row rows items (eqb-true (length rows) 1 one) c.joined in
        let fit = subst (AreFit T.table kind) single (fit_of h items over rise none) in
        let here : words ≡ front ++ (words_of (kind_width tree) kind (1 ∷ []) (items ∷ []) ++ back) = is ∙ (ap (λ (b : Built). front ++ (b.words ++ back)) made ∙ ap (λ (l : List (List Item)). front ++ (words_of (kind_width tree) kind (1 ∷ []) l ++ back)) single) in
        let written = written_of h number (1 ∷ []) (items ∷ []) front back here refl fit at in
        let long = length_words (kind_width tree) kind (1 ∷ []) (items ∷ []) refl fit in
        let high = within front (words_of (kind_width tree) kind (1 ∷ []) (items ∷ [])) back number 1 here at long in
        let named : CanBeNamed number 1 = record { first = low; last = omega arith } in
        let joined = append-nil items in
        let tended = tended_over h number (items ∷ []) items joined written fit named tend (tended_here h number (items ∷ []) items (sym single) joined written fit named tend) in
        let one_parent = have_parents (kind_width tree) kind number (1 ∷ []) (items ∷ []) front back refl fit at in
        let parent : spans.column T.table number 0 ≡ 1 = ap (λ (w : List ℕ). spans.column (record { width = kind_width tree; words = w }) number 0) here ∙ one_parent.0 in
        let parent_of : spans.column T.table (names.row_in (name_at number kind)) 0 ≡ 1 = ap (λ (r : ℕ). spans.column T.table r 0) (row_in-name_at number kind) ∙ parent in
        let whole = subst (λ (n : ℕ). Levels (IsTended T) T.table h (record { first = 0; last = n; word = name_at number kind } ∷ [])) ends tended in (
          h,
          subst (λ (b : Built). Stands' h items b.root h) (sym made) (top_row h number items some ends over written fit rise low high),
          subst (λ (b : Built). TendedTo b.root h) (sym made) (whole, parent_of),
        )
    | inr more ↦
        let kind = kind_at tree h in
        let c = cut_of h items over in
        let rows = rows_of tree h items in
        let made = built_more tree left h number items more in
        let fit = fit_of h items over rise none in
        let above = above_of tree h number items in
        let next = next_of tree h number items in
        let up = upper tree left h number items in
        let mine = level_words tree h number items in
        let there = some_rows rows items c.joined some in
        let not_one = eqb-false (length rows) 1 more in
        let two : 2 ≤ length rows = two_of (length rows) there not_one in
        let as_many = length_heads (finds_room tree) kind 0 number rows in
        let long_items : Most tree h < length items = longer items rows (Most tree h) c.one some not_one in
        let sizes = least_two tree h in
        let least_in = sizes.0 in
        let least_fits = sizes.1 in
        let many = many_rows (Least tree h) rows least_in (c.many (omega arith)) in
        let upper_cut = level_cut tree (suc h) above (λ is_zero. absurd (omega arith)) in
        let same : length (parents_of tree h number items) ≡ length rows = length_parents next (rows_of tree (suc h) above) ∙ (ap length upper_cut.joined ∙ as_many) in
        let here : words ≡ front ++ ((mine ++ up.words) ++ back) = is ∙ ap (λ (b : Built). front ++ (b.words ++ back)) made in
        let apart : words ≡ front ++ (mine ++ (up.words ++ back)) = here ∙ ap (λ (l : List ℕ). front ++ l) (append_assoc mine up.words back) in
        let moved : words ≡ (front ++ mine) ++ (up.words ++ back) = apart ∙ sym (append_assoc front mine (up.words ++ back)) in
        let written = written_of h number (parents_of tree h number items) rows front (up.words ++ back) apart same fit at in
        let long = length_words (kind_width tree) kind (parents_of tree h number items) rows same fit in
        let high = within front mine (up.words ++ back) number (length rows) apart at long in
        let named : CanBeNamed number (length rows) = record { first = low; last = omega arith } in
        let flat_rise = subst (RiseFrom 0) (sym c.joined) rise in
        let laws = rows_made T h 0 number rows written fit flat_rise low high few many (heights_of h items rows c.joined over (both_two (Least tree h) rows many) c.ends ends) in
        let levels = levels_over h number rows items c.joined written fit named over laws in
        let maps = maps_over h number rows items c.joined written fit named in
        let fewer = c.fewer (omega arith) in
        let tended = tended_over h number rows items c.joined written fit named tend (tended_here h number rows items refl c.joined written fit named tend) in
        let have = subst (λ (w : List ℕ). HaveParents (record { width = kind_width tree; words = w }) number (parents_of tree h number items)) (sym apart) (have_parents (kind_width tree) kind number (parents_of tree h number items) rows front (up.words ++ back) same fit at) in
        let told = heads_tell (finds_room tree) T.table h number rows written fit named (λ g. subst (AreToldBelow T.table h 0) (sym c.joined) (told_over h number items tend g)) in
        let end_above = heads_end (finds_room tree) kind 0 0 0 number rows there c.some ∙ (ap (end_of 0) c.joined ∙ ends) in
        let rest = stands_up left (suc h) next above (front ++ mine) back (omega arith) (omega arith) (heads_rise (finds_room tree) kind 0 number rows c.some flat_rise) end_above (no_gap_heads (kind_width tree) (finds_room tree) kind 0 number rows)
        (levels, omega arith) (tended, (number, heads_named (finds_room tree) kind 0 number rows, have), told) moved (omega (arith, length-append front mine, both_words (kind_width tree) number (length rows))) (omega arith) in
        (rest.0, subst (λ (b : Built). Stands' h items b.root rest.0) (sym made) (rest.1.0, rest.1.1 ∙ maps), subst (λ (b : Built). TendedTo b.root rest.0) (sym made) rest.2)
  ]
    where
      two_of : (n : ℕ) → 1 ≤ n → (n ≡ 1 → ⊥) → 2 ≤ n
      two_of zero some other = absurd (omega arith)
      two_of (suc zero) some other = absurd (other refl)
      two_of (suc (suc n)) some other = omega arith

      longer : (items : List Item) (rows : List (List Item)) (most : ℕ) → (1 ≤ length items → length items ≤ most → rows ≡ items ∷ []) → 1 ≤ length items → (length rows ≡ 1 → ⊥) → most < length items
      longer items rows most one some other = elim (cases_lt most (length items)) [ inl long ↦ long | inr short ↦ absurd (other (ap length (one some short))) ]

  -- the tree that is built of the items of leaves, behind words that no row has
  pub built_stands : (front : List ℕ) (items : List Item) → length front ≡ columns (kind_width tree) * first_row → words ≡ front ++ (built_up tree (length items) kinds.Leaf first_row items).words → 1 ≤ length items → RiseFrom 0 items
      → end_of 0 items ≡ top → NoGaps items → AreOfLeaves items
      → (k : ℕ) × Stands' zero items (built_up tree (length items) kinds.Leaf first_row items).root k × TendedTo (built_up tree (length items) kinds.Leaf first_row items).root k
  built_stands front items long is some rise ends none over =
      stands_up (length items) zero first_row items front [] (omega arith) some rise ends (λ g. none) over tt (is ∙ ap (λ (l : List ℕ). front ++ l) (sym (append-nil (built_up tree (length items) kinds.Leaf first_row items).words))) long (omega arith)
