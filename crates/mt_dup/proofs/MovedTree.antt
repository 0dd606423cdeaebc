-- A tree whose rows have other numbers, row by row: it stands for the same map, and keeps the same laws.
use Rattle.mt_dup.proofs.Prelude.{◌≡◌, ◌≢◌, ◌⊎◌, ℕ, zero, suc, ◌+◌, ◌-◌, ◌*◌, ◌<◌, ◌≤◌, List, [], ◌∷◌, ◌++◌, Option, Some, Bool, true, false, length, map, refl, sym, ap, ◌∙◌, subst, inl, inr, arith, slice_index, AllByRecursion, flat_map, cases_eq, cases_lt, map-append, length-map, Width, reserved, columns, first_row, most_rows, RowKind, Leaf, Inner, Gapped, Item, Span, slot_column, gap_column, items_at, row_words, row_in, named_kind, name_at, IsRowNumber, slots_of, gaps_of, spans_from, leaf_range, longest_in, Fills, Apart, EndsFull, named_kind-name_at, row_in-name_at, layout_of, slot_within, few_slots_of, gap_within, length-spans_from, base_of, column, spans_by, spans_in, inner_of, expand, map_of, Levels, rows_of, Tree, IsRow, IsTended, ParentsFrom, GapsFrom, GapLawBy, kind_on, least_of, items_in, words_in, longest_below, by_leaf, by_inner, row_most, levels_front, levels_back, levels_here, children_hold, with_new_row, slot_renamed, IsRowCopy}
use Rattle.mt_rows.specs.Laws as laws
use Rattle.mt_dup.proofs.Names.{renamed_name, renamed_parent}
use Rattle.mt_dup.proofs.MovedItems as items

module _ (t : Tree) (number : ℕ → ℕ) (none : number 0 ≡ 0) (rows : ℕ) (few : rows ≤ most_rows) (words : List ℕ) where
  -- the copy
  abbrev pub later : Tree
  later = record { rows = rows; gapped = t.gapped; table = record { width = t.table.width; words = words }; root = with_new_row number t.root }

  -- a span of an inner row, as it stands in the copy
  abbrev pub move : Span → Span
  move x = record { first = x.first; last = x.last; word = with_new_row number x.word }

  -- what stands in a row of a height, as it stands in the copy
  abbrev pub moved_spans : ℕ → List Span → List Span
  moved_spans zero xs = xs
  moved_spans (suc h) xs = map move xs

  -- the row has a row of the copy
  pub record IsMoved (h : ℕ) (x : Span) : Type 0 where
    pub row : IsRow t h x
    pub copy : IsRowCopy number t.table later.table (kind_on t.gapped h) (row_in x.word)
    pub first : first_row ≤ number (row_in x.word)
    pub last : number (row_in x.word) < first_row + rows

  -- ---- one row

  module _ (h : ℕ) (x : Span) (moved : IsMoved h x) where
    abbrev kind : RowKind
    kind = kind_on t.gapped h

    abbrev width : Width
    width = t.table.width

    numbered : IsRowNumber (number (row_in x.word))
    numbered = (moved.first, let last = moved.last in omega arith)

    pub name_moved : with_new_row number x.word ≡ name_at (number (row_in x.word)) kind
    name_moved = renamed_name number x.word kind moved.row.name.named

    pub named_moved : named_kind (with_new_row number x.word) ≡ Some kind
    named_moved = ap named_kind name_moved ∙ named_kind-name_at (number (row_in x.word)) kind numbered

    pub row_moved : row_in (with_new_row number x.word) ≡ number (row_in x.word)
    row_moved = ap row_in name_moved ∙ row_in-name_at (number (row_in x.word)) kind

    abbrev in_slot : ℕ → ℕ
    in_slot = slot_renamed number kind

    slot_zero : in_slot 0 ≡ 0
    slot_zero = by kind
      where
        by : (k : RowKind) → slot_renamed number k 0 ≡ 0
        by Leaf = refl
        by Inner = omega (arith, none)
        by Gapped = omega (arith, none)

    items_moved : items_in later.table kind (move x) ≡ map (items.put in_slot) (items_in t.table kind x)
    items_moved =
        ap (λ (r : ℕ). items_at (slots_of width kind) (gaps_of width kind) words (columns width * r) x.last) row_moved
        ∙ items.put_items (columns width) (slots_of width kind) (gaps_of width kind) (base_of t.table (row_in x.word)) (columns width * number (row_in x.word)) t.table.words words in_slot (layout_of width kind)
        moved.copy.pivots moved.copy.slots moved.copy.behind x.last

    spans_are : spans_in t.table x ≡ spans_from x.first (items_in t.table kind x)
    spans_are = ap (λ (k : Option RowKind). spans_by t.table k x) moved.row.name.named

    spans_put : spans_in later.table (move x) ≡ map (items.put_span in_slot) (spans_in t.table x)
    spans_put =
        ap (λ (k : Option RowKind). spans_by later.table k (move x)) named_moved
        ∙ (ap (spans_from x.first) items_moved ∙ (items.spans_put in_slot x.first (items_in t.table kind x) ∙ ap (map (items.put_span in_slot)) (sym spans_are)))

    fit : length (items_in t.table kind x) ≤ slots_of width kind
    fit = omega (arith, row_most moved.row.name, ap length spans_are, length-spans_from x.first (items_in t.table kind x))

    pub same_length : length (spans_in later.table (move x)) ≡ length (spans_in t.table x)
    same_length = ap length spans_put ∙ length-map (spans_in t.table x) (items.put_span in_slot)

    abbrev parent : ℕ
    parent = column t.table (row_in x.word) 0

    abbrev parent' : ℕ
    parent' = column later.table (row_in (with_new_row number x.word)) 0

    abbrev slots : ℕ
    slots = slots_of width kind

    abbrev gaps : ℕ
    gaps = gaps_of width kind

    -- the columns are those that the items make
    unused : (c : ℕ) → c < columns width → column later.table (row_in (with_new_row number x.word)) c ≡ slice_index (words_in later.table kind (move x)) c
    unused c within = by (cases_eq c 0)
      where
        here : column later.table (row_in (with_new_row number x.word)) c ≡ column later.table (number (row_in x.word)) c
        here = ap (λ (r : ℕ). column later.table r c) row_moved

        expected : slice_index (words_in later.table kind (move x)) c ≡ slice_index (row_words (columns width) slots gaps parent' (map (items.put in_slot) (items_in t.table kind x))) c
        expected = ap (λ (l : List Item). slice_index (row_words (columns width) slots gaps parent' l) c) items_moved

        in_slots : (i : ℕ) → i < slots → c ≡ slot_column slots i → column later.table (number (row_in x.word)) c ≡ slice_index (row_words (columns width) slots gaps parent' (map (items.put in_slot) (items_in t.table kind x))) c
        in_slots i inside is =
            ap (column later.table (number (row_in x.word))) is
            ∙ (moved.copy.slots i inside
            ∙ (ap in_slot (moved.row.pivots.unused (slot_column slots i) (slot_within width kind i inside))
            ∙ (sym (items.put_slot (columns width) slots gaps parent parent' (items_in t.table kind x) in_slot slot_zero (layout_of width kind) fit i inside)
            ∙ ap (slice_index (row_words (columns width) slots gaps parent' (map (items.put in_slot) (items_in t.table kind x)))) (sym is))))

        by : (c ≡ 0) ⊎ (c ≢ 0) → column later.table (row_in (with_new_row number x.word)) c ≡ slice_index (words_in later.table kind (move x)) c
        by (inl first) = subst (λ (n : ℕ). column later.table (row_in (with_new_row number x.word)) n ≡ slice_index (words_in later.table kind (move x)) n) (sym first) refl
        by (inr some) = here ∙ (elim (cases_lt c slots) [
          | inl low ↦ moved.copy.pivots c (omega arith) low ∙ (moved.row.pivots.unused c within ∙ sym (items.put_pivot (columns width) slots gaps parent parent' (items_in t.table kind x) in_slot slot_zero (layout_of width kind) fit c (omega arith) low))
          | inr high ↦ elim (cases_lt c (2 * slots)) [
            | inl slot ↦ in_slots (c - slots) (omega arith) (omega arith)
            | inr behind ↦ moved.copy.behind c behind within ∙ (moved.row.pivots.unused c within ∙ sym (items.put_behind (columns width) slots gaps parent parent' (items_in t.table kind x) in_slot slot_zero (layout_of width kind) fit c behind))
          ]
        ] ∙ sym expected)

  -- what stands in the row of the copy
  pub spans_moved : (h : ℕ) (x : Span) → IsMoved h x → spans_in later.table (move x) ≡ moved_spans h (spans_in t.table x)
  spans_moved zero x moved = spans_put zero x moved ∙ items.put_same (spans_in t.table x)
  spans_moved (suc h) x moved = spans_put (suc h) x moved ∙ inner t.gapped
    where
      inner : (gapped : Bool) → map (items.put_span (slot_renamed number (inner_of gapped))) (spans_in t.table x) ≡ map move (spans_in t.table x)
      inner false = refl
      inner true = refl

  fills_moved : (h lo hi : ℕ) (xs : List Span) → Fills lo hi xs → Fills lo hi (moved_spans h xs)
  fills_moved zero lo hi xs fills = fills
  fills_moved (suc h) lo hi [] fills = fills
  fills_moved (suc h) lo hi (x ∷ xs) fills = (fills.0, fills.1, fills_moved (suc h) (x.last + 1) hi xs fills.2)

  pub is_row : (h : ℕ) (x : Span) → IsMoved h x → IsRow later h (move x)
  is_row h x moved = record {
    name = record { named = named_moved h x moved; in_table = subst (λ (r : ℕ). r < first_row + rows) (sym (row_moved h x moved)) moved.last };
    pivots = record {
      fills = subst (Fills x.first (x.last + 1)) (sym (spans_moved h x moved)) (fills_moved h x.first (x.last + 1) (spans_in t.table x) moved.row.pivots.fills);
      unused = unused h x moved;
    };
    count = record {
      least = subst (λ (n : ℕ). least_of t h x ≤ n) (sym (same_length h x moved)) moved.row.count.least;
    };
    entries = entries h x moved;
    holes = holes h x moved;
  }
    where
      entries : (h : ℕ) (x : Span) → IsMoved h x → laws.EntryLaw later h (move x)
      entries zero x moved = subst (AllByRecursion (λ (y : Span). reserved y.word ≡ false)) (sym (spans_moved zero x moved)) moved.row.entries
      entries (suc h) x moved = tt

      holes : (h : ℕ) (x : Span) → IsMoved h x → laws.HoleLaw later h (move x)
      holes zero x moved =
          let same = sym (spans_moved zero x moved) in
          let law = moved.row.holes in
          record { apart = subst Apart same law.apart; ends = λ low. subst EndsFull same (law.ends low); some = subst (λ (xs : List Span). flat_map leaf_range xs ≢ []) same law.some }
      holes (suc h) x moved = tt

  -- ---- rows side by side

  expand_leaves : (xs : List Span) → AllByRecursion (IsMoved zero) xs → expand later.table (map move xs) ≡ expand t.table xs
  expand_leaves [] each = refl
  expand_leaves (x ∷ xs) each = let first = spans_moved zero x each.0 in let behind = expand_leaves xs each.1 in λ i. first i ++ behind i

  expand_inner : (h : ℕ) (xs : List Span) → AllByRecursion (IsMoved (suc h)) xs → expand later.table (map move xs) ≡ map move (expand t.table xs)
  expand_inner h [] each = refl
  expand_inner h (x ∷ xs) each =
      let first = spans_moved (suc h) x each.0 in
      let behind = expand_inner h xs each.1 in
      (λ i. first i ++ behind i) ∙ sym (map-append move (spans_in t.table x) (expand t.table xs))

  pub map_moved : (h : ℕ) (xs : List Span) → Levels IsMoved t.table h xs → map_of later.table h (map move xs) ≡ map_of t.table h xs
  map_moved zero xs each = ap (flat_map leaf_range) (expand_leaves xs each)
  map_moved (suc h) xs each = ap (map_of later.table h) (expand_inner h xs each.0) ∙ map_moved h (expand t.table xs) each.1

  longest_moved : (h : ℕ) (xs : List Span) → Levels IsMoved t.table h xs → longest_below later.table h (map move xs) ≡ longest_below t.table h xs
  longest_moved zero xs each = ap longest_in (expand_leaves xs each)
  longest_moved (suc h) xs each = ap (longest_below later.table h) (expand_inner h xs each.0) ∙ longest_moved h (expand t.table xs) each.1

  all_moved : (h : ℕ) (xs : List Span) → AllByRecursion (IsMoved h) xs → AllByRecursion (IsRow later h) (map move xs)
  all_moved h [] each = tt
  all_moved h (x ∷ xs) each = (is_row h x each.0, all_moved h xs each.1)

  pub levels_moved : (h : ℕ) (xs : List Span) → Levels IsMoved t.table h xs → Levels (IsRow later) later.table h (map move xs)
  levels_moved zero xs each = all_moved zero xs each
  levels_moved (suc h) xs each = (all_moved (suc h) xs each.0, subst (Levels (IsRow later) later.table h) (sym (expand_inner h xs each.0)) (levels_moved h (expand t.table xs) each.1))

  -- ---- parent words and gap words

  parents_moved : (h row slot : ℕ) (xs : List Span) → slot + length xs ≤ 256 → AllByRecursion (IsMoved h) xs → ParentsFrom t.table row slot xs → ParentsFrom later.table (number row) slot (map move xs)
  parents_moved h row slot [] short each parents = tt
  parents_moved h row slot (x ∷ xs) short each parents = (
    ap (λ (r : ℕ). column later.table r 0) (row_moved h x each.0) ∙ (each.0.copy.parent ∙ (ap (with_new_row number) parents.0 ∙ renamed_parent number row slot (omega arith))),
    parents_moved h row (slot + 1) xs (omega arith) each.1 parents.1,
  )

  gaps_moved : (h row slot : ℕ) (xs : List Span) → slot + length xs ≤ slots_of t.table.width Gapped → Levels IsMoved t.table h xs
      → ((c : ℕ) → 2 * slots_of t.table.width Gapped ≤ c → c < columns t.table.width → column later.table (number row) c ≡ column t.table row c)
      → GapsFrom t.table h row slot xs → GapsFrom later.table h (number row) slot (map move xs)
  gaps_moved h row slot [] short each same gaps = tt
  gaps_moved h row slot (x ∷ xs) short each same gaps = (
    same (gap_column (slots_of t.table.width Gapped) slot) (omega arith) (gap_within t.table.width slot (omega arith))
        ∙ (gaps.0 ∙ sym (longest_moved h (x ∷ []) (levels_front IsMoved t.table h (x ∷ []) xs each))),
    gaps_moved h row (slot + 1) xs (omega arith) (levels_back IsMoved t.table h (x ∷ []) xs each) same gaps.1,
  )

  tended_moved : (h : ℕ) (x : Span) → IsMoved h x → (Levels IsMoved t.table h (x ∷ [])) → IsTended t h x → IsTended later h (move x)
  tended_moved zero x moved below tended = record { parent = tt; gaps = tt }
  tended_moved (suc h) x moved below tended = record {
    parent =
        let short = row_most moved.row.name in
        let parents = parents_moved h (row_in x.word) 0 (spans_in t.table x) (omega (arith, short, few_slots_of t.table.width (kind_on t.gapped (suc h)))) (levels_here IsMoved t.table h (spans_in t.table x) children) tended.parent in
        subst (λ (xs : List Span). ParentsFrom later.table (row_in (with_new_row number x.word)) 0 xs) (sym (spans_moved (suc h) x moved))
        (subst (λ (r : ℕ). ParentsFrom later.table r 0 (map move (spans_in t.table x))) (sym (row_moved (suc h) x moved)) parents);
    gaps = by t.gapped refl tended.gaps;
  }
    where
      children : Levels IsMoved t.table h (spans_in t.table x)
      children = children_hold IsMoved t.table h x below

      by : (gapped : Bool) → t.gapped ≡ gapped → GapLawBy (inner_of gapped) t.table h x → GapLawBy (inner_of gapped) later.table h (move x)
      by false is law = tt
      by true is law =
          let most : length (spans_in t.table x) ≤ slots_of t.table.width Gapped = subst (λ (b : Bool). length (spans_in t.table x) ≤ slots_of t.table.width (inner_of b)) is (row_most moved.row.name) in
          let copy : IsRowCopy number t.table later.table Gapped (row_in x.word) = subst (λ (b : Bool). IsRowCopy number t.table later.table (inner_of b) (row_in x.word)) is moved.copy in
          subst (λ (xs : List Span). GapsFrom later.table h (row_in (with_new_row number x.word)) 0 xs) (sym (spans_moved (suc h) x moved))
          (subst (λ (r : ℕ). GapsFrom later.table h r 0 (map move (spans_in t.table x))) (sym (row_moved (suc h) x moved)) (gaps_moved h (row_in x.word) 0 (spans_in t.table x) (omega arith) children copy.behind law))

  all_tended : (h : ℕ) (xs : List Span) → Levels IsMoved t.table h xs → AllByRecursion (IsTended t h) xs → AllByRecursion (IsTended later h) (map move xs)
  all_tended h [] each tended = tt
  all_tended h (x ∷ xs) each tended =
      let front = levels_front IsMoved t.table h (x ∷ []) xs each in (
        tended_moved h x (levels_here IsMoved t.table h (x ∷ []) front).0 front tended.0,
        all_tended h xs (levels_back IsMoved t.table h (x ∷ []) xs each) tended.1,
      )

  pub levels_tended : (h : ℕ) (xs : List Span) → Levels IsMoved t.table h xs → Levels (IsTended t) t.table h xs → Levels (IsTended later) later.table h (map move xs)
  levels_tended zero xs each tended = all_tended zero xs each tended
  levels_tended (suc h) xs each tended = (all_tended (suc h) xs each tended.0, subst (Levels (IsTended later) later.table h) (sym (expand_inner h xs each.0)) (levels_tended h (expand t.table xs) each.1 tended.1))

  -- ---- the rows that are reached

  abbrev RowsMoved : ℕ → Span → Type 0
  RowsMoved depth x = rows_of later.table depth (move x) ≡ map number (rows_of t.table depth x)

  list_rows : (depth h : ℕ) → ((x : Span) → Levels IsMoved t.table h (x ∷ []) → RowsMoved depth x) → (xs : List Span) → Levels IsMoved t.table h xs
      → flat_map (rows_of later.table depth) (map move xs) ≡ map number (flat_map (rows_of t.table depth) xs)
  list_rows depth h one [] each = refl
  list_rows depth h one (x ∷ xs) each =
      let first = one x (levels_front IsMoved t.table h (x ∷ []) xs each) in
      let behind = list_rows depth h one xs (levels_back IsMoved t.table h (x ∷ []) xs each) in
      (λ i. first i ++ behind i) ∙ sym (map-append number (rows_of t.table depth x) (flat_map (rows_of t.table depth) xs))

  pub rows_moved : (depth h : ℕ) (x : Span) → h < depth → Levels IsMoved t.table h (x ∷ []) → RowsMoved depth x
  rows_moved zero h x deep each = refl
  rows_moved (suc depth) zero x deep each =
      let moved = each.0 in
      by_leaf (named_kind (with_new_row number x.word)) (row_in (with_new_row number x.word) ∷ []) (row_in (with_new_row number x.word) ∷ flat_map (rows_of later.table depth) (spans_in later.table (move x))) (named_moved zero x moved)
      ∙ (ap (λ (r : ℕ). r ∷ []) (row_moved zero x moved) ∙ sym (ap (map number) (by_leaf (named_kind x.word) (row_in x.word ∷ []) (row_in x.word ∷ flat_map (rows_of t.table depth) (spans_in t.table x)) moved.row.name.named)))
  rows_moved (suc depth) (suc h) x deep each =
      let moved = each.0.0 in
      let below = ap (flat_map (rows_of later.table depth)) (spans_moved (suc h) x moved) ∙ list_rows depth h (λ y. rows_moved depth h y (omega arith)) (spans_in t.table x) (children_hold IsMoved t.table h x each) in
      let here = row_moved (suc h) x moved in
      by_inner t.gapped (named_kind (with_new_row number x.word)) (row_in (with_new_row number x.word) ∷ []) (row_in (with_new_row number x.word) ∷ flat_map (rows_of later.table depth) (spans_in later.table (move x))) (named_moved (suc h) x moved)
      ∙ ((λ i. here i ∷ below i) ∙ sym (ap (map number) (by_inner t.gapped (named_kind x.word) (row_in x.word ∷ []) (row_in x.word ∷ flat_map (rows_of t.table depth) (spans_in t.table x)) moved.row.name.named)))
