-- Of two trees in the order of the walk, one of which is a copy of the other, the words are the same.
use Rattle.mt_image.proofs.Prelude.{◌≡◌, ◌≢◌, ◌⊎◌, ℕ, zero, suc, ◌+◌, ◌-◌, ◌*◌, ◌/◌, ◌%◌, ◌<◌, ◌≤◌, List, [], ◌∷◌, Option, Some, length, map, drop, get_or, refl, sym, ap, ◌∙◌, subst, inl, inr, arith, length-drop, slice_index, range_with_len, slice_get, cases_eq, cases_lt, ext_get_or, get_or-drop, Kind, Width, Long, Short, columns, first_row, Item, RowKind, Leaf, Inner, Gapped, Span, IsLayout, slot_column, row_words, row_in, parent_at, slots_of, gaps_of, spans_from, Names-named_kind, layout_of, few_slots_of, slot_within, item_or, get_or-padded, used, used-slot, length-spans_from, Table, column, spans_by, spans_in, root_span, inner_of, Levels, level, reached_in, Tree, IsRow, IsTended, Stands, ParentsFrom, kind_on, items_in, root_of, Rooted, tree_as, StandsAt, row_most, level_next, inner_no_leaf, image_of, image_parts, words_of, with_new_row, slot_renamed, IsCopy, IsGood}
use Rattle.mt_rows.proofs.Reached as reached
use Rattle.mt_image.proofs.Places.{times_of, in_range, fixed, as_many}

-- ---- words that stay

module _ (number : ℕ → ℕ) (none : number 0 ≡ 0) where
  zero_stays : with_new_row number 0 ≡ 0
  zero_stays = omega (arith, none)

  one_stays : with_new_row number 1 ≡ 1
  one_stays = omega (arith, none)

  name_stays : (word : ℕ) → number (row_in word) ≡ row_in word → with_new_row number word ≡ word
  name_stays word same = ap (λ (r : ℕ). parent_at r (word % 256)) same ∙ whole
    where
      whole : parent_at (row_in word) (word % 256) ≡ word
      whole = omega arith

row_of_parent : (row slot : ℕ) → slot < 256 → row_in (parent_at row slot) ≡ row
row_of_parent row slot few = omega arith

-- ---- the words in slots

-- the word of an item is in its slot, and 0 behind them
slot_word : (all slots gaps parent : ℕ) (items : List Item) → IsLayout all slots gaps → length items ≤ slots → (i : ℕ) → i < slots → slice_index (row_words all slots gaps parent items) (slot_column slots i) ≡ (item_or items i).word
slot_word all slots gaps parent items layout fit i within =
    get_or-padded (used all slots gaps parent items layout fit) (all - length (used all slots gaps parent items layout fit)) (slot_column slots i) ∙ used-slot all slots gaps parent items layout fit i within

-- a span stands there, or nothing does
span_or_none : (first : ℕ) (items : List Item) (i : ℕ) → ((y : Span) × (slice_get (spans_from first items) i ≡ Some y) × ((item_or items i).word ≡ y.word)) ⊎ ((item_or items i).word ≡ 0)
span_or_none first [] i = inr refl
span_or_none first (x ∷ items) zero = inl (record { first = first; last = x.last; word = x.word }, refl, refl)
span_or_none first (x ∷ items) (suc i) = span_or_none (x.last + 1) items i

parent_read : (t : Table) (row slot i : ℕ) (xs : List Span) (x : Span) → ParentsFrom t row slot xs → slice_get xs i ≡ Some x → column t (row_in x.word) 0 ≡ parent_at row (slot + i)
parent_read t row slot i [] x parents at = absurd (cc)
parent_read t row slot zero (y ∷ xs) x parents at =
    let same : y ≡ x = cc in
    let place : slot ≡ slot + zero = omega arith in
    subst (λ (z : Span). column t (row_in z.word) 0 ≡ parent_at row (slot + zero)) same (parents.0 ∙ ap (parent_at row) place)
parent_read t row slot (suc i) (y ∷ xs) x parents at =
    let place : slot + 1 + i ≡ slot + suc i = omega arith in
    parent_read t row (slot + 1) i xs x parents.1 at ∙ ap (parent_at row) place

get_within : (xs : List Span) (i : ℕ) (x : Span) → slice_get xs i ≡ Some x → i < length xs
get_within [] i x at = absurd (cc)
get_within (y ∷ xs) zero x at = omega arith
get_within (y ∷ xs) (suc i) x at = let behind = get_within xs i x at in omega arith

-- ---- two trees in order

module _ (kind : Kind) (t t' : Rooted) (good : IsGood kind t) (good' : IsGood kind t') (copy : IsCopy t t') where
  abbrev number : ℕ → ℕ
  number = copy.number

  moved : map number (range_with_len first_row t.rows) ≡ range_with_len first_row t'.rows
  moved = ap (map number) (sym good.order) ∙ (sym copy.rows ∙ good'.order)

  pub rows_same : t'.rows ≡ t.rows
  rows_same = as_many number first_row t.rows t'.rows moved

  stays : (row : ℕ) → first_row ≤ row → row < first_row + t.rows → number row ≡ row
  stays row low high = fixed number first_row t.rows t'.rows moved row low high

  abbrev T : Tree
  T = tree_as kind t

  -- a tree with rows
  module _ (h : ℕ) (stands : Stands T h) (one : column t.table (row_in t.root) 0 ≡ 1) (tended : Levels (IsTended T) t.table h (root_span t.table t.root ∷ [])) where
    abbrev On : ℕ → Span → Type 0
    On k x = reached.OnLevel t.table h (root_of T) k x

    law : (k : ℕ) (x : Span) → On k x → IsRow T k x
    law k x on = reached.on_level_law T h stands k x on

    -- the number of a row that stands on a level stays
    word_stays : (k : ℕ) (x : Span) → On k x → with_new_row number x.word ≡ x.word
    word_stays k x on =
        let l = law k x on in
        let first = (Names-named_kind x.word (kind_on T.gapped k) l.name.named).0.0 in
        name_stays number copy.none x.word (stays (row_in x.word) first l.name.in_table)

    -- ---- parent words

    parent_stays : (k : ℕ) (x : Span) → On k x → with_new_row number (column t.table (row_in x.word) 0) ≡ column t.table (row_in x.word) 0
    parent_stays k x on = by_depth on.depth on.height on.one
      where
        root_word : (x : Span) → reached.IsOneOf x (root_of T) → column t.table (row_in x.word) 0 ≡ 1
        root_word x (inl same) = ap (λ (y : Span). column t.table (row_in y.word) 0) same ∙ one
        root_word x (inr none) = absurd none

        by_depth : (d : ℕ) → h ≡ d + k → reached.IsOneOf x (level t.table d (root_of T)) → with_new_row number (column t.table (row_in x.word) 0) ≡ column t.table (row_in x.word) 0
        by_depth zero height here = let is = root_word x here in ap (with_new_row number) is ∙ (one_stays number copy.none ∙ sym is)
        by_depth (suc d) height here =
            let above = reached.expand_one_of t.table (level t.table d (root_of T)) x (subst (reached.IsOneOf x) (level_next t.table d (root_of T)) here) in
            let y = above.0 in
            let on_y : On (suc k) y = record { depth = d; height = omega arith; one = above.1 } in
            let at = reached.get_one_of (spans_in t.table y) x above.2 in
            let parents = (reached.levels_at (IsTended T) t.table h (suc k) (root_of T) y tended on_y).parent in
            let read = parent_read t.table (row_in y.word) 0 at.0 (spans_in t.table y) x parents at.1 in
            let law_y = law (suc k) y on_y in
            let few : at.0 < 256 = (let inside = get_within (spans_in t.table y) at.0 x at.1 in let most = row_most law_y.name in let small = few_slots_of t.table.width (kind_on T.gapped (suc k)) in omega arith) in
            let row_is : row_in (parent_at (row_in y.word) (0 + at.0)) ≡ row_in y.word = row_of_parent (row_in y.word) (0 + at.0) (omega arith) in
            let first = (Names-named_kind y.word (kind_on T.gapped (suc k)) law_y.name.named).0.0 in
            let keeps : number (row_in (parent_at (row_in y.word) (0 + at.0))) ≡ row_in (parent_at (row_in y.word) (0 + at.0)) = ap number row_is ∙ (stays (row_in y.word) first law_y.name.in_table ∙ sym row_is) in
            ap (with_new_row number) read ∙ (name_stays number copy.none (parent_at (row_in y.word) (0 + at.0)) keeps ∙ sym read)

    -- ---- the words in slots

    child_on : (k : ℕ) (x : Span) → On (suc k) x → (i : ℕ) (y : Span) → slice_get (spans_in t.table x) i ≡ Some y → On k y
    child_on k x on i y at =
        let below = reached.one_of_expand t.table (level t.table on.depth (root_of T)) x y on.one (reached.one_of_get (spans_in t.table x) i y at) in
        let height = on.height in
        record { depth = suc on.depth; height = omega arith; one = subst (reached.IsOneOf y) (sym (level_next t.table on.depth (root_of T))) below }

    -- the word of an item, or 0 where there is none
    slot_read : (k : ℕ) (x : Span) → On (suc k) x → (i : ℕ) → i < slots_of t.table.width (inner_of T.gapped)
        → column t.table (row_in x.word) (slot_column (slots_of t.table.width (inner_of T.gapped)) i) ≡ (item_or (items_in t.table (inner_of T.gapped) x) i).word
    slot_read k x on i within =
        let slots = slots_of t.table.width (inner_of T.gapped) in
        let l = law (suc k) x on in
        let items = items_in t.table (inner_of T.gapped) x in
        let spans : spans_in t.table x ≡ spans_from x.first items = ap (λ (o : Option RowKind). spans_by t.table o x) l.name.named in
        let most = row_most l.name in
        let fit : length items ≤ slots = omega (arith, ap length spans, length-spans_from x.first items) in
        l.pivots.unused (slot_column slots i) (slot_within t.table.width (inner_of T.gapped) i within)
        ∙ slot_word (columns t.table.width) slots (gaps_of t.table.width (inner_of T.gapped)) (column t.table (row_in x.word) 0) items (layout_of t.table.width (inner_of T.gapped)) fit i within

    inner_stays : (k : ℕ) (x : Span) → On (suc k) x → (i : ℕ) → i < slots_of t.table.width (inner_of T.gapped)
        → with_new_row number (column t.table (row_in x.word) (slot_column (slots_of t.table.width (inner_of T.gapped)) i)) ≡ column t.table (row_in x.word) (slot_column (slots_of t.table.width (inner_of T.gapped)) i)
    inner_stays k x on i within =
        let l = law (suc k) x on in
        let items = items_in t.table (inner_of T.gapped) x in
        let spans : spans_in t.table x ≡ spans_from x.first items = ap (λ (o : Option RowKind). spans_by t.table o x) l.name.named in
        let read = slot_read k x on i within in
        by_item (column t.table (row_in x.word) (slot_column (slots_of t.table.width (inner_of T.gapped)) i)) read (span_or_none x.first items i) spans
      where
        by_item : (word : ℕ) → word ≡ (item_or (items_in t.table (inner_of T.gapped) x) i).word
            → ((y : Span) × (slice_get (spans_from x.first (items_in t.table (inner_of T.gapped) x)) i ≡ Some y) × ((item_or (items_in t.table (inner_of T.gapped) x) i).word ≡ y.word)) ⊎ ((item_or (items_in t.table (inner_of T.gapped) x) i).word ≡ 0)
            → spans_in t.table x ≡ spans_from x.first (items_in t.table (inner_of T.gapped) x) → with_new_row number word ≡ word
        by_item word read (inl (y, at, is)) spans =
            let child = child_on k x on i y (ap (λ (l : List Span). slice_get l i) spans ∙ at) in
            let same = read ∙ is in
            ap (with_new_row number) same ∙ (word_stays k y child ∙ sym same)
        by_item word read (inr nothing) spans = let same = read ∙ nothing in ap (with_new_row number) same ∙ (zero_stays number copy.none ∙ sym same)

    by_kind : (k : RowKind) (word : ℕ) → k ≢ Leaf → with_new_row number word ≡ word → slot_renamed number k word ≡ word
    by_kind Leaf word other stays_so = absurd (other refl)
    by_kind Inner word other stays_so = stays_so
    by_kind Gapped word other stays_so = stays_so

    slot_stays : (k : ℕ) (x : Span) → On k x → (i : ℕ) → i < slots_of t.table.width (kind_on T.gapped k)
        → slot_renamed number (kind_on T.gapped k) (column t.table (row_in x.word) (slot_column (slots_of t.table.width (kind_on T.gapped k)) i)) ≡ column t.table (row_in x.word) (slot_column (slots_of t.table.width (kind_on T.gapped k)) i)
    slot_stays zero x on i within = refl
    slot_stays (suc k) x on i within =
        by_kind (inner_of T.gapped) (column t.table (row_in x.word) (slot_column (slots_of t.table.width (inner_of T.gapped)) i)) (inner_no_leaf T.gapped) (inner_stays k x on i within)

    -- ---- all columns

    row_same : (k : ℕ) (x : Span) → On k x → (c : ℕ) → c < columns t.table.width → column t'.table (row_in x.word) c ≡ column t.table (row_in x.word) c
    row_same k x on c within =
        let l = law k x on in
        let first = (Names-named_kind x.word (kind_on T.gapped k) l.name.named).0.0 in
        let keeps = stays (row_in x.word) first l.name.in_table in
        let at : StandsAt t k x = reached.stands_at T h stands on.depth k x on.height on.one in
        let own = copy.words k x (kind_on T.gapped k) at l.name.named in
        let slots = slots_of t.table.width (kind_on T.gapped k) in
        ap (λ (r : ℕ). column t'.table r c) (sym keeps)
        ∙ elim (cases_eq c 0) [
          | inl zero_is ↦ subst (λ (n : ℕ). column t'.table (number (row_in x.word)) n ≡ column t.table (row_in x.word) n) (sym zero_is) (own.parent ∙ parent_stays k x on)
          | inr above ↦ elim (cases_lt c slots) [
            | inl pivot ↦ own.pivots c (omega arith) pivot
            | inr high ↦ elim (cases_lt c (2 * slots)) [
              | inl low ↦
                  let place : slot_column slots (c - slots) ≡ c = omega arith in
                  let inside : c - slots < slots = omega arith in
                  subst (λ (n : ℕ). column t'.table (number (row_in x.word)) n ≡ column t.table (row_in x.word) n) place (own.slots (c - slots) inside ∙ slot_stays k x on (c - slots) inside)
              | inr behind ↦ own.behind c behind within
            ]
          ]
        ]

    some_same : (row c : ℕ) → first_row ≤ row → row < first_row + t.rows → c < columns t.table.width → column t'.table row c ≡ column t.table row c
    some_same row c low high within =
        let counted = reached.tally_reached T h stands row in
        let there = ap (times_of row) good.order in
        let inside = in_range row first_row t.rows low high in
        let place = reached.reached_on_level T h stands row (omega arith) in
        subst (λ (r : ℕ). column t'.table r c ≡ column t.table r c) place.3 (row_same place.0 place.1 place.2 c within)

    root_same : t'.root ≡ t.root
    root_same = copy.root ∙ word_stays h (root_span t.table t.root) (record { depth = zero; height = omega arith; one = inl refl })

  -- an empty tree has no row
  no_rows : t.root ≡ 0 → t.rows ≡ 0
  no_rows empty = by_rows t.rows (ap (reached_in t.table) (sym empty) ∙ good.order)
    where
      by_rows : (n : ℕ) → reached_in t.table 0 ≡ range_with_len first_row n → n ≡ 0
      by_rows zero same = refl
      by_rows (suc n) same = absurd (let none : [] ≡ first_row ∷ range_with_len (first_row + 1) n = same in cc)

  pub columns_same : (row c : ℕ) → first_row ≤ row → row < first_row + t.rows → c < columns t.table.width → column t'.table row c ≡ column t.table row c
  columns_same row c low high within = elim good.lawful.words [
    | inl empty ↦ absurd (let none = no_rows empty in omega arith)
    | inr (h, stands, one, tended) ↦ some_same h stands one tended row c low high within
  ]

  pub roots_same : t'.root ≡ t.root
  roots_same = elim good.lawful.words [
    | inl empty ↦ copy.root ∙ (ap (with_new_row number) empty ∙ (zero_stays number copy.none ∙ sym empty))
    | inr (h, stands, one, tended) ↦ root_same h stands one tended
  ]

-- ---- the words in a row

-- each place behind those that no row has is a column of a row
place_is : (width : Width) (i rows : ℕ) → columns width * first_row + i < columns width * (first_row + rows)
    → (row : ℕ) × (c : ℕ) × (first_row ≤ row) × (row < first_row + rows) × (c < columns width) × (columns width * first_row + i ≡ columns width * row + c)
place_is Long i rows within = (first_row + i / columns Long, i % columns Long, omega arith, omega arith, omega arith, omega arith)
place_is Short i rows within = (first_row + i / columns Short, i % columns Short, omega arith, omega arith, omega arith, omega arith)

module _ (kind : Kind) (t t' : Rooted) (good : IsGood kind t) (good' : IsGood kind t') (copy : IsCopy t t') where
  abbrev before : ℕ
  before = columns t.table.width * first_row

  rows_is : t'.rows ≡ t.rows
  rows_is = rows_same kind t t' good good' copy

  size_is : length t'.table.words ≡ length t.table.words
  size_is = good'.whole.size ∙ ((λ i. columns (copy.width i) * (first_row + rows_is i)) ∙ sym good.whole.size)

  width_before : columns t'.table.width * first_row ≡ before
  width_before = ap (λ (w : Width). columns w * first_row) copy.width

  each : (i : ℕ) → i < length (drop before t'.table.words) → get_or (drop before t'.table.words) i 0 ≡ get_or (drop before t.table.words) i 0
  each i within =
      let long = length-drop before t'.table.words in
      let size = good.whole.size in
      let same_size = size_is in
      let place = place_is t.table.width i t.rows (omega arith) in
      let col = columns_same kind t t' good good' copy place.0 place.1 place.2 place.3 place.4 in
      let there : column t'.table place.0 place.1 ≡ slice_index t'.table.words (columns t.table.width * place.0 + place.1) = ap (λ (w : Width). slice_index t'.table.words (columns w * place.0 + place.1)) copy.width in
      get_or-drop before t'.table.words i 0
      ∙ (ap (λ (n : ℕ). slice_index t'.table.words n) place.5 ∙ (sym there ∙ (col ∙ (ap (λ (n : ℕ). slice_index t.table.words n) (sym place.5) ∙ sym (get_or-drop before t.table.words i 0)))))

  pub words_same : words_of t' ≡ words_of t
  words_same =
      ap (λ (n : ℕ). drop n t'.table.words) width_before
      ∙ ext_get_or 0 (drop before t'.table.words) (drop before t.table.words) (omega (arith, length-drop before t'.table.words, length-drop before t.table.words, size_is)) each

  pub one_image : image_of kind t' ≡ image_of kind t
  one_image = λ i. image_parts kind (rows_is i) (roots_same kind t t' good good' copy i) (words_same i)
