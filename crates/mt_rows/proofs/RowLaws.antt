-- A row keeps its laws while its columns stay, and while just the word of one of its slots changes.
use Rattle.mt_rows.proofs.Prelude.{◌≡◌, ◌≢◌, ℕ, zero, suc, ◌+◌, ◌*◌, ◌<◌, ◌≤◌, ◌==◌, List, [], ◌∷◌, false, Option, length, refl, sym, ap, ◌∙◌, subst, ⊎_elim, arith, length-append, ne_eqb, get_or-set_other, get_or-set_same, Some, None, slice_index, slice_set, AllByRecursion, flat_map, cases_eq, Width, columns, first_row, reserved, RowKind, row_in, named_kind, slot_column, items_at, row_words, same_items, other_place, place_within, Item, Span, spans_from, leaf_range, Fills, BeginsFull, Apart, EndsFull, slots_of, gaps_of, layout_of, some_slots_of, slot_within, length-spans_from, base_of, column, spans_by, spans_in, SameColumns, SameSpans, Tree, HasWords, IsRow, EntryLaw, HoleLaw, kind_on, least_of, items_in, words_in}
use Rattle.mt_rows.proofs.Frames.{same_spans}
use Rattle.mt_rows.proofs.SlotWords.{put_item, put_span, spans_from-put, other_column, slot_here, items_at-put, row_words-parent, row_words-put, row_words-inside}
use Rattle.mt_rows.proofs.FewSpans.{row_most}

-- the tree with other words and another root word
abbrev pub with_words : Tree → List ℕ → ℕ → Tree
with_words t words root = record { rows = t.rows; gapped = t.gapped; table = record { width = t.table.width; words = words }; root = root }

items_same : (width : Width) (kind : RowKind) (w w' : List ℕ) (row last : ℕ) → SameColumns (record { width = width; words = w }) (record { width = width; words = w' }) (columns width) row
    → items_at (slots_of width kind) (gaps_of width kind) w' (columns width * row) last ≡ items_at (slots_of width kind) (gaps_of width kind) w (columns width * row) last
items_same width kind w w' row last same = same_items (columns width) (slots_of width kind) (gaps_of width kind) (columns width * row) (columns width * row) w' w (layout_of width kind) same last

-- ---- a row whose spans stay

module _ (t : Tree) (words : List ℕ) (root : ℕ) where
  abbrev later : Tree
  later = with_words t words root

  entries_keep : (h : ℕ) (x : Span) → SameSpans t.table later.table x → EntryLaw t h x → EntryLaw later h x
  entries_keep zero x same entries = subst (AllByRecursion (λ (y : Span). reserved y.word ≡ false)) (sym same) entries
  entries_keep (suc h) x same entries = tt

  holes_keep : (h : ℕ) (x : Span) → SameSpans t.table later.table x → HoleLaw t h x → HoleLaw later h x
  holes_keep zero x same holes = record {
    apart = subst Apart (sym same) holes.apart;
    ends = λ low. subst EndsFull (sym same) (holes.ends low);
    some = subst (λ (xs : List Span). flat_map leaf_range xs ≢ []) (sym same) holes.some;
  }
  holes_keep (suc h) x same holes = tt

  -- a row keeps its laws while its columns but the parent word stay
  pub row_keeps : (h : ℕ) (x : Span) → SameColumns t.table later.table (columns t.table.width) (row_in x.word) → IsRow t h x → IsRow later h x
  row_keeps h x same row =
      let spans = same_spans t.table later.table x refl same in
      record {
        name = record { named = row.name.named; in_table = row.name.in_table };
        pivots = record { fills = subst (Fills x.first (x.last + 1)) (sym spans) row.pivots.fills; unused = unused };
        count = record {
          least = subst (λ (xs : List Span). least_of t h x ≤ length xs) (sym spans) row.count.least;
        };
        entries = entries_keep h x spans row.entries;
        holes = holes_keep h x spans row.holes;
      }
    where
      unused : (c : ℕ) → c < columns t.table.width → column later.table (row_in x.word) c ≡ slice_index (words_in later.table (kind_on t.gapped h) x) c
      unused zero inside = refl
      unused (suc c) inside =
          same (suc c) (omega arith) inside ∙ (row.pivots.unused (suc c) inside
          ∙ (row_words-parent (columns t.table.width) (slots_of t.table.width (kind_on t.gapped h)) (gaps_of t.table.width (kind_on t.gapped h)) (column later.table (row_in x.word) 0) (column t.table (row_in x.word) 0) (items_in t.table (kind_on t.gapped h) x) (suc c) (omega arith)
          ∙ ap (λ (items : List Item). slice_index (row_words (columns t.table.width) (slots_of t.table.width (kind_on t.gapped h)) (gaps_of t.table.width (kind_on t.gapped h)) (column later.table (row_in x.word) 0) items) (suc c))
          (sym (items_same t.table.width (kind_on t.gapped h) t.table.words words (row_in x.word) x.last same))))

-- 0 names no row
pub name_some : (word : ℕ) (kind : RowKind) → named_kind word ≡ Some kind → word ≢ 0
name_some word kind named is =
    let none : named_kind word ≡ None = ap named_kind is in
    let both : Some kind ≡ None = sym named ∙ none in
    absurd (cc)

-- ---- a row in which one slot has another word

-- a slot column of a row of the table is one of its words
pub slot_fits : (width : Width) (kind : RowKind) (row rows slot : ℕ) → slot < slots_of width kind → row < first_row + rows → columns width * row + slot_column (slots_of width kind) slot < columns width * (first_row + rows)
slot_fits width kind row rows slot inside in_table = place_within width row (first_row + rows) (slot_column (slots_of width kind) slot) in_table (slot_within width kind slot inside)

pub length-put_span : (n word : ℕ) (xs : List Span) → length (put_span n word xs) ≡ length xs
length-put_span n word [] = refl
length-put_span zero word (x ∷ xs) = refl
length-put_span (suc n) word (x ∷ xs) = ap suc (length-put_span n word xs)

fills-put : (n word lo hi : ℕ) (xs : List Span) → Fills lo hi xs → Fills lo hi (put_span n word xs)
fills-put n word lo hi [] fills = fills
fills-put zero word lo hi (x ∷ xs) fills = fills
fills-put (suc n) word lo hi (x ∷ xs) fills = (fills.0, fills.1, fills-put n word (x.last + 1) hi xs fills.2)

module _ (t : Tree) (h slot word : ℕ) (x : Span) (has : HasWords t) (row : IsRow t h x) (used : slot < length (spans_in t.table x)) where
  abbrev here_kind : RowKind
  here_kind = kind_on t.gapped h

  abbrev slots : ℕ
  slots = slots_of t.table.width here_kind

  abbrev gaps : ℕ
  gaps = gaps_of t.table.width here_kind

  abbrev base : ℕ
  base = base_of t.table (row_in x.word)

  -- the words with this one in the slot
  abbrev pub put_words : List ℕ
  put_words = slice_set t.table.words (base + slot_column slots slot) word

  abbrev put : Tree
  put = with_words t put_words t.root

  inside : slot < slots
  inside = omega (arith, (row_most row.name))

  fits : base + slot_column slots slot < length t.table.words
  fits = omega (arith, has, slot_fits t.table.width here_kind (row_in x.word) t.rows slot inside row.name.in_table)

  -- other rows have the columns that they had
  pub others_keep : (y : Span) → row_in y.word ≢ row_in x.word → SameColumns t.table put.table (columns t.table.width) (row_in y.word)
  others_keep y other c above within =
      get_or-set_other t.table.words (base + slot_column slots slot) (base_of t.table (row_in y.word) + c) word 0
      (other_place t.table.width (row_in x.word) (row_in y.word) c (slot_column slots slot) other within (slot_within t.table.width here_kind slot inside))

  items_put : items_in put.table here_kind x ≡ put_item slot word (items_in t.table here_kind x)
  items_put = items_at-put slots gaps base slot word t.table.words inside fits x.last

  pub spans_put : spans_in put.table x ≡ put_span slot word (spans_in t.table x)
  spans_put = subst (λ (k : Option RowKind). spans_by put.table k x ≡ put_span slot word (spans_by t.table k x)) (sym row.name.named)
      (ap (spans_from x.first) items_put ∙ spans_from-put slot word x.first (items_in t.table here_kind x))

  length-items : length (items_in t.table here_kind x) ≡ length (spans_in t.table x)
  length-items = subst (λ (k : Option RowKind). length (items_in t.table here_kind x) ≡ length (spans_by t.table k x)) (sym row.name.named) (sym (length-spans_from x.first (items_in t.table here_kind x)))

  words_put : words_in put.table here_kind x ≡ slice_set (words_in t.table here_kind x) (slot_column slots slot) word
  words_put =
      let some = some_slots_of t.table.width here_kind in
      let parent : column put.table (row_in x.word) 0 ≡ column t.table (row_in x.word) 0 = other_column slots gaps base slot word t.table.words inside fits 0 (λ e. omega arith) in
      (λ i. row_words (columns t.table.width) slots gaps (parent i) (items_put i))
      ∙ row_words-put (columns t.table.width) slots gaps (column t.table (row_in x.word) 0) slot word (items_in t.table here_kind x) some (omega (arith, length-items)) (omega (arith, length-items, (row_most row.name)))

  unused_put : (c : ℕ) → c < columns t.table.width → column put.table (row_in x.word) c ≡ slice_index (words_in put.table here_kind x) c
  unused_put c within =
      ⊎_elim
      (λ (here : c ≡ slot_column slots slot).
      ap (λ (n : ℕ). column put.table (row_in x.word) n) here
      ∙ (slot_here slots gaps base slot word t.table.words inside fits
      ∙ (sym (get_or-set_same (words_in t.table here_kind x) (slot_column slots slot) word 0 (row_words-inside (columns t.table.width) slots gaps (column t.table (row_in x.word) 0) slot word (items_in t.table here_kind x) (some_slots_of t.table.width here_kind) (omega (arith, length-items)) (omega (arith, length-items, (row_most row.name)))))
      ∙ (ap (λ (n : ℕ). slice_index (slice_set (words_in t.table here_kind x) (slot_column slots slot) word) n) (sym here) ∙ ap (λ (ws : List ℕ). slice_index ws c) (sym words_put)))))
      (λ (other : c ≡ slot_column slots slot → ⊥).
      other_column slots gaps base slot word t.table.words inside fits c other
      ∙ (row.pivots.unused c within
      ∙ (sym (get_or-set_other (words_in t.table here_kind x) (slot_column slots slot) c word 0 other) ∙ ap (λ (ws : List ℕ). slice_index ws c) (sym words_put))))
      (cases_eq c (slot_column slots slot))

  -- the row keeps the laws that do not look at the word
  pub row_put : EntryLaw put h x → HoleLaw put h x → IsRow put h x
  row_put entries holes =
      let same : length (spans_in put.table x) ≡ length (spans_in t.table x) = ap length spans_put ∙ length-put_span slot word (spans_in t.table x) in
      record {
        name = record { named = row.name.named; in_table = row.name.in_table };
        pivots = record {
          fills = subst (Fills x.first (x.last + 1)) (sym spans_put) (fills-put slot word x.first (x.last + 1) (spans_in t.table x) row.pivots.fills);
          unused = unused_put;
        };
        count = record {
          least = subst (λ (n : ℕ). least_of t h x ≤ n) (sym same) row.count.least;
        };
        entries = entries;
        holes = holes;
      }

-- ---- an entry in place of another

all_put : (n word : ℕ) (xs : List Span) → reserved word ≡ false → AllByRecursion (λ (y : Span). reserved y.word ≡ false) xs → AllByRecursion (λ (y : Span). reserved y.word ≡ false) (put_span n word xs)
all_put n word [] free each = tt
all_put zero word (x ∷ xs) free each = (free, each.1)
all_put (suc n) word (x ∷ xs) free each = (each.0, all_put n word xs free each.1)

begins_put : (n word : ℕ) (xs : List Span) → word ≢ 0 → BeginsFull xs → BeginsFull (put_span n word xs)
begins_put n word [] entry begins = tt
begins_put zero word (x ∷ xs) entry begins = entry
begins_put (suc n) word (x ∷ xs) entry begins = begins

apart_put : (n word : ℕ) (xs : List Span) → word ≢ 0 → Apart xs → Apart (put_span n word xs)
apart_put n word [] entry apart = tt
apart_put zero word (x ∷ xs) entry apart = ((λ hole. absurd (entry hole)), apart.1)
apart_put (suc n) word (x ∷ xs) entry apart = ((λ hole. begins_put n word xs entry (apart.0 hole)), apart_put n word xs entry apart.1)

ends_put : (n word : ℕ) (xs : List Span) → word ≢ 0 → EndsFull xs → EndsFull (put_span n word xs)
ends_put n word [] entry ends = tt
ends_put zero word (x ∷ []) entry ends = entry
ends_put zero word (x ∷ y ∷ ys) entry ends = ends
ends_put (suc n) word (x ∷ []) entry ends = ends
ends_put (suc zero) word (x ∷ y ∷ ys) entry ends = ends_put zero word (y ∷ ys) entry ends
ends_put (suc (suc n)) word (x ∷ y ∷ ys) entry ends = ends_put (suc n) word (y ∷ ys) entry ends

some_put : (n word : ℕ) (xs : List Span) → word ≢ 0 → n < length xs → 1 ≤ length (flat_map leaf_range (put_span n word xs))
some_put n word [] entry used = absurd (omega arith)
some_put zero word (x ∷ xs) entry used = let full : (word == 0) ≡ false = ne_eqb word 0 entry in rw full (omega arith)
some_put (suc n) word (x ∷ xs) entry used =
    let behind = some_put n word xs entry (omega arith) in
    omega (arith, length-append (leaf_range x) (flat_map leaf_range (put_span n word xs)), behind)

pub leaf_put : (t : Tree) (slot word : ℕ) (x : Span) (has : HasWords t) (row : IsRow t zero x) (used : slot < length (spans_in t.table x)) → word ≢ 0 → reserved word ≡ false
    → IsRow (with_words t (put_words t zero slot word x has row used) t.root) zero x
leaf_put t slot word x has row used entry free =
    let same = spans_put t zero slot word x has row used in
    row_put t zero slot word x has row used
    (subst (AllByRecursion (λ (y : Span). reserved y.word ≡ false)) (sym same) (all_put slot word (spans_in t.table x) free row.entries))
    (record {
      apart = subst Apart (sym same) (apart_put slot word (spans_in t.table x) entry row.holes.apart);
      ends = λ low. subst EndsFull (sym same) (ends_put slot word (spans_in t.table x) entry (row.holes.ends low));
      some = subst (λ (xs : List Span). flat_map leaf_range xs ≢ []) (sym same) (λ none. let some = some_put slot word (spans_in t.table x) entry used in let long = ap length none in omega arith);
    })
