-- The words in the slots of an inner row are those of its items, and zeros behind them.
use Rattle.mt_rows.proofs.Prelude.{◌≡◌, ℕ, zero, suc, ◌+◌, ◌-◌, ◌*◌, ◌<◌, ◌≤◌, List, [], ◌∷◌, ◌++◌, Option, Some, Bool, true, false, length, map, drop, replicate, refl, sym, ap, ◌∙◌, arith, length-append, length-take, length-drop, slice_index, slice_get, slice_range, slice_get_within, ext_get_or, get_or-take, get_or-drop, length-map, length-replicate, Width, columns, first_row, RowKind, Inner, Gapped, Item, IsLayout, slot_column, row_words, row_in, Span, spans_from, item_or, get_or-padded, get_or-field, used, used-slot, row_within, slots_of, gaps_of, layout_of, some_slots, slots-fit, slot_within, length-spans_from, spans-words, column, spans_by, spans_in, inner_of, Tree, HasWords, IsRow, kind_on, items_in, names_of}
use Rattle.mt_rows.proofs.FewSpans.{row_most}

-- the word of an item is in its slot
slot_of_words : (all slots gaps parent : ℕ) (items : List Item) → IsLayout all slots gaps → length items ≤ slots → (i : ℕ) → i < slots → slice_index (row_words all slots gaps parent items) (slot_column slots i) ≡ (item_or items i).word
slot_of_words all slots gaps parent items layout fit i within =
    get_or-padded (used all slots gaps parent items layout fit) (all - length (used all slots gaps parent items layout fit)) (slot_column slots i) ∙ used-slot all slots gaps parent items layout fit i within

module _ (all base slots gaps parent : ℕ) (w : List ℕ) (items : List Item) (layout : IsLayout all slots gaps) (fit : length items ≤ slots) (within : base + all ≤ length w)
    (written : (c : ℕ) → c < all → slice_index w (base + c) ≡ slice_index (row_words all slots gaps parent items) c) where
  abbrev words : List ℕ
  words = slice_range w (base + slots) (base + 2 * slots)

  abbrev expected : List ℕ
  expected = map (λ (x : Item). x.word) items ++ replicate (slots - length items) 0

  two : 2 * slots ≤ all
  two = omega (arith, slots-fit all slots gaps layout)

  long : length words ≡ slots
  long = omega (arith, two, length-take (base + 2 * slots - (base + slots)) (drop (base + slots) w), length-drop (base + slots) w)

  long' : length expected ≡ slots
  long' = omega (arith, length-append (map (λ (x : Item). x.word) items) (replicate (slots - length items) 0), length-map items (λ (x : Item). x.word), length-replicate {A = ℕ} (slots - length items) 0)

  each : (i : ℕ) → i < length words → slice_index words i ≡ slice_index expected i
  each i inside =
      let size = long in
      let fits = two in
      let some = some_slots all slots gaps layout in
      let place : base + slots + i ≡ base + slot_column slots i = omega arith in
      get_or-take (base + 2 * slots - (base + slots)) (drop (base + slots) w) i 0 (omega arith)
      ∙ (get_or-drop (base + slots) w i 0
      ∙ (ap (λ (n : ℕ). slice_index w n) place
      ∙ (written (slot_column slots i) (omega arith)
      ∙ (slot_of_words all slots gaps parent items layout fit i (omega arith)
      ∙ (sym (get_or-field (λ (x : Item). x.word) refl items i)
      ∙ sym (get_or-padded (map (λ (x : Item). x.word) items) (slots - length items) i))))))

  slots_read : words ≡ expected
  slots_read = ext_get_or 0 words expected (long ∙ sym long') each

-- an inner row of a tree with or without gaps, where its words are those of its items
read_names : (width : Width) (gapped : Bool) (w : List ℕ) (row parent : ℕ) (items : List Item) → length items ≤ slots_of width (inner_of gapped) → columns width * row + columns width ≤ length w
    → ((c : ℕ) → c < columns width → slice_index w (columns width * row + c) ≡ slice_index (row_words (columns width) (slots_of width (inner_of gapped)) (gaps_of width (inner_of gapped)) parent items) c)
    → names_of (record { width = width; words = w }) row (inner_of gapped) ≡ map (λ (x : Item). x.word) items ++ replicate (slots_of width (inner_of gapped) - length items) 0
read_names width false w row parent items fit within written = slots_read (columns width) (columns width * row) (slots_of width Inner) (gaps_of width Inner) parent w items (layout_of width Inner) fit within written
read_names width true w row parent items fit within written = slots_read (columns width) (columns width * row) (slots_of width Gapped) (gaps_of width Gapped) parent w items (layout_of width Gapped) fit within written

pub names_are : (t : Tree) (h : ℕ) (x : Span) → HasWords t → IsRow t (suc h) x → (n : ℕ) × (names_of t.table (row_in x.word) (inner_of t.gapped) ≡ map (λ (y : Span). y.word) (spans_in t.table x) ++ replicate n 0)
names_are t h x has row =
    let items = items_in t.table (inner_of t.gapped) x in
    let n = slots_of t.table.width (inner_of t.gapped) - length items in
    let spans : spans_in t.table x ≡ spans_from x.first items = ap (λ (k : Option RowKind). spans_by t.table k x) row.name.named in
    let fit : length items ≤ slots_of t.table.width (inner_of t.gapped) = omega (arith, (row_most row.name), ap length spans, length-spans_from x.first items) in
    let read = read_names t.table.width t.gapped t.table.words (row_in x.word) (column t.table (row_in x.word) 0) items fit (omega (arith, has, row_within t.table.width (row_in x.word) (first_row + t.rows) row.name.in_table)) row.pivots.unused in
    (n, read ∙ ap (λ (l : List ℕ). l ++ replicate n 0) (sym (ap (map (λ (y : Span). y.word)) spans ∙ spans-words x.first items)))

-- ---- the word of an item that is read is in its slot

span_word : (first : ℕ) (items : List Item) (i : ℕ) (y : Span) → slice_get (spans_from first items) i ≡ Some y → y.word ≡ (item_or items i).word
span_word first [] i y at = absurd (cc)
span_word first (x ∷ items) zero y at = let same : record { first = first; last = x.last; word = x.word } ≡ y = cc in ap (λ (z : Span). z.word) (sym same)
span_word first (x ∷ items) (suc i) y at = span_word (x.last + 1) items i y at

pub slot_read : (t : Tree) (h slot : ℕ) (x y : Span) → IsRow t h x → slice_get (spans_in t.table x) slot ≡ Some y → y.word ≡ column t.table (row_in x.word) (slot_column (slots_of t.table.width (kind_on t.gapped h)) slot)
slot_read t h slot x y row at =
    let kind = kind_on t.gapped h in
    let slots = slots_of t.table.width kind in
    let gaps = gaps_of t.table.width kind in
    let items = items_in t.table kind x in
    let parent = column t.table (row_in x.word) 0 in
    let layout = layout_of t.table.width kind in
    let spans : spans_in t.table x ≡ spans_from x.first items = ap (λ (k : Option RowKind). spans_by t.table k x) row.name.named in
    let used_slot = slice_get_within (spans_in t.table x) slot y at in
    let most = (row_most row.name) in
    let fit : length items ≤ slots = omega (arith, ap length spans, length-spans_from x.first items) in
    span_word x.first items slot y (sym (ap (λ (l : List Span). slice_get l slot) spans) ∙ at)
    ∙ (sym (slot_of_words (columns t.table.width) slots gaps parent items layout fit slot (omega arith)) ∙ sym (row.pivots.unused (slot_column slots slot) (slot_within t.table.width kind slot (omega arith))))
