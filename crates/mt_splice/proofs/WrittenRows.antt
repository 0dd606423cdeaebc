-- What stands in a row that was written: its items, and the words that they make.
use Rattle.mt_splice.proofs.Prelude.{◌≡◌, ℕ, zero, suc, ◌+◌, ◌*◌, ◌<◌, ◌≤◌, List, [], ◌∷◌, ◌++◌, Option, Some, length, map, take, ◌-◌, refl, sym, ap, ◌∙◌, subst, arith, zero-add, slice_index, columns, Item, Span, RowKind, name_at, named_kind, row_in, FitRow, NoGaps, RiseFrom, end_of, padded_to, row_words, items_at, slots_of, gaps_of, spans_from, no_gaps-cons, named_kind-name_at, row_in-name_at, same_items, reads_back, row_words-hold, layout_of, some_columns, Table, column, spans_by, spans_in, items_in, words_in, IsNewRow, no_parent, new_words, Holds}

-- ---- items as a row holds them that has so many columns of gaps

abbrev pub as_held : ℕ → List Item → List Item
as_held zero items = map (λ (x : Item). record x { gap = 0 }) items
as_held (suc gaps) items = items

held_fields : {A : Type 0} (f : Item → A) → ((x : Item) → f (record x { gap = 0 }) ≡ f x) → (items : List Item) → map f (map (λ (x : Item). record x { gap = 0 }) items) ≡ map f items
held_fields f same [] = refl
held_fields f same (x ∷ items) = λ i. same x i ∷ held_fields f same items i

held_no_gaps : (items : List Item) → NoGaps (map (λ (x : Item). record x { gap = 0 }) items)
held_no_gaps [] = refl
held_no_gaps (x ∷ items) = no_gaps-cons (record x { gap = 0 }) (map (λ (y : Item). record y { gap = 0 }) items) refl (held_no_gaps items)

held_length : (gaps : ℕ) (items : List Item) → length (as_held gaps items) ≡ length items
held_length zero [] = refl
held_length zero (x ∷ items) = ap suc (held_length zero items)
held_length (suc gaps) items = refl

held_rise : (gaps min : ℕ) (items : List Item) → RiseFrom min items → RiseFrom min (as_held gaps items)
held_rise zero min [] rise = tt
held_rise zero min (x ∷ items) rise = (rise.0, held_rise zero (x.last + 1) items rise.1)
held_rise (suc gaps) min items rise = rise

held_end : (gaps d : ℕ) (items : List Item) → end_of d (as_held gaps items) ≡ end_of d items
held_end zero d [] = refl
held_end zero d (x ∷ items) = held_end zero x.last items
held_end (suc gaps) d items = refl

held_spans : (gaps first : ℕ) (items : List Item) → spans_from first (as_held gaps items) ≡ spans_from first items
held_spans zero first [] = refl
held_spans zero first (x ∷ items) = ap (λ (l : List Span). record { first = first; last = x.last; word = x.word } ∷ l) (held_spans zero (x.last + 1) items)
held_spans (suc gaps) first items = refl

held_words : (all slots gaps parent : ℕ) (items : List Item) → row_words all slots gaps parent (as_held gaps items) ≡ row_words all slots gaps parent items
held_words all slots zero parent items =
    let lasts = held_fields (λ (x : Item). x.last) (λ x. refl) items in let words = held_fields (λ (x : Item). x.word) (λ x. refl) items in
    λ i. padded_to all (parent ∷ padded_to (slots - 1) (take (slots - 1) (lasts i)) ++ padded_to slots (words i) ++ [])
held_words all slots (suc gaps) parent items = refl

held_fit : (slots gaps : ℕ) (items : List Item) → 1 ≤ length items → length items ≤ slots → RiseFrom 0 items → FitRow slots gaps (as_held gaps items)
held_fit slots gaps items some fit rise =
    let same = held_length gaps items in
    record { some = omega arith; fit = omega arith; rise = held_rise gaps 0 items rise; no_gaps = none gaps }
  where
    none : (gaps : ℕ) → gaps ≡ 0 → NoGaps (as_held gaps items)
    none zero is = held_no_gaps items
    none (suc gaps) is = absurd (omega arith)

-- ---- the row

module _ (t : Table) (kind : RowKind) (row : ℕ) (items : List Item) (new : IsNewRow t kind row items) where
  abbrev slots : ℕ
  slots = slots_of t.width kind

  abbrev gaps : ℕ
  gaps = gaps_of t.width kind

  abbrev held : List Item
  held = as_held gaps items

  abbrev words : List ℕ
  words = new_words t kind items

  fits : FitRow slots gaps held
  fits = held_fit slots gaps items new.some new.fit new.rise

  holds : Holds slots gaps words 0 held
  holds = subst (λ (l : List ℕ). Holds slots gaps l 0 held) (held_words (columns t.width) slots gaps no_parent items) (row_words-hold (columns t.width) slots gaps no_parent held (layout_of t.width kind) fits)

  items_read : items_at slots gaps t.words (columns t.width * row) (end_of 0 items) ≡ held
  items_read =
      same_items (columns t.width) slots gaps (columns t.width * row) 0 t.words words (layout_of t.width kind) (λ c some within. new.own c within ∙ ap (slice_index words) (sym (zero-add c))) (end_of 0 items)
      ∙ (ap (items_at slots gaps words 0) (sym (held_end gaps 0 items)) ∙ reads_back slots gaps words 0 held fits.fit fits.rise holds fits.some)

  abbrev pub new_span : ℕ → Span
  new_span first = record { first = first; last = end_of 0 items; word = name_at row kind }

  pub new_named : named_kind (name_at row kind) ≡ Some kind
  new_named = named_kind-name_at row kind new.number

  pub new_items : (first : ℕ) → items_in t kind (new_span first) ≡ held
  new_items first = ap (λ (r : ℕ). items_at slots gaps t.words (columns t.width * r) (end_of 0 items)) (row_in-name_at row kind) ∙ items_read

  pub new_spans : (first : ℕ) → spans_in t (new_span first) ≡ spans_from first items
  new_spans first = ap (λ (k : Option RowKind). spans_by t k (new_span first)) new_named ∙ (ap (spans_from first) (new_items first) ∙ held_spans gaps first items)

  pub new_unused : (first c : ℕ) → c < columns t.width → column t (row_in (name_at row kind)) c ≡ slice_index (words_in t kind (new_span first)) c
  new_unused first c within =
      let number = row_in-name_at row kind in
      let parent : column t (row_in (name_at row kind)) 0 ≡ no_parent = ap (λ (r : ℕ). column t r 0) number ∙ new.own 0 (some_columns t.width) in
      ap (λ (r : ℕ). column t r c) number ∙ (new.own c within
      ∙ sym ((λ j. slice_index (row_words (columns t.width) slots gaps (parent j) (new_items first j)) c) ∙ ap (λ (l : List ℕ). slice_index l c) (held_words (columns t.width) slots gaps no_parent items)))
