-- A name stored in a slot in place of another leaves which slots of each row are 0.
use Rattle.mt_splice.proofs.Prelude.{◌≡◌, ◌≢◌, ◌⊎◌, ℕ, zero, suc, ◌==◌, List, [], ◌∷◌, ◌++◌, length, Some, Bool, map, refl, sym, ap, ◌∙◌, subst, inl, inr, arith, ne_eqb, slice_get, cases_Bool, eqb-true, map-append, Span, row_in, Slot, Table, spans_in, level, Tree, HasWords, Stands, kind_on, Rooted, SameHoles, StandsAt, with_published, root_of, level_next, name_some, IsChildSlot}
use Rattle.mt_rows.proofs.SlotStore as store
use Rattle.mt_rows.proofs.Reached as reached
use Rattle.mt_splice.proofs.StoredWords.{words_of}

-- spans of the same row with the same ends hold the same
pub same_place_spans : (t : Table) (x y : Span) → y.first ≡ x.first → y.last ≡ x.last → y.word ≡ x.word → spans_in t y ≡ spans_in t x
same_place_spans t x y first last word = λ i. spans_in t (record { first = first i; last = last i; word = word i })

-- of two lists that differ in one place
get_middle : (front back : List Span) (x z y : Span) (i : ℕ) → slice_get (front ++ (x ∷ back)) i ≡ Some y → ((i ≡ length front) × (y ≡ x)) ⊎ (slice_get (front ++ (z ∷ back)) i ≡ Some y)
get_middle [] back x z y zero at = inl (refl, (let same : Some x ≡ Some y = at in cc))
get_middle [] back x z y (suc i) at = inr at
get_middle (w ∷ front) back x z y zero at = inr at
get_middle (w ∷ front) back x z y (suc i) at = elim (get_middle front back x z y i at) [ inl here ↦ inl (ap suc here.0, here.1) | inr off ↦ inr off ]

get_here : (front back : List Span) (x : Span) → slice_get (front ++ (x ∷ back)) (length front) ≡ Some x
get_here [] back x = refl
get_here (w ∷ front) back x = get_here front back x

module _ (t : Tree) (h row col : ℕ) (has : HasWords t) (stands : Stands t h) (place : IsChildSlot t h row col) (word : ℕ) where
  abbrev st : store.Store
  st = record { tree = t; height = h; low = suc place.low; depth = place.depth; slot = place.slot; word = word; row = place.at; child = place.child; has = has; stands = stands; levels = place.levels; at = place.here }

  pub at_one : reached.IsOneOf place.at (level t.table place.depth (root_of t))
  at_one = reached.one_of_parts (level t.table place.depth (root_of t)) place.here.front place.here.back place.at place.here.stands

  pub at_on_level : reached.OnLevel t.table h (root_of t) (suc place.low) place.at
  at_on_level = record { depth = place.depth; height = place.levels; one = at_one }

  pub child_on_level : reached.OnLevel t.table h (root_of t) place.low place.child
  child_on_level = record {
    depth = suc place.depth;
    height = let levels = place.levels in omega arith;
    one = subst (reached.IsOneOf place.child) (sym (level_next t.table place.depth (root_of t)))
        (reached.one_of_expand t.table (level t.table place.depth (root_of t)) place.at place.child at_one (reached.one_of_get (spans_in t.table place.at) place.slot place.child place.here.holds));
  }

  child_some : place.child.word ≢ 0
  child_some = name_some place.child.word (kind_on t.gapped place.low) (reached.on_level_law t h stands place.low place.child child_on_level).name.named

  -- what is stored is the tree with another child
  is_store : with_published (words_of t) (Slot row col) word ≡ words_of (store.after_store st)
  is_store = (λ i. with_published (words_of t) (Slot (sym place.number i) (place.column i)) word)

  -- the span that stands in the slot then
  abbrev pub top_span : Span
  top_span = record place.child { word = word }

  pub top_get : slice_get (spans_in (with_published (words_of t) (Slot row col) word).table place.at) place.slot ≡ Some top_span
  top_get =
      let p = store.parts st in
      ap (λ (v : Rooted). slice_get (spans_in v.table place.at) place.slot) is_store
      ∙ (ap (λ (xs : List Span). slice_get xs place.slot) (store.row_after st)
      ∙ (ap (slice_get (p.0 ++ (top_span ∷ p.1))) (sym p.3) ∙ get_here p.0 p.1 top_span))

  -- what stands in a slot of a row then stood there before, or was just stored
  pub slot_get : (k : ℕ) (x y : Span) (i : ℕ) → reached.OnLevel t.table h (root_of t) k x → slice_get (spans_in (with_published (words_of t) (Slot row col) word).table x) i ≡ Some y
      → (slice_get (spans_in t.table x) i ≡ Some y) ⊎ ((row_in x.word ≡ row) × (i ≡ place.slot) × (y ≡ top_span))
  slot_get k x y i on at = elim (cases_Bool (row_in x.word == row_in place.at.word)) [
    | inl is ↦ at_place (eqb-true (row_in x.word) (row_in place.at.word) is)
    | inr other ↦ inl (ap (λ (xs : List Span). slice_get xs i) (sym (store.others_same st k x other)) ∙ stored)
  ]
    where
      stored : slice_get (spans_in (store.after_store st).table x) i ≡ Some y
      stored = ap (λ (v : Rooted). slice_get (spans_in v.table x) i) (sym is_store) ∙ at

      at_place : row_in x.word ≡ row_in place.at.word → (slice_get (spans_in t.table x) i ≡ Some y) ⊎ ((row_in x.word ≡ row) × (i ≡ place.slot) × (y ≡ top_span))
      at_place same =
          let p = store.parts st in
          let is = (reached.one_place t h stands k (suc place.low) x place.at on at_on_level same).1 in
          let here : slice_get (p.0 ++ (top_span ∷ p.1)) i ≡ Some y = ap (λ (xs : List Span). slice_get xs i) (sym (store.row_after st)) ∙ (ap (λ (v : Span). slice_get (spans_in (store.after_store st).table v) i) (sym is) ∙ stored) in
          elim (get_middle p.0 p.1 top_span place.child y i here) [
            | inl top ↦ inr (same ∙ place.number, top.0 ∙ p.3, top.1)
            | inr off ↦ inl (ap (λ (v : Span). slice_get (spans_in t.table v) i) is ∙ (ap (λ (xs : List Span). slice_get xs i) (store.row_before st) ∙ off))
          ]

  module _ (some : word ≢ 0) where
    holes_here : SameHoles (spans_in t.table place.at) (spans_in (store.after_store st).table place.at)
    holes_here =
        let p = store.parts st in
        let both : (place.child.word == 0) ≡ (word == 0) = ne_eqb place.child.word 0 child_some ∙ sym (ne_eqb word 0 some) in
        ap (map (λ (x : Span). x.word == 0)) (store.row_before st)
        ∙ (map-append (λ (x : Span). x.word == 0) p.0 (place.child ∷ p.1)
        ∙ (ap (λ (b : Bool). map (λ (x : Span). x.word == 0) p.0 ++ (b ∷ map (λ (x : Span). x.word == 0) p.1)) both
        ∙ (sym (map-append (λ (x : Span). x.word == 0) p.0 (record place.child { word = word } ∷ p.1)) ∙ sym (ap (map (λ (x : Span). x.word == 0)) (store.row_after st)))))

    pub holes_stay : (k : ℕ) (x : Span) → reached.OnLevel t.table h (root_of t) k x → SameHoles (spans_in t.table x) (spans_in (store.after_store st).table x)
    holes_stay k x on = elim (cases_Bool (row_in x.word == row_in place.at.word)) [
      | inl is ↦ subst (λ (y : Span). SameHoles (spans_in t.table y) (spans_in (store.after_store st).table y))
          (sym (reached.one_place t h stands k (suc place.low) x place.at on at_on_level (eqb-true (row_in x.word) (row_in place.at.word) is)).1) holes_here
      | inr other ↦ ap (map (λ (y : Span). y.word == 0)) (sym (store.others_same st k x other))
    ]

    pub slot_holes : (k : ℕ) (x : Span) → StandsAt (words_of t) k x → SameHoles (spans_in t.table x) (spans_in (with_published (words_of t) (Slot row col) word).table x)
    slot_holes k x at =
        subst (λ (v : Rooted). SameHoles (spans_in t.table x) (spans_in v.table x)) (sym is_store) (holes_stay k x (reached.on_level t h stands k x at))
