-- The items that an edit pushes are those of the store, so what it makes is the store with holes joined. `pushed_edit` is for
-- callers that push items which they read elsewhere.
use Rattle.mt_leaf.proofs.Prelude.{◌≡◌, ℕ, suc, ◌+◌, ◌-◌, ◌<◌, ◌≤◌, nat_lt, nat_le, min, max, List, [], ◌∷◌, ◌++◌, length, get_or, take, drop, fold, refl, sym, ap, ◌∙◌, subst, inl, inr, arith, append-nil, cases_Bool, ltb-true, ltb-false, lt-ltb, le-ltb, leb-true, leb-false, le-leb, fold-append, drop_more, Item, Span, RiseFrom, end_of, NoGaps, spans_from, no_gaps-cons, no_gap_first, no_gaps-append, no_gaps-take, no_gaps-drop, after, after_some, spans-append, rise_fills, spans_below, spans_above, span_stored, stored, holes_joined, edited, slot_reaching, slot_above, first_of, with_joined, cut_item, items_below}
use Rattle.mt_leaf.proofs.Stored.{none_below, all_above}
use Rattle.mt_leaf.proofs.Pushes.{all_pushed, no_gaps-with_joined, no_gaps-pushed}

pub items_below-spans : (lo first : ℕ) (items : List Item) → RiseFrom lo items → spans_from lo (items_below lo items first) ≡ spans_below (spans_from lo items) first
items_below-spans lo first [] rise = refl
items_below-spans lo first (x ∷ items) rise = elim (cases_Bool (nat_lt x.last first)) [
  | inl t ↦
      let below : x.last < first = ltb-true x.last first t in
      let low = rise.0 in
      let next : 1 + slot_reaching items first ≡ suc (slot_reaching items first) = omega arith in
      let whole : min x.last (first - 1) ≡ x.last = omega arith in
      let begins = lt-ltb lo first (omega arith) in
      rw (t, next, begins, whole) (ap (λ (rest : List Span). record { first = lo; last = x.last; word = x.word } ∷ rest) (items_below-spans (x.last + 1) first items rise.1))
  | inr n ↦
      let reaches : first ≤ x.last = ltb-false x.last first n in
      let behind = rise_fills (x.last + 1) items rise.1 in
      let none = none_below (x.last + 1) (after (x.last + 1) items) first (spans_from (x.last + 1) items) behind (omega arith) in
      let cut : min x.last (first - 1) ≡ first - 1 = omega arith in
      elim (cases_Bool (nat_lt lo first)) [ inl begins ↦ rw (n, begins, none, cut) refl | inr above ↦ rw (n, above, none) refl ]
]

-- what stands below ends in front of `first`
pub after-items_below : (lo first : ℕ) (items : List Item) → RiseFrom lo items → lo ≤ first → first ≤ after lo items → after lo (items_below lo items first) ≡ first
after-items_below lo first [] rise from to = omega arith
after-items_below lo first (x ∷ items) rise from to = elim (cases_Bool (nat_lt x.last first)) [
  | inl t ↦
      let below : x.last < first = ltb-true x.last first t in
      let next : 1 + slot_reaching items first ≡ suc (slot_reaching items first) = omega arith in
      rw (t, next) (after-items_below (x.last + 1) first items rise.1 (omega arith) to)
  | inr n ↦ elim (cases_Bool (nat_lt lo first)) [
    | inl begins ↦ let some : lo < first = ltb-true lo first begins in rw (n, begins) (omega arith)
    | inr above ↦ let none : first ≤ lo = ltb-false lo first above in rw (n, above) (omega arith)
  ]
]

pub items_above-spans : (lo last : ℕ) (items : List Item) → RiseFrom lo items → lo ≤ last + 1 → spans_from (last + 1) (drop (slot_above items last) items) ≡ spans_above (spans_from lo items) last
items_above-spans lo last [] rise from = refl
items_above-spans lo last (x ∷ items) rise from = elim (cases_Bool (nat_le x.last last)) [
  | inl t ↦
      let within : x.last ≤ last = leb-true x.last last t in
      let next : 1 + slot_above items last ≡ suc (slot_above items last) = omega arith in
      let none = le-ltb last x.last within in
      rw (t, next, none) (items_above-spans (x.last + 1) last items rise.1 (omega arith))
  | inr n ↦
      let above : last < x.last = leb-false x.last last n in
      let behind = rise_fills (x.last + 1) items rise.1 in
      let all = all_above (x.last + 1) (after (x.last + 1) items) last (spans_from (x.last + 1) items) behind (omega arith) in
      let some = lt-ltb last x.last above in
      let begins : max lo (last + 1) ≡ last + 1 = omega arith in
      rw (n, some, all, begins) refl
]

-- ---- the steps

-- items are pushed up to the slot that reaches `first`, and then what that one has below it
pub below_cut : (start : List Item) (lo first slot begin : ℕ) (items : List Item) (d : Item) → slot ≡ slot_reaching items first → begin ≡ first_of lo items slot → slot < length items → begin < first
    → with_joined (fold with_joined start (take slot items)) (record (get_or items slot d) { last = first - 1 }) ≡ fold with_joined start (items_below lo items first)
below_cut start lo first slot begin items d is begins within below =
    let cut : cut_item (first_of lo items slot) first (drop slot items) ≡ record (get_or items slot d) { last = first - 1 } ∷ [] = rw (drop_more items slot d within, sym begins, lt-ltb begin first below) refl in
    rw (sym is, cut) (sym (fold-append with_joined start (take slot items) (record (get_or items slot d) { last = first - 1 } ∷ [])))

pub below_whole : (start : List Item) (lo first slot begin : ℕ) (items : List Item) → slot ≡ slot_reaching items first → begin ≡ first_of lo items slot → first ≤ begin
    → fold with_joined start (take slot items) ≡ fold with_joined start (items_below lo items first)
below_whole start lo first slot begin items is begins above =
    let none : cut_item (first_of lo items slot) first (drop slot items) ≡ [] = none_cut (drop slot items) in
    rw (sym is, none, append-nil (take slot items)) refl
  where
    none_cut : (rest : List Item) → cut_item (first_of lo items slot) first rest ≡ []
    none_cut [] = refl
    none_cut (x ∷ rest) = rw (sym begins, le-ltb begin first above) refl

pub reaching_some : (items : List Item) (d index : ℕ) → 1 ≤ length items → index ≤ end_of d items → slot_reaching items index < length items
reaching_some [] d index some reach = absurd (omega arith)
reaching_some (x ∷ []) d index some reach = rw (le-ltb x.last index reach) (omega arith)
reaching_some (x ∷ y ∷ items) d index some reach = elim (cases_Bool (nat_lt x.last index)) [
  | inl t ↦ let behind = reaching_some (y ∷ items) x.last index (omega arith) reach in rw t (omega (arith, behind))
  | inr n ↦ rw n (omega arith)
]

pub reaching_le_above : (items : List Item) (first last : ℕ) → first ≤ last → slot_reaching items first ≤ slot_above items last
reaching_le_above [] first last order = omega arith
reaching_le_above (x ∷ items) first last order = elim (cases_Bool (nat_lt x.last first)) [
  | inl t ↦
      let below : x.last < first = ltb-true x.last first t in
      let behind = reaching_le_above items first last order in
      rw (t, le-leb x.last last (omega arith)) (omega (arith, behind))
  | inr n ↦ rw n (omega arith)
]

-- ---- what is pushed

-- the item of the store
abbrev pub item_stored : ℕ → ℕ → Item
item_stored last entry = record { last = last; word = entry; gap = 0 }

-- Of items of a region, what stands below the store is pushed, then the item of the store, then the items above it: that is
-- the store on their spans, with holes joined.
pub pushed_edit : (lo first last entry : ℕ) (items made : List Item) → 1 ≤ length items → RiseFrom lo items → lo ≤ first → first ≤ last → last ≤ end_of 0 items
    → made ≡ fold with_joined (with_joined (fold with_joined [] (items_below lo items first)) (item_stored last entry)) (drop (slot_above items last) items)
    → spans_from lo made ≡ edited (spans_from lo items) first last entry
pushed_edit lo first last entry items made some rise from order to is =
    let below = items_below lo items first in
    let above = drop (slot_above items last) items in
    let ends = after-items_below lo first items rise from (omega (arith, after_some lo 0 items some)) in
    let parts : spans_from lo (below ++ (item_stored last entry ∷ above)) ≡ stored (spans_from lo items) first last entry =
    spans-append lo below (item_stored last entry ∷ above)
    ∙ (λ i. items_below-spans lo first items rise i ++ (span_stored (ends i) last entry ∷ items_above-spans lo last items rise (omega arith) i)) in
    ap (spans_from lo) (is ∙ sym (fold-append with_joined [] below (item_stored last entry ∷ above)))
    ∙ (all_pushed lo (below ++ (item_stored last entry ∷ above)) ∙ ap holes_joined parts)

-- and where the items have no gaps neither have those that are made
pub no_gaps-edit : (lo first last entry : ℕ) (items made : List Item)
    → made ≡ fold with_joined (with_joined (fold with_joined [] (items_below lo items first)) (item_stored last entry)) (drop (slot_above items last) items)
    → NoGaps items → NoGaps made
no_gaps-edit lo first last entry items made is none =
    let slot = slot_reaching items first in
    let below = no_gaps-append (take slot items) (cut_item (first_of lo items slot) first (drop slot items)) (no_gaps-take slot items none) (cut (first_of lo items slot) (drop slot items) (no_gaps-drop slot items none)) in
    subst NoGaps (sym is)
    (no_gaps-pushed (with_joined (fold with_joined [] (items_below lo items first)) (item_stored last entry)) (drop (slot_above items last) items)
    (no_gaps-with_joined (fold with_joined [] (items_below lo items first)) (item_stored last entry) (no_gaps-pushed [] (items_below lo items first) refl below) refl)
    (no_gaps-drop (slot_above items last) items none))
  where
    cut : (begin : ℕ) (rest : List Item) → NoGaps rest → NoGaps (cut_item begin first rest)
    cut begin [] none = refl
    cut begin (x ∷ rest) none = elim (cases_Bool (nat_lt begin first)) [ inl t ↦ rw t (no_gaps-cons (record x { last = first - 1 }) [] (no_gap_first x rest none) refl) | inr n ↦ rw n refl ]

pub ruleset steps = (below_cut, below_whole, reaching_some, reaching_le_above)
