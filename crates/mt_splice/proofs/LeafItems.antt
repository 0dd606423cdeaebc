-- Items of a leaf below an index and above one, by the slot that holds it.
use Rattle.mt_splice.proofs.Prelude.{◌≡◌, ℕ, zero, suc, ◌+◌, ◌-◌, ◌<◌, ◌≤◌, List, [], ◌∷◌, ◌++◌, Bool, cond, length, nat_lt, nat_le, take, drop, fold, refl, sym, ap, ◌∙◌, inl, inr, arith, append-nil, slice_index, prefix_len, filter, cases_Bool, ltb-true, ltb-false, lt-ltb, le-ltb, lt-leb, le-leb, Item, Span, RiseFrom, pivot_column, item_at, items_from, spans_from, BeginsFull, Apart, slot_reaching, first_of, with_joined, cut_item, items_below}
use Rattle.mt_leaf.specs.Places.{slot_above}

-- ---- the slot that holds an index

pub spans-prefix : (p : ℕ → Bool) (lo : ℕ) (items : List Item) → prefix_len (λ (x : Span). p x.last) (spans_from lo items) ≡ prefix_len (λ (x : Item). p x.last) items
spans-prefix p lo [] = refl
spans-prefix p lo (x ∷ items) = ap (λ (n : ℕ). cond (p x.last) (1 + n) 0) (spans-prefix p (x.last + 1) items)

-- the first index of a slot is told by the items before it
pub first_of-take : (lo slot : ℕ) (items : List Item) → first_of lo (take slot items) slot ≡ first_of lo items slot
first_of-take lo zero items = refl
first_of-take lo (suc slot) [] = refl
first_of-take lo (suc slot) (x ∷ items) = first_of-take (x.last + 1) slot items

-- the slot that holds an index begins there or below
pub first_reaching : (lo index : ℕ) (items : List Item) → lo ≤ index → first_of lo items (slot_reaching items index) ≤ index
first_reaching lo index [] from = from
first_reaching lo index (x ∷ items) from = elim (cases_Bool (nat_lt x.last index)) [
  | inl t ↦
      let below : x.last < index = ltb-true x.last index t in
      let next : 1 + slot_reaching items index ≡ suc (slot_reaching items index) = omega arith in
      rw (t, next) (first_reaching (x.last + 1) index items (omega arith))
  | inr n ↦ rw n from
]

-- ---- below

pub length-items_below : (lo index : ℕ) (items : List Item) → length (items_below lo items index) ≤ length items
length-items_below lo index [] = omega arith
length-items_below lo index (x ∷ items) = elim (cases_Bool (nat_lt x.last index)) [
  | inl t ↦
      let next : 1 + slot_reaching items index ≡ suc (slot_reaching items index) = omega arith in
      let rest = length-items_below (x.last + 1) index items in
      rw (t, next) (omega (arith, rest))
  | inr n ↦ elim (cases_Bool (nat_lt lo index)) [ inl b ↦ rw (n, b) (omega arith) | inr a ↦ rw (n, a) (omega arith) ]
]

begins_below : (lo index : ℕ) (items : List Item) → BeginsFull (spans_from lo items) → BeginsFull (spans_from lo (items_below lo items index))
begins_below lo index [] full = tt
begins_below lo index (x ∷ items) full = elim (cases_Bool (nat_lt x.last index)) [
  | inl t ↦ let next : 1 + slot_reaching items index ≡ suc (slot_reaching items index) = omega arith in rw (t, next) full
  | inr n ↦ elim (cases_Bool (nat_lt lo index)) [ inl b ↦ rw (n, b) full | inr a ↦ rw (n, a) tt ]
]

pub apart_below : (lo index : ℕ) (items : List Item) → Apart (spans_from lo items) → Apart (spans_from lo (items_below lo items index))
apart_below lo index [] apart = tt
apart_below lo index (x ∷ items) apart = elim (cases_Bool (nat_lt x.last index)) [
  | inl t ↦
      let next : 1 + slot_reaching items index ≡ suc (slot_reaching items index) = omega arith in
      rw (t, next) ((λ hole. begins_below (x.last + 1) index items (apart.0 hole)), apart_below (x.last + 1) index items apart.1)
  | inr n ↦ elim (cases_Bool (nat_lt lo index)) [ inl b ↦ rw (n, b) ((λ _. tt), tt) | inr a ↦ rw (n, a) tt ]
]

-- all items before the slot, where that one begins at the index
pub whole_below : (lo index : ℕ) (items : List Item) → index ≤ first_of lo items (slot_reaching items index) → take (slot_reaching items index) items ≡ items_below lo items index
whole_below lo index items from =
    let slot = slot_reaching items index in
    sym (append-nil (take slot items)) ∙ ap (λ (l : List Item). take slot items ++ l) (sym (none_cut (drop slot items)))
  where
    none_cut : (rest : List Item) → cut_item (first_of lo items (slot_reaching items index)) index rest ≡ []
    none_cut [] = refl
    none_cut (x ∷ rest) = rw (le-ltb (first_of lo items (slot_reaching items index)) index from) refl

-- and with them the part of the item in the slot
pub part_below : (lo index : ℕ) (items rest : List Item) (x : Item) → first_of lo items (slot_reaching items index) < index → drop (slot_reaching items index) items ≡ x ∷ rest
    → take (slot_reaching items index) items ++ (record x { last = index - 1 } ∷ []) ≡ items_below lo items index
part_below lo index items rest x from here =
    let slot = slot_reaching items index in
    let cut : cut_item (first_of lo items slot) index (drop slot items) ≡ record x { last = index - 1 } ∷ [] = ap (cut_item (first_of lo items slot) index) here ∙ rw (lt-ltb (first_of lo items slot) index from) refl in
    ap (λ (l : List Item). take slot items ++ l) (sym cut)

-- ---- above

-- the items that end above an index
abbrev pub ending_above : ℕ → List Item → List Item
ending_above last items = filter (λ (x : Item). nat_lt last x.last) items

all_above : (lo last : ℕ) (items : List Item) → RiseFrom lo items → last < lo → ending_above last items ≡ items
all_above lo last [] rise past = refl
all_above lo last (x ∷ items) rise past =
    let from = rise.0 in
    rw (lt-ltb last x.last (omega arith)) (ap (λ (l : List Item). x ∷ l) (all_above (x.last + 1) last items rise.1 (omega arith)))

first_above : (lo last : ℕ) (items : List Item) → RiseFrom lo items → last < lo → slot_above items last ≡ 0
first_above lo last [] rise past = refl
first_above lo last (x ∷ items) rise past = let from = rise.0 in rw (lt-leb x.last last (omega arith)) refl

-- those from the slot on that holds it
pub above_slot : (lo last : ℕ) (items : List Item) → RiseFrom lo items → ending_above last (drop (slot_reaching items last) items) ≡ drop (slot_above items last) items
above_slot lo last [] rise = refl
above_slot lo last (x ∷ items) rise = elim (cases_Bool (nat_lt x.last last)) [
  | inl t ↦
      let below : x.last < last = ltb-true x.last last t in
      let next : 1 + slot_reaching items last ≡ suc (slot_reaching items last) = omega arith in
      let behind : 1 + slot_above items last ≡ suc (slot_above items last) = omega arith in
      rw (t, next, le-leb x.last last (omega arith), behind) (above_slot (x.last + 1) last items rise.1)
  | inr n ↦
      let reaches : last ≤ x.last = ltb-false x.last last n in
      elim (cases_Bool (nat_lt last x.last)) [
        | inl above ↦
            let past : last < x.last = ltb-true last x.last above in
            rw (n, lt-leb x.last last past) (rw above (ap (λ (l : List Item). x ∷ l) (all_above (x.last + 1) last items rise.1 (omega arith))))
        | inr here ↦
            let ends : x.last ≤ last = ltb-false last x.last here in
            let first = first_above (x.last + 1) last items rise.1 (omega arith) in
            rw (n, le-leb x.last last ends, first) (rw here (all_above (x.last + 1) last items rise.1 (omega arith)))
      ]
]

-- one item more
pub one_above : (last : ℕ) (run rest : List Item) (x : Item) → fold with_joined run (ending_above last (x ∷ rest)) ≡ fold with_joined (fold with_joined run (ending_above last (x ∷ []))) (ending_above last rest)
one_above last run rest x = elim (cases_Bool (nat_lt last x.last)) [ inl t ↦ rw t refl | inr n ↦ rw n refl ]

-- ---- the item in a slot

module _ (slots gaps : ℕ) (w : List ℕ) (base max : ℕ) where
  pub item_in : (left i : ℕ) → 1 ≤ left → (last : ℕ) × (rest : List Item) × (items_from slots gaps w base max left i ≡ item_at slots gaps w base i last ∷ rest)
  item_in zero i some = absurd (omega arith)
  item_in (suc zero) i some = (max, [], refl)
  item_in (suc (suc left)) i some = elim (cases_Bool (nat_le max (slice_index w (base + pivot_column i)))) [
    | inl last ↦ (slice_index w (base + pivot_column i), [], rw last refl)
    | inr more ↦ (slice_index w (base + pivot_column i), items_from slots gaps w base max (suc left) (i + 1), rw more refl)
  ]
