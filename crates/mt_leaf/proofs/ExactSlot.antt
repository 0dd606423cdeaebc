-- Of items that rise, only the one in the slot that reaches an index can begin at it.
use Rattle.mt_leaf.proofs.Prelude.{◌≡◌, ℕ, suc, ◌+◌, ◌<◌, ◌≤◌, ◌==◌, ◌&&◌, not, nat_lt, Bool, true, false, Option, Some, None, List, [], ◌∷◌, length, get_or, drop, refl, sym, ap, ◌∙◌, inl, inr, arith, if◌then◌else◌, position, position_or_len, option_map, cases_Bool, ltb-true, ltb-false, lt-ltb, le-ltb, eqb-true, eqb-false, ne_eqb, eq-eqb, drop_more, drop_all, Item, Span, RiseFrom, spans_from, exact_slot_of, slot_reaching, first_of}

abbrev is_exact : ℕ → ℕ → Span → Bool
is_exact first last x = (x.first == first) && ((x.last == last) && not (x.word == 0))

not_here : (p : Span → Bool) (x : Span) (xs : List Span) → p x ≡ false → position p (x ∷ xs) ≡ option_map suc (position p xs)
not_here p x xs fails = elim (cases_Bool (nat_lt (position_or_len p xs) (length xs))) [
  | inl t ↦
      let next : 1 + position_or_len p xs ≡ suc (position_or_len p xs) = omega arith in
      let within : nat_lt (suc (position_or_len p xs)) (suc (length xs)) ≡ true = lt-ltb (suc (position_or_len p xs)) (suc (length xs)) (let h : position_or_len p xs < length xs = ltb-true (position_or_len p xs) (length xs) t in omega arith) in
      rw (fails, next, within, t) refl
  | inr n ↦
      let next : 1 + position_or_len p xs ≡ suc (position_or_len p xs) = omega arith in
      let past : nat_lt (suc (position_or_len p xs)) (suc (length xs)) ≡ false = le-ltb (suc (position_or_len p xs)) (suc (length xs)) (let h : length xs ≤ position_or_len p xs = ltb-false (position_or_len p xs) (length xs) n in omega arith) in
      rw (fails, next, past, n) refl
]

at_front : (p : Span → Bool) (x : Span) (xs : List Span) → p x ≡ true → position p (x ∷ xs) ≡ Some 0
at_front p x xs passes = let some : nat_lt 0 (suc (length xs)) ≡ true = lt-ltb 0 (suc (length xs)) (omega arith) in rw (passes, some) refl

begins_elsewhere : (first last : ℕ) (x : Span) → (x.first ≡ first → ⊥) → is_exact first last x ≡ false
begins_elsewhere first last x other = rw (ne_eqb x.first first other) refl

none_behind : (lo first last : ℕ) (items : List Item) → RiseFrom lo items → first < lo → exact_slot_of (spans_from lo items) first last ≡ None
none_behind lo first last [] rise above = refl
none_behind lo first last (x ∷ items) rise above =
    let span : Span = record { first = lo; last = x.last; word = x.word } in
    let low = rise.0 in
    not_here (is_exact first last) span (spans_from (x.last + 1) items) (begins_elsewhere first last span (λ e. omega arith))
    ∙ ap (option_map suc) (none_behind (x.last + 1) first last items rise.1 (omega arith))

-- the slot, where the first of these items is the entry that begins at `begin` and is looked for
abbrev if_exact : ℕ → ℕ → ℕ → ℕ → List Item → Option ℕ
if_exact begin first last slot [] = None
if_exact begin first last slot (x ∷ items) = if (begin == first) && ((x.last == last) && not (x.word == 0)) then Some slot else None

if_exact-suc : (begin first last slot : ℕ) (items : List Item) → option_map suc (if_exact begin first last slot items) ≡ if_exact begin first last (suc slot) items
if_exact-suc begin first last slot [] = refl
if_exact-suc begin first last slot (x ∷ items) = elim (cases_Bool ((begin == first) && ((x.last == last) && not (x.word == 0)))) [ inl t ↦ rw t refl | inr n ↦ rw n refl ]

exact_or_none : (lo first last : ℕ) (items : List Item) → RiseFrom lo items
    → exact_slot_of (spans_from lo items) first last ≡ if_exact (first_of lo items (slot_reaching items first)) first last (slot_reaching items first) (drop (slot_reaching items first) items)
exact_or_none lo first last [] rise = refl
exact_or_none lo first last (x ∷ items) rise =
    let span : Span = record { first = lo; last = x.last; word = x.word } in
    let low = rise.0 in
    elim (cases_Bool (nat_lt x.last first)) [
      | inl t ↦
          let below : x.last < first = ltb-true x.last first t in
          let next : 1 + slot_reaching items first ≡ suc (slot_reaching items first) = omega arith in
          rw (t, next)
          (not_here (is_exact first last) span (spans_from (x.last + 1) items) (begins_elsewhere first last span (λ e. omega arith))
          ∙ (ap (option_map suc) (exact_or_none (x.last + 1) first last items rise.1)
          ∙ if_exact-suc (first_of (x.last + 1) items (slot_reaching items first)) first last (slot_reaching items first) (drop (slot_reaching items first) items)))
      | inr n ↦
          let reaches : first ≤ x.last = ltb-false x.last first n in
          rw n (elim (cases_Bool (is_exact first last span)) [
            | inl t ↦ let found : if_exact lo first last 0 (x ∷ items) ≡ Some 0 = rw t refl in at_front (is_exact first last) span (spans_from (x.last + 1) items) t ∙ sym found
            | inr f ↦
                let none : if_exact lo first last 0 (x ∷ items) ≡ None = rw f refl in
                not_here (is_exact first last) span (spans_from (x.last + 1) items) f ∙ (ap (option_map suc) (none_behind (x.last + 1) first last items rise.1 (omega arith)) ∙ sym none)
          ])
    ]

-- ---- the answers

pub none_reaches : (lo first last slot : ℕ) (items : List Item) → RiseFrom lo items → slot ≡ slot_reaching items first → length items ≤ slot → exact_slot_of (spans_from lo items) first last ≡ None
none_reaches lo first last slot items rise is past =
    exact_or_none lo first last items rise ∙ rw (sym is) (ap (if_exact (first_of lo items slot) first last slot) (drop_all slot items past))

module _ (lo first last slot begin : ℕ) (items : List Item) (item : Item) (rise : RiseFrom lo items) (is : slot ≡ slot_reaching items first) (begins : begin ≡ first_of lo items slot)
    (within : slot < length items) (here : item ≡ get_or items slot item) where
  as_asked : exact_slot_of (spans_from lo items) first last ≡ if_exact begin first last slot (item ∷ drop (slot + 1) items)
  as_asked = exact_or_none lo first last items rise ∙ rw (sym is, drop_more items slot item within, sym begins, sym here) refl

  pub exact : begin ≡ first → item.last ≡ last → (item.word ≡ 0 → ⊥) → exact_slot_of (spans_from lo items) first last ≡ Some slot
  exact from to entry = as_asked ∙ rw (eq-eqb begin first from, eq-eqb item.last last to, ne_eqb item.word 0 entry) refl

  pub not_exact : (begin ≡ first → item.last ≡ last → (item.word ≡ 0 → ⊥) → ⊥) → exact_slot_of (spans_from lo items) first last ≡ None
  not_exact other = as_asked ∙ elim (cases_Bool (begin == first)) [
    | inl a ↦ elim (cases_Bool (item.last == last)) [
      | inl b ↦ elim (cases_Bool (item.word == 0)) [
        | inl c ↦ rw (a, b, c) refl
        | inr c ↦ absurd (other (eqb-true begin first a) (eqb-true item.last last b) (eqb-false item.word 0 c))
      ]
      | inr b ↦ rw (a, b) refl
    ]
    | inr a ↦ rw a refl
  ]
