-- Lists of spans: how they fill indexes, the items that they are made of, and the holes in them. For the proofs of the crates
-- above.
use Rattle.mt_layout.proofs.Prelude.{◌≡◌, ◌≢◌, ℕ, zero, suc, ◌+◌, ◌<◌, ◌≤◌, ◌==◌, List, [], ◌∷◌, ◌++◌, length, map, take, drop, refl, sym, ap, ◌∙◌, subst, inl, inr, arith, slice_index_or, flat_map, cases_Bool, eqb-true, Range, Item, Span, RiseFrom, end_of, spans_from, leaf_range, Fills, BeginsFull, Apart, EndsFull}

-- ---- spans end to end

pub fills_le : (lo hi : ℕ) (xs : List Span) → Fills lo hi xs → lo ≤ hi
fills_le lo hi [] fills = omega arith
fills_le lo hi (x ∷ xs) fills = let behind = fills_le (x.last + 1) hi xs fills.2 in omega (arith, fills.1)

pub fills-append : (lo middle hi : ℕ) (xs ys : List Span) → Fills lo middle xs → Fills middle hi ys → Fills lo hi (xs ++ ys)
fills-append lo middle hi [] ys front back = subst (λ (k : ℕ). Fills k hi ys) (sym front) back
fills-append lo middle hi (x ∷ xs) ys front back = (front.0, front.1, fills-append (x.last + 1) middle hi xs ys front.2 back)

pub fills_parts : (lo hi : ℕ) (xs ys : List Span) → Fills lo hi (xs ++ ys) → (middle : ℕ) × Fills lo middle xs × Fills middle hi ys
fills_parts lo hi [] ys fills = (lo, refl, fills)
fills_parts lo hi (x ∷ xs) ys fills = let rest = fills_parts (x.last + 1) hi xs ys fills.2 in (rest.0, (fills.0, fills.1, rest.1), rest.2)

-- around one of them
pub fills_split : (lo hi : ℕ) (front : List Span) (x : Span) (back : List Span) → Fills lo hi (front ++ (x ∷ back)) → Fills lo x.first front × (x.first ≤ x.last) × Fills (x.last + 1) hi back
fills_split lo hi [] x back fills = (sym fills.0, (let begins = fills.0 in let ends = fills.1 in omega arith), fills.2)
fills_split lo hi (y ∷ front) x back fills = let behind = fills_split (y.last + 1) hi front x back fills.2 in ((fills.0, fills.1, behind.0), behind.1, behind.2)

pub some_filled : (lo hi : ℕ) (xs : List Span) → Fills lo hi xs → lo < hi → 1 ≤ length xs
some_filled lo hi [] fills wide = let same : lo ≡ hi = fills in absurd (omega arith)
some_filled lo hi (x ∷ xs) fills wide = omega arith

pub none_filled : (lo hi : ℕ) (xs : List Span) → Fills lo hi xs → hi ≤ lo → xs ≡ []
none_filled lo hi [] fills past = refl
none_filled lo hi (x ∷ xs) fills past = let least = fills.1 in let rest = fills_le (x.last + 1) hi xs fills.2 in absurd (omega arith)

-- ---- the items that spans are made of

pub length-spans_from : (first : ℕ) (items : List Item) → length (spans_from first items) ≡ length items
length-spans_from first [] = refl
length-spans_from first (x ∷ items) = ap suc (length-spans_from (x.last + 1) items)

-- the index behind the last item, where the first begins at `lo`
abbrev pub after : ℕ → List Item → ℕ
after lo [] = lo
after lo (x ∷ items) = after (x.last + 1) items

pub after-append : (lo : ℕ) (xs ys : List Item) → after lo (xs ++ ys) ≡ after (after lo xs) ys
after-append lo [] ys = refl
after-append lo (x ∷ xs) ys = after-append (x.last + 1) xs ys

pub after_some : (lo d : ℕ) (items : List Item) → 1 ≤ length items → after lo items ≡ end_of d items + 1
after_some lo d [] some = absurd (omega arith)
after_some lo d (x ∷ []) some = refl
after_some lo d (x ∷ y ∷ items) some = after_some (x.last + 1) x.last (y ∷ items) (omega arith)

pub spans-append : (lo : ℕ) (xs ys : List Item) → spans_from lo (xs ++ ys) ≡ spans_from lo xs ++ spans_from (after lo xs) ys
spans-append lo [] ys = refl
spans-append lo (x ∷ xs) ys = ap (λ (l : List Span). record { first = lo; last = x.last; word = x.word } ∷ l) (spans-append (x.last + 1) xs ys)

pub spans_from-append : (first : ℕ) (xs ys : List Item) → 1 ≤ length xs → spans_from first (xs ++ ys) ≡ spans_from first xs ++ spans_from (end_of 0 xs + 1) ys
spans_from-append first xs ys some = spans-append first xs ys ∙ ap (λ (k : ℕ). spans_from first xs ++ spans_from k ys) (after_some first 0 xs some)

pub spans-take : (k lo : ℕ) (items : List Item) → spans_from lo (take k items) ≡ take k (spans_from lo items)
spans-take zero lo items = refl
spans-take (suc k) lo [] = refl
spans-take (suc k) lo (x ∷ items) = ap (λ (l : List Span). record { first = lo; last = x.last; word = x.word } ∷ l) (spans-take k (x.last + 1) items)

pub spans-drop : (k lo : ℕ) (items : List Item) → spans_from (after lo (take k items)) (drop k items) ≡ drop k (spans_from lo items)
spans-drop zero lo items = refl
spans-drop (suc k) lo [] = refl
spans-drop (suc k) lo (x ∷ items) = spans-drop k (x.last + 1) items

pub spans-words : (lo : ℕ) (items : List Item) → map (λ (x : Span). x.word) (spans_from lo items) ≡ map (λ (x : Item). x.word) items
spans-words lo [] = refl
spans-words lo (x ∷ items) = ap (λ (l : List ℕ). x.word ∷ l) (spans-words (x.last + 1) items)

-- ---- items that rise fill what they cover

pub rise_fills : (lo : ℕ) (items : List Item) → RiseFrom lo items → Fills lo (after lo items) (spans_from lo items)
rise_fills lo [] rise = refl
rise_fills lo (x ∷ items) rise = (refl, rise.0, rise_fills (x.last + 1) items rise.1)

pub spans_fill : (min d : ℕ) (items : List Item) → 1 ≤ length items → RiseFrom min items → Fills min (end_of d items + 1) (spans_from min items)
spans_fill min d items some rise = subst (λ (k : ℕ). Fills min k (spans_from min items)) (after_some min d items some) (rise_fills min items rise)

pub fills_rise : (lo hi : ℕ) (items : List Item) → Fills lo hi (spans_from lo items) → RiseFrom lo items
fills_rise lo hi [] fills = tt
fills_rise lo hi (x ∷ items) fills = (fills.1, fills_rise (x.last + 1) hi items fills.2)

pub fills_after : (lo hi : ℕ) (items : List Item) → Fills lo hi (spans_from lo items) → hi ≡ after lo items
fills_after lo hi [] fills = sym fills
fills_after lo hi (x ∷ items) fills = fills_after (x.last + 1) hi items fills.2

pub fills_end : (lo begin hi d : ℕ) (items : List Item) → 1 ≤ length items → Fills lo hi (spans_from begin items) → hi ≡ end_of d items + 1
fills_end lo begin hi d [] some fills = absurd (omega arith)
fills_end lo begin hi d (x ∷ []) some fills = sym fills.2
fills_end lo begin hi d (x ∷ y ∷ items) some fills = fills_end (x.last + 1) (x.last + 1) hi x.last (y ∷ items) (omega arith) fills.2

pub fills_items : (lo hi : ℕ) (xs ys : List Item) → Fills lo hi (spans_from lo (xs ++ ys)) → Fills lo (after lo xs) (spans_from lo xs) × Fills (after lo xs) hi (spans_from (after lo xs) ys)
fills_items lo hi [] ys fills = (refl, fills)
fills_items lo hi (x ∷ xs) ys fills = let rest = fills_items (x.last + 1) hi xs ys fills.2 in ((refl, fills.1, rest.0), rest.1)

pub rise_from_zero : (min : ℕ) (items : List Item) → RiseFrom min items → RiseFrom 0 items
rise_from_zero min [] rise = tt
rise_from_zero min (x ∷ items) rise = (omega arith, rise.1)

-- the last item ends where the items do
pub last_ends : (x : Item) (k d : ℕ) (items : List Item) → k + 1 ≡ length items → (slice_index_or items k x).last ≡ end_of d items
last_ends x k d [] at = absurd (omega arith)
last_ends x zero d (y ∷ []) at = refl
last_ends x zero d (y ∷ z ∷ items) at = absurd (omega arith)
last_ends x (suc k) d (y ∷ []) at = absurd (omega arith)
last_ends x (suc k) d (y ∷ z ∷ items) at = last_ends x k y.last (z ∷ items) (omega arith)

-- ---- holes

pub apart_front : (xs ys : List Span) → Apart (xs ++ ys) → Apart xs
apart_front [] ys apart = tt
apart_front (x ∷ xs) ys apart = (λ hole. begins xs (apart.0 hole), apart_front xs ys apart.1)
  where
    begins : (xs : List Span) → BeginsFull (xs ++ ys) → BeginsFull xs
    begins [] full = tt
    begins (y ∷ xs) full = full

pub apart_back : (xs ys : List Span) → Apart (xs ++ ys) → Apart ys
apart_back [] ys apart = apart
apart_back (x ∷ xs) ys apart = apart_back xs ys apart.1

-- where the first of two lists ends with an entry no two holes meet
pub apart-append : (xs ys : List Span) → Apart xs → EndsFull xs → Apart ys → Apart (xs ++ ys)
apart-append [] ys front full back = back
apart-append (x ∷ []) ys front full back = ((λ hole. absurd (full hole)), back)
apart-append (x ∷ y ∷ xs) ys front full back = (front.0, apart-append (y ∷ xs) ys front.1 full back)

-- on both sides of a hole stand entries
pub full_before_hole : (front : List Span) (x : Span) (back : List Span) → Apart (front ++ (x ∷ back)) → x.word ≡ 0 → EndsFull front
full_before_hole [] x back apart hole = tt
full_before_hole (y ∷ []) x back apart hole = λ other. apart.0 other hole
full_before_hole (y ∷ z ∷ front) x back apart hole = full_before_hole (z ∷ front) x back apart.1 hole

pub full_behind_hole : (front : List Span) (x : Span) (back : List Span) → Apart (front ++ (x ∷ back)) → x.word ≡ 0 → BeginsFull back
full_behind_hole [] x back apart hole = apart.0 hole
full_behind_hole (y ∷ front) x back apart hole = full_behind_hole front x back apart.1 hole

-- holes do not depend on where the items begin
pub apart_anywhere : (lo begin : ℕ) (items : List Item) → Apart (spans_from lo items) → Apart (spans_from begin items)
apart_anywhere lo begin [] apart = tt
apart_anywhere lo begin (x ∷ items) apart = apart

pub ends_anywhere : (lo begin : ℕ) (items : List Item) → EndsFull (spans_from lo items) → EndsFull (spans_from begin items)
ends_anywhere lo begin [] full = tt
ends_anywhere lo begin (x ∷ []) full = full
ends_anywhere lo begin (x ∷ y ∷ items) full = full

-- spans end as the last of two lists does
pub full_back : (xs ys : List Span) → 1 ≤ length ys → EndsFull (xs ++ ys) → EndsFull ys
full_back [] ys some full = full
full_back (x ∷ []) [] some full = absurd (omega arith)
full_back (x ∷ []) (y ∷ ys) some full = full
full_back (x ∷ z ∷ xs) ys some full = full_back (z ∷ xs) ys some full

pub full-append : (xs ys : List Span) → 1 ≤ length ys → EndsFull ys → EndsFull (xs ++ ys)
full-append [] ys some full = full
full-append (x ∷ []) [] some full = absurd (omega arith)
full-append (x ∷ []) (y ∷ ys) some full = full
full-append (x ∷ z ∷ xs) ys some full = full-append (z ∷ xs) ys some full

-- of two spans that are no two holes one is an entry
pub two_hold_an_entry : (xs : List Span) → Apart xs → 2 ≤ length xs → flat_map leaf_range xs ≢ []
two_hold_an_entry [] apart two = absurd (omega arith)
two_hold_an_entry (x ∷ []) apart two = absurd (omega arith)
two_hold_an_entry (x ∷ y ∷ ys) apart two = elim (cases_Bool (x.word == 0)) [
  | inl hole ↦ elim (cases_Bool (y.word == 0)) [ inl too ↦ absurd (apart.0 (eqb-true x.word 0 hole) (eqb-true y.word 0 too)) | inr entry ↦ rw (hole, entry) (λ none. filled y (flat_map leaf_range ys) none) ]
  | inr entry ↦ rw entry (λ none. filled x (flat_map leaf_range (y ∷ ys)) none)
]
  where
    filled : (z : Span) (rs : List Range) → record { first = z.first; last = z.last; entry = z.word } ∷ rs ≡ [] → ⊥
    filled z rs none = cc
