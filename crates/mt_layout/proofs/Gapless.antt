-- Items that tell no gap, alone and in parts; they are one with their spans. For the proofs of the crates above.
use Rattle.mt_layout.proofs.Prelude.{◌≡◌, ℕ, zero, suc, ◌+◌, List, [], ◌∷◌, ◌++◌, map, take, drop, nat_le, refl, sym, ap, ◌∙◌, inl, inr, slice_index, cases_Bool, Item, pivot_column, items_from, items_at, NoGaps, Span, spans_from, Fills}

pub no_gaps-cons : (x : Item) (items : List Item) → x.gap ≡ 0 → NoGaps items → NoGaps (x ∷ items)
no_gaps-cons x items here behind = λ i. here i ∷ behind i

pub no_gap_first : (x : Item) (items : List Item) → NoGaps (x ∷ items) → x.gap ≡ 0
no_gap_first x items none = cc

pub no_gaps_behind : (x : Item) (items : List Item) → NoGaps (x ∷ items) → NoGaps items
no_gaps_behind x items none = cc

pub no_gaps-append : (xs ys : List Item) → NoGaps xs → NoGaps ys → NoGaps (xs ++ ys)
no_gaps-append [] ys front back = back
no_gaps-append (x ∷ xs) ys front back = no_gaps-cons x (xs ++ ys) (no_gap_first x xs front) (no_gaps-append xs ys (no_gaps_behind x xs front) back)

pub no_gaps-take : (k : ℕ) (items : List Item) → NoGaps items → NoGaps (take k items)
no_gaps-take zero items none = refl
no_gaps-take (suc k) [] none = refl
no_gaps-take (suc k) (x ∷ items) none = no_gaps-cons x (take k items) (no_gap_first x items none) (no_gaps-take k items (no_gaps_behind x items none))

pub no_gaps-drop : (k : ℕ) (items : List Item) → NoGaps items → NoGaps (drop k items)
no_gaps-drop zero items none = none
no_gaps-drop (suc k) [] none = refl
no_gaps-drop (suc k) (x ∷ items) none = no_gaps-drop k items (no_gaps_behind x items none)

-- rows without columns of gaps hold such items
pub no_gaps-items_from : (slots : ℕ) (w : List ℕ) (base max left i : ℕ) → NoGaps (items_from slots 0 w base max left i)
no_gaps-items_from slots w base max zero i = refl
no_gaps-items_from slots w base max (suc zero) i = refl
no_gaps-items_from slots w base max (suc (suc left)) i = elim (cases_Bool (nat_le max (slice_index w (base + pivot_column i)))) [
  | inl last ↦ rw last refl
  | inr more ↦ rw more (ap (λ (l : List ℕ). 0 ∷ l) (no_gaps-items_from slots w base max (suc left) (i + 1)))
]

pub no_gaps-items_at : (slots : ℕ) (w : List ℕ) (base max : ℕ) → NoGaps (items_at slots 0 w base max)
no_gaps-items_at slots w base max = no_gaps-items_from slots w base max slots 0

-- ---- items and their spans

abbrev pub item_of : Span → Item
item_of x = record { last = x.last; word = x.word; gap = 0 }

pub no_gaps-items_of : (xs : List Span) → NoGaps (map item_of xs)
no_gaps-items_of [] = refl
no_gaps-items_of (x ∷ xs) = no_gaps-cons (item_of x) (map item_of xs) refl (no_gaps-items_of xs)

pub items_of-spans_from : (first : ℕ) (items : List Item) → NoGaps items → map item_of (spans_from first items) ≡ items
items_of-spans_from first [] none = refl
items_of-spans_from first (x ∷ items) none =
    let here = no_gap_first x items none in
    let behind = items_of-spans_from (x.last + 1) items (no_gaps_behind x items none) in
    λ i. record x { gap = sym here i } ∷ behind i

pub spans_from-items_of : (lo hi : ℕ) (xs : List Span) → Fills lo hi xs → spans_from lo (map item_of xs) ≡ xs
spans_from-items_of lo hi [] fills = refl
spans_from-items_of lo hi (x ∷ xs) fills =
    let first = fills.0 in
    let behind = spans_from-items_of (x.last + 1) hi xs fills.2 in
    λ i. record x { first = sym first i } ∷ behind i

pub same_items : (first : ℕ) (xs ys : List Item) → NoGaps xs → NoGaps ys → spans_from first xs ≡ spans_from first ys → xs ≡ ys
same_items first xs ys none none' same = sym (items_of-spans_from first xs none) ∙ (ap (map item_of) same ∙ items_of-spans_from first ys none')
