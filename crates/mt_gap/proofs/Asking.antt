-- Loops over the slots of a row: what is asked of the children before a slot, and what one more changes.
use Rattle.mt_gap.proofs.Prelude.{◌≡◌, ℕ, zero, suc, ◌+◌, ◌-◌, ◌^◌, ◌<◌, ◌≤◌, ◌&&◌, Bool, List, [], ◌∷◌, ◌++◌, true, false, max, Option, Some, None, length, take, refl, sym, ap, ◌∙◌, subst, inl, inr, arith, append-nil, append_assoc, length-append, if◌then◌else◌, nat_le, slice_index, AllByRecursion, flat_map, option_or, is_some, cases_Bool, lt-leb, flat_map-append, Width, Item, RowKind, Leaf, Inner, Gapped, pivot_column, items_from, items_at, row_in, named_kind, slots_of, gaps_of, gap_at-none, no_gaps_of, PathStep, Table, base_of, Span, hole_length, longest_in, Hole, kept, lowest_in, highest_in, Child, leaf_hole, child_hole, children_from, children_by, children_in, longest_gap, told_by, may_have, inside, narrow, narrow_up, next_up, has_sure, longest_in-append}
use Rattle.mt_gap.proofs.ChildLists.{spans, spans-append}
use Rattle.mt_gap.proofs.Kept.{kept-append}
use Rattle.mt_gap.proofs.NarrowedUp.{highest_back, highest_more}
use Rattle.mt_gap.proofs.RowLoops.{narrow_stops, narrow_goes_on}

-- ---- from the left

-- what is asked of the children before, among which none is sure
abbrev pub HasAsked : ℕ → ℕ → ℕ → List Child → List Child → List Child → Type 0
HasAsked n lo hi first next before = (next ≡ first ++ narrow n lo hi before) × (has_sure n lo hi before ≡ false)

sure-append : (n lo hi : ℕ) (xs ys : List Child) → has_sure n lo hi xs ≡ false → has_sure n lo hi (xs ++ ys) ≡ has_sure n lo hi ys
sure-append n lo hi [] ys none = refl
sure-append n lo hi (x ∷ xs) ys none = elim (cases_Bool (may_have n lo hi x && inside lo hi x)) [
  | inl sure ↦ absurd (let both : true ≡ false = (rw (← none, sure) refl) in cc)
  | inr less ↦ rw less (sure-append n lo hi xs ys (let rest : has_sure n lo hi xs ≡ false = (rw (← none, less) refl) in rest))
]

first_sure : (n lo hi : ℕ) (x : Child) (xs : List Child) → has_sure n lo hi (x ∷ []) ≡ true → has_sure n lo hi (x ∷ xs) ≡ true
first_sure n lo hi x xs sure = elim (cases_Bool (may_have n lo hi x && inside lo hi x)) [
  | inl is ↦ rw is refl
  | inr less ↦ absurd (let both : false ≡ true = (rw (← sure, less) refl) in cc)
]

-- where a child is told it is the one that may have room
pub room_some : (b : Bool) (x y : Child) → Some y ≡ (if b then Some x else None) → (b ≡ true) × (y ≡ x)
room_some true x y is = (refl, cc)
room_some false x y is = absurd (cc)

pub room_none : (b : Bool) (x : Child) → None ≡ (if b then Some x else None) → b ≡ false
room_none true x is = absurd (cc)
room_none false x is = refl

-- a child that may have room is asked
pub one_asked : (n lo hi : ℕ) (asked after : List Child) (x : Child) → may_have n lo hi x ≡ true → after ≡ asked ++ (x ∷ []) → (after ≡ asked ++ narrow n lo hi (x ∷ [])) × (inside lo hi x ≡ has_sure n lo hi (x ∷ []))
one_asked n lo hi asked after x may is = elim (cases_Bool (inside lo hi x)) [ inl in_it ↦ rw (may, in_it) (is, refl) | inr over ↦ rw (may, over) (is, refl) ]

module _ (n lo hi : ℕ) (first next before : List Child) (asks : HasAsked n lo hi first next before) (x : Child) where
  -- there is room for one more
  pub ask_room : (rest all : List Child) → before ++ (x ∷ rest) ≡ all → length first + length (narrow n lo hi all) ≤ 3 → length next + length (narrow n lo hi (x ∷ [])) ≤ 3
  ask_room rest all is room =
      let whole : length (narrow n lo hi all) ≡ length (narrow n lo hi before) + length (narrow n lo hi (x ∷ rest)) =
      ap (λ (l : List Child). length (narrow n lo hi l)) (sym is) ∙ (ap length (narrow_goes_on n lo hi before (x ∷ rest) asks.1) ∙ length-append (narrow n lo hi before) (narrow n lo hi (x ∷ rest))) in
      let had = ap length asks.0 ∙ length-append first (narrow n lo hi before) in
      let one = front (x ∷ []) rest in
      omega arith
    where
      front : (xs ys : List Child) → length (narrow n lo hi xs) ≤ length (narrow n lo hi (xs ++ ys))
      front xs ys = elim (cases_Bool (has_sure n lo hi xs)) [
        | inl sure ↦ (let same = ap length (narrow_stops n lo hi xs ys sure) in omega arith)
        | inr none ↦ (let same = ap length (narrow_goes_on n lo hi xs ys none) ∙ length-append (narrow n lo hi xs) (narrow n lo hi ys) in omega arith)
      ]

  with_one : (after : List Child) → after ≡ next ++ narrow n lo hi (x ∷ []) → after ≡ first ++ narrow n lo hi (before ++ (x ∷ []))
  with_one after is = is ∙ (ap (λ (l : List Child). l ++ narrow n lo hi (x ∷ [])) asks.0
      ∙ (append_assoc first (narrow n lo hi before) (narrow n lo hi (x ∷ [])) ∙ ap (λ (l : List Child). first ++ l) (sym (narrow_goes_on n lo hi before (x ∷ []) asks.1))))

  pub ask_on : (after : List Child) (sure : Bool) → after ≡ next ++ narrow n lo hi (x ∷ []) → sure ≡ has_sure n lo hi (x ∷ []) → sure ≡ false → HasAsked n lo hi first after (before ++ (x ∷ []))
  ask_on after sure is found not = (with_one after is, sure-append n lo hi before (x ∷ []) asks.1 ∙ (sym found ∙ not))

  -- nothing behind a sure one is asked
  pub ask_stops : (after rest all : List Child) (sure : Bool) → before ++ (x ∷ rest) ≡ all → after ≡ next ++ narrow n lo hi (x ∷ []) → sure ≡ has_sure n lo hi (x ∷ []) → sure ≡ true
      → (after ≡ first ++ narrow n lo hi all) × (true ≡ has_sure n lo hi all)
  ask_stops after rest all sure all_is is found true_is =
      let one : has_sure n lo hi (x ∷ []) ≡ true = sym found ∙ true_is in
      let upto : has_sure n lo hi (before ++ (x ∷ [])) ≡ true = sure-append n lo hi before (x ∷ []) asks.1 ∙ one in
      let parts : (before ++ (x ∷ [])) ++ rest ≡ all = append_assoc before (x ∷ []) rest ∙ all_is in (
        with_one after is ∙ ap (λ (l : List Child). first ++ l) (sym (narrow_stops n lo hi (before ++ (x ∷ [])) rest upto) ∙ ap (narrow n lo hi) parts),
        sym (ap (has_sure n lo hi) (sym all_is) ∙ (sure-append n lo hi before (x ∷ rest) asks.1 ∙ first_sure n lo hi x rest one)),
      )

pub asked_all : (n lo hi : ℕ) (first next before all : List Child) → HasAsked n lo hi first next before → before ≡ all → (next ≡ first ++ narrow n lo hi all) × (false ≡ has_sure n lo hi all)
asked_all n lo hi first next before all asks same = (asks.0 ∙ ap (λ (l : List Child). first ++ narrow n lo hi l) same, sym (ap (has_sure n lo hi) (sym same) ∙ asks.1))

-- ---- from the right

pub up-append : (n lo hi : ℕ) (acc xs ys : List Child) → narrow_up n lo hi acc (xs ++ ys) ≡ narrow_up n lo hi (narrow_up n lo hi acc xs) ys
up-append n lo hi acc [] ys = refl
up-append n lo hi acc (x ∷ xs) ys = up-append n lo hi (next_up n lo hi acc x) xs ys

abbrev pub HasAskedUp : ℕ → ℕ → ℕ → List Child → List Child → List Child → Type 0
HasAskedUp n lo hi first next before = next ≡ narrow_up n lo hi first before

pub up_on : (n lo hi : ℕ) (first next before : List Child) → HasAskedUp n lo hi first next before → (x : Child) (after : List Child) → after ≡ next_up n lo hi next x → HasAskedUp n lo hi first after (before ++ (x ∷ []))
up_on n lo hi first next before asks x after is = is ∙ (ap (λ (l : List Child). next_up n lo hi l x) asks ∙ sym (up-append n lo hi first before (x ∷ [])))

pub up_room : (n lo hi : ℕ) (first next before rest all : List Child) → HasAskedUp n lo hi first next before → (x : Child) → before ++ (x ∷ rest) ≡ all → ((k : ℕ) → length (narrow_up n lo hi first (take k all)) ≤ 3) → length (next_up n lo hi next x) ≤ 3
up_room n lo hi first next before rest all asks x is few =
    let front : take (length before + 1) all ≡ before ++ (x ∷ []) = ap (take (length before + 1)) (sym is) ∙ take_one before rest (length before + 1) refl in
    subst (λ (l : List Child). length l ≤ 3) (ap (narrow_up n lo hi first) front ∙ sym (up_on n lo hi first next before asks x (next_up n lo hi next x) refl)) (few (length before + 1))
  where
    take_one : (xs ys : List Child) (k : ℕ) → k ≡ length xs + 1 → take k (xs ++ (x ∷ ys)) ≡ xs ++ (x ∷ [])
    take_one xs ys zero is = absurd (omega arith)
    take_one [] ys (suc k) is = let none : k ≡ 0 = omega arith in ap (λ (j : ℕ). x ∷ take j ys) none
    take_one (y ∷ xs) ys (suc k) is = ap (λ (l : List Child). y ∷ l) (take_one xs ys k (omega arith))

not_up : (n lo hi : ℕ) (asked : List Child) (x : Child) → may_have n lo hi x ≡ false → asked ≡ next_up n lo hi asked x
not_up n lo hi asked x less = rw less refl

pub one_up : (n lo hi : ℕ) (asked after : List Child) (x : Child) → may_have n lo hi x ≡ true → after ≡ (if inside lo hi x then x ∷ [] else asked ++ (x ∷ [])) → after ≡ next_up n lo hi asked x
one_up n lo hi asked after x may is = rw may is

pub one_up_room : (n lo hi : ℕ) (asked : List Child) (x : Child) → may_have n lo hi x ≡ true → inside lo hi x ≡ false → length (next_up n lo hi asked x) ≤ 3 → length asked < 3
one_up_room n lo hi asked x may over room =
    let long : length (next_up n lo hi asked x) ≡ length asked + 1 = rw (may, over) (length-append asked (x ∷ [])) in
    omega arith

-- ---- the holes of a leaf

kept_one_more : (n lo hi : ℕ) (before : List Child) (x : Child) → kept n lo hi (flat_map child_hole (before ++ (x ∷ []))) ≡ kept n lo hi (flat_map child_hole before) ++ kept n lo hi (leaf_hole x.span)
kept_one_more n lo hi before x =
    ap (kept n lo hi) (flat_map-append child_hole before (x ∷ []))
    ∙ (kept-append n lo hi (flat_map child_hole before) (flat_map child_hole (x ∷ []))
    ∙ ap (λ (l : List Hole). kept n lo hi (flat_map child_hole before) ++ kept n lo hi l) (append-nil (leaf_hole x.span)))

abbrev pub NoneLow : ℕ → ℕ → ℕ → List Child → Type 0
NoneLow n lo hi before = kept n lo hi (flat_map child_hole before) ≡ []

pub none_low_on : (n lo hi : ℕ) (before : List Child) → NoneLow n lo hi before → (x : Child) (place : Option ℕ) → place ≡ lowest_in (kept n lo hi (leaf_hole x.span)) → is_some place ≡ false → NoneLow n lo hi (before ++ (x ∷ []))
none_low_on n lo hi before none x place is not = kept_one_more n lo hi before x ∙ (ap (λ (l : List Hole). l ++ kept n lo hi (leaf_hole x.span)) none ∙ empty (kept n lo hi (leaf_hole x.span)) (ap is_some (sym is) ∙ not))
  where
    empty : (ys : List Hole) → is_some (lowest_in ys) ≡ false → ys ≡ []
    empty [] less = refl
    empty (y ∷ ys) less = absurd (cc)

pub low_here : (n lo hi : ℕ) (before rest all : List Child) → NoneLow n lo hi before → (x : Child) (place : Option ℕ) → before ++ (x ∷ rest) ≡ all → place ≡ lowest_in (kept n lo hi (leaf_hole x.span)) → is_some place ≡ true
    → place ≡ lowest_in (kept n lo hi (flat_map child_hole all))
low_here n lo hi before rest all none x place all_is is some =
    let whole : kept n lo hi (flat_map child_hole all) ≡ kept n lo hi (leaf_hole x.span) ++ kept n lo hi (flat_map child_hole rest) =
    ap (λ (l : List Child). kept n lo hi (flat_map child_hole l)) (sym all_is)
    ∙ (ap (kept n lo hi) (flat_map-append child_hole before (x ∷ rest))
    ∙ (kept-append n lo hi (flat_map child_hole before) (flat_map child_hole (x ∷ rest))
    ∙ (ap (λ (l : List Hole). l ++ kept n lo hi (flat_map child_hole (x ∷ rest))) none
    ∙ kept-append n lo hi (leaf_hole x.span) (flat_map child_hole rest)))) in
    is ∙ (head_of (kept n lo hi (leaf_hole x.span)) (kept n lo hi (flat_map child_hole rest)) (ap is_some (sym is) ∙ some) ∙ ap lowest_in (sym whole))
  where
    head_of : (ys zs : List Hole) → is_some (lowest_in ys) ≡ true → lowest_in ys ≡ lowest_in (ys ++ zs)
    head_of [] zs some = absurd (cc)
    head_of (y ∷ ys) zs some = refl

pub low_nowhere : (n lo hi : ℕ) (before all : List Child) → NoneLow n lo hi before → before ≡ all → None ≡ lowest_in (kept n lo hi (flat_map child_hole all))
low_nowhere n lo hi before all none same = ap lowest_in (sym (ap (λ (l : List Child). kept n lo hi (flat_map child_hole l)) (sym same) ∙ none))

abbrev pub HighIs : ℕ → ℕ → ℕ → Option ℕ → List Child → Type 0
HighIs n lo hi found before = found ≡ highest_in n (kept n lo hi (flat_map child_hole before))

pub high_on : (n lo hi : ℕ) (found : Option ℕ) (before : List Child) → HighIs n lo hi found before → (x : Child) (place after : Option ℕ) → place ≡ highest_in n (kept n lo hi (leaf_hole x.span)) → after ≡ option_or place found → HighIs n lo hi after (before ++ (x ∷ []))
high_on n lo hi found before is x place after here after_is =
    after_is ∙ (last_of (kept n lo hi (flat_map child_hole before)) (kept n lo hi (leaf_hole x.span)) found place is here ∙ ap (highest_in n) (sym (kept_one_more n lo hi before x)))
  where
    some_highest : (y : Hole) (ys : List Hole) → ((p : ℕ) × (highest_in n (y ∷ ys) ≡ Some p))
    some_highest y [] = (y.last + 1 - n, refl)
    some_highest y (z ∷ ys) = let rest = some_highest z ys in (rest.0, highest_more n y (z ∷ ys) (omega arith) ∙ rest.1)

    last_of : (xs ys : List Hole) (found place : Option ℕ) → found ≡ highest_in n xs → place ≡ highest_in n ys → option_or place found ≡ highest_in n (xs ++ ys)
    last_of xs [] found place before is = ap (λ (o : Option ℕ). option_or o found) is ∙ (before ∙ ap (highest_in n) (sym (append-nil xs)))
    last_of xs (y ∷ ys) found place before is =
        let some = some_highest y ys in
        ap (λ (o : Option ℕ). option_or o found) (is ∙ some.1) ∙ (sym some.1 ∙ sym (highest_back n xs (y ∷ ys) (omega arith)))

pub high_of_all : (n lo hi : ℕ) (found : Option ℕ) (before all : List Child) → HighIs n lo hi found before → before ≡ all → found ≡ highest_in n (kept n lo hi (flat_map child_hole all))
high_of_all n lo hi found before all is same = is ∙ ap (λ (l : List Child). highest_in n (kept n lo hi (flat_map child_hole l))) same

-- ---- what a row tells

abbrev pub LongestIs : ℕ → List Child → Type 0
LongestIs longest before = longest ≡ longest_in (spans before)

pub longest_on : (longest : ℕ) (before : List Child) → LongestIs longest before → (x : Child) (after : ℕ) → after ≡ max longest (hole_length x.span) → LongestIs after (before ++ (x ∷ []))
longest_on longest before is x after after_is =
    let both = ap longest_in (spans-append before (x ∷ [])) ∙ longest_in-append (spans before) (x.span ∷ []) in
    omega arith

pub hole_fits : (before rest all : List Child) (x : Child) → before ++ (x ∷ rest) ≡ all → longest_in (spans all) < 2 ^ 64 → hole_length x.span < 2 ^ 64
hole_fits before rest all x is fits =
    let both = ap (λ (l : List Child). longest_in (spans l)) (sym is) ∙ (ap longest_in (spans-append before (x ∷ rest)) ∙ longest_in-append (spans before) (spans (x ∷ rest))) in
    omega arith

pub child_rises : (before rest all : List Child) (x : Child) → before ++ (x ∷ rest) ≡ all → AllByRecursion (λ (y : Span). y.first ≤ y.last) (spans all) → x.span.first ≤ x.span.last
child_rises before rest all x is rise = behind before (subst (λ (l : List Child). AllByRecursion (λ (y : Span). y.first ≤ y.last) (spans l)) (sym is) rise)
  where
    behind : (ys : List Child) → AllByRecursion (λ (y : Span). y.first ≤ y.last) (spans (ys ++ (x ∷ rest))) → x.span.first ≤ x.span.last
    behind [] rise = rise.0
    behind (y ∷ ys) rise = behind ys rise.1

-- a row without gaps tells none
pub no_gaps_told : (first : ℕ) (items : List Item) → AllByRecursion (λ (x : Item). x.gap ≡ 0) items → longest_gap (children_from first items) ≡ 0
no_gaps_told first [] none = refl
no_gaps_told first (x ∷ items) none = let here = none.0 in let rest = no_gaps_told (x.last + 1) items none.1 in omega arith

pub no_gaps_asked : (n lo hi first : ℕ) (items : List Item) → 1 ≤ n → AllByRecursion (λ (x : Item). x.gap ≡ 0) items → (narrow n lo hi (children_from first items) ≡ []) × (has_sure n lo hi (children_from first items) ≡ false)
no_gaps_asked n lo hi first [] some none = (refl, refl)
no_gaps_asked n lo hi first (x ∷ items) some none =
    let here = none.0 in
    let less : nat_le n x.gap ≡ false = lt-leb n x.gap (omega arith) in
    let rest = no_gaps_asked n lo hi (x.last + 1) items some none.1 in
    rw less rest

pub no_gaps_up : (n lo hi first : ℕ) (acc : List Child) (items : List Item) → 1 ≤ n → AllByRecursion (λ (x : Item). x.gap ≡ 0) items → narrow_up n lo hi acc (children_from first items) ≡ acc
no_gaps_up n lo hi first acc [] some none = refl
no_gaps_up n lo hi first acc (x ∷ items) some none =
    let here = none.0 in
    let less : nat_le n x.gap ≡ false = lt-leb n x.gap (omega arith) in
    let child : Child = record { span = record { first = first; last = x.last; word = x.word }; gap = x.gap } in
    ap (λ (l : List Child). narrow_up n lo hi l (children_from (x.last + 1) items)) (sym (not_up n lo hi acc child (rw less refl)))
    ∙ no_gaps_up n lo hi (x.last + 1) acc items some none.1

items_without : (slots gaps : ℕ) (w : List ℕ) (base max left i : ℕ) → gaps ≡ 0 → AllByRecursion (λ (x : Item). x.gap ≡ 0) (items_from slots gaps w base max left i)
items_without slots gaps w base max zero i none = tt
items_without slots gaps w base max (suc zero) i none = (gap_at-none slots gaps w base i none, tt)
items_without slots gaps w base max (suc (suc left)) i none = elim (cases_Bool (nat_le max (slice_index w (base + pivot_column i)))) [
  | inl last ↦ rw last (gap_at-none slots gaps w base i none, tt)
  | inr more ↦ rw more (gap_at-none slots gaps w base i none, items_without slots gaps w base max (suc left) (i + 1) none)
]

-- rows of a kind that has no gaps
abbrev pub HasNoGaps : RowKind → Type 0
HasNoGaps Leaf = Unit {0}
HasNoGaps Inner = Unit {0}
HasNoGaps Gapped = ⊥

none_of : (width : Width) (kind : RowKind) → HasNoGaps kind → gaps_of width kind ≡ 0
none_of width Leaf is = no_gaps_of width Leaf (λ e. cc)
none_of width Inner is = no_gaps_of width Inner (λ e. cc)
none_of width Gapped is = absurd is

pub row_without : (t : Table) (row : ℕ) (kind : RowKind) (max : ℕ) → HasNoGaps kind → AllByRecursion (λ (x : Item). x.gap ≡ 0) (items_at (slots_of t.width kind) (gaps_of t.width kind) t.words (base_of t row) max)
row_without t row kind max is = items_without (slots_of t.width kind) (gaps_of t.width kind) t.words (base_of t row) max (slots_of t.width kind) 0 (none_of t.width kind is)

without_asked : (t : Table) (x : Span) (n lo hi : ℕ) → 1 ≤ n → (named_kind x.word ≡ Some Gapped → ⊥) → (narrow n lo hi (children_in t x) ≡ []) × (has_sure n lo hi (children_in t x) ≡ false)
without_asked t x n lo hi some other = by_kind (named_kind x.word) other
  where
    by_kind : (k : Option RowKind) → (k ≡ Some Gapped → ⊥) → (narrow n lo hi (children_by t k x) ≡ []) × (has_sure n lo hi (children_by t k x) ≡ false)
    by_kind None other = (refl, refl)
    by_kind (Some Leaf) other = no_gaps_asked n lo hi x.first _ some (row_without t (row_in x.word) Leaf x.last tt)
    by_kind (Some Inner) other = no_gaps_asked n lo hi x.first _ some (row_without t (row_in x.word) Inner x.last tt)
    by_kind (Some Gapped) other = absurd (other refl)

pub without_lower : (t : Table) (x : Span) (n lo hi : ℕ) (acc : List Child) → 1 ≤ n → (named_kind x.word ≡ Some Gapped → ⊥) → acc ≡ acc ++ narrow n lo hi (children_in t x)
without_lower t x n lo hi acc some other = sym (append-nil acc) ∙ ap (λ (l : List Child). acc ++ l) (sym (without_asked t x n lo hi some other).0)

pub without_sure : (t : Table) (x : Span) (n lo hi : ℕ) → 1 ≤ n → (named_kind x.word ≡ Some Gapped → ⊥) → false ≡ has_sure n lo hi (children_in t x)
without_sure t x n lo hi some other = sym (without_asked t x n lo hi some other).1

pub without_asked_up : (t : Table) (x : Span) (n lo hi : ℕ) (acc : List Child) → 1 ≤ n → (named_kind x.word ≡ Some Gapped → ⊥) → narrow_up n lo hi acc (children_in t x) ≡ acc
without_asked_up t x n lo hi acc some other = by_kind (named_kind x.word) other
  where
    by_kind : (k : Option RowKind) → (k ≡ Some Gapped → ⊥) → narrow_up n lo hi acc (children_by t k x) ≡ acc
    by_kind None other = refl
    by_kind (Some Leaf) other = no_gaps_up n lo hi x.first acc _ some (row_without t (row_in x.word) Leaf x.last tt)
    by_kind (Some Inner) other = no_gaps_up n lo hi x.first acc _ some (row_without t (row_in x.word) Inner x.last tt)
    by_kind (Some Gapped) other = absurd (other refl)

pub inner_tells : (t : Table) (s : PathStep) → 0 ≡ told_by Inner t s
inner_tells t s = sym (no_gaps_told s.min _ (row_without t s.row Inner s.max tt))
