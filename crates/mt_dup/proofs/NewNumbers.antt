-- The number that a row gets is the place where the walk comes to it.
use Rattle.mt_dup.proofs.Prelude.{◌≡◌, ◌≢◌, ◌⊎◌, ℕ, suc, ◌+◌, ◌<◌, ◌≤◌, ◌==◌, List, [], ◌∷◌, ◌++◌, Bool, true, false, length, map, get_or, refl, sym, ap, ◌∙◌, subst, inl, inr, arith, length-append, append_assoc, eq-eqb, ne_eqb, if◌then◌else◌, range_with_len, AllByRecursion, cases_Bool, eqb-true, cases_eq, first_row, all_map, row_in, one_if, tally, tally-append, AreNumbered}

abbrev pub times_of : ℕ → List ℕ → ℕ
times_of row rows = tally (λ (r : ℕ). r == row) rows

-- how many rows stand before this one
pub place : ℕ → List ℕ → ℕ
place row [] = 0
place row (r ∷ rows) = if r == row then 0 else 1 + place row rows

-- rows are numbered by their places, from the first row on; 0 is no row
pub number_in : List ℕ → ℕ → ℕ
number_in rows row = if row == 0 then 0 else first_row + place row rows

pub number_zero : (rows : List ℕ) → number_in rows 0 ≡ 0
unfolding number_in
number_zero rows = refl

pub number_some : (rows : List ℕ) (row : ℕ) → row ≢ 0 → number_in rows row ≡ first_row + place row rows
unfolding number_in
number_some rows row some = let other : (row == 0) ≡ false = ne_eqb row 0 some in rw other refl

place_front : (row : ℕ) (front back : List ℕ) → times_of row front ≡ 0 → place row (front ++ (row ∷ back)) ≡ length front
unfolding place
place_front row [] back none = let here : (row == row) ≡ true = eq-eqb row row refl in rw here refl
place_front row (r ∷ front) back none = elim (cases_Bool (r == row)) [
  | inl here ↦ let some : 1 + times_of row front ≡ 0 = subst (λ (b : Bool). one_if b + times_of row front ≡ 0) here none in absurd (omega arith)
  | inr other ↦ let behind = place_front row front back (let less : 0 + times_of row front ≡ 0 = subst (λ (b : Bool). one_if b + times_of row front ≡ 0) other none in omega arith) in rw other (omega (arith, behind))
]

-- where each row stands just once
pub numbered_on : (names : List ℕ) (front rows : List ℕ) (from : ℕ) → rows ≡ front ++ map row_in names → from ≡ first_row + length front → ((row : ℕ) → times_of row rows ≤ 1)
    → AllByRecursion (λ (r : ℕ). r ≢ 0) (map row_in names) → AreNumbered (number_in rows) from names
numbered_on [] front rows from parts at once some = tt
numbered_on (x ∷ names) front rows from parts at once some = (
  number_some rows (row_in x) some.0 ∙ (ap (λ (n : ℕ). first_row + n) (ap (place (row_in x)) parts ∙ place_front (row_in x) front (map row_in names) none) ∙ sym at),
  numbered_on names (front ++ (row_in x ∷ [])) rows (from + 1) (parts ∙ sym (append_assoc front (row_in x ∷ []) (map row_in names))) (omega (arith, length-append front (row_in x ∷ []))) once some.1,
)
  where
    none : times_of (row_in x) front ≡ 0
    none =
        let most = once (row_in x) in
        let whole = ap (times_of (row_in x)) parts ∙ tally-append (λ (r : ℕ). r == row_in x) front (row_in x ∷ map row_in names) in
        let here = ap one_if (eq-eqb (row_in x) (row_in x) refl) in
        omega arith

-- a row that is there stands at its place
place_at : (row : ℕ) (rows : List ℕ) → 1 ≤ times_of row rows → get_or rows (place row rows) 0 ≡ row
unfolding place
place_at row [] some = absurd (omega arith)
place_at row (r ∷ rows) some = elim (cases_Bool (r == row)) [
  | inl here ↦ rw here (eqb-true r row here)
  | inr other ↦
      let behind = place_at row rows (let less : 1 ≤ 0 + times_of row rows = subst (λ (b : Bool). 1 ≤ one_if b + times_of row rows) other some in omega arith) in
      let next : 1 + place row rows ≡ suc (place row rows) = omega arith in
      rw other (ap (λ (n : ℕ). get_or (r ∷ rows) n 0) next ∙ behind)
]

pub numbered_once : (rows : List ℕ) (row other : ℕ) → row ≢ 0 → other ≢ 0 → 1 ≤ times_of row rows → 1 ≤ times_of other rows → number_in rows row ≡ number_in rows other → row ≡ other
numbered_once rows row other some some' there there' same =
    let places : place row rows ≡ place other rows = omega (arith, number_some rows row some, number_some rows other some') in
    sym (place_at row rows there) ∙ (ap (λ (n : ℕ). get_or rows n 0) places ∙ place_at other rows there')

-- ---- the numbers that are given

abbrev pub IsGiven : (ℕ → ℕ) → ℕ → ℕ → ℕ → Type 0
IsGiven number low high word = (low ≤ number (row_in word)) × (number (row_in word) < high)

pub all_given : (number : ℕ → ℕ) (from high : ℕ) (names : List ℕ) → from + length names ≤ high → AreNumbered number from names → AllByRecursion (IsGiven number from high) names
all_given number from high [] room numbered = tt
all_given number from high (x ∷ names) room numbered = (
  (let at = numbered.0 in omega arith, let at = numbered.0 in omega arith),
  all_map (IsGiven number (from + 1) high) (IsGiven number from high) (λ w given. (let low = given.0 in omega arith, given.1)) names (all_given number (from + 1) high names (omega arith) numbered.1),
)

pub given_inside : (number : ℕ → ℕ) (from row : ℕ) (names : List ℕ) → AreNumbered number from names → from ≤ row → row < from + length names → 1 ≤ times_of row (map number (map row_in names))
given_inside number from row [] numbered low high = absurd (omega arith)
given_inside number from row (x ∷ names) numbered low high = elim (cases_eq from row) [
  | inl here ↦ let is : (number (row_in x) == row) ≡ true = eq-eqb (number (row_in x)) row (numbered.0 ∙ here) in rw is (omega arith)
  | inr other ↦ let behind = given_inside number (from + 1) row names numbered.1 (omega arith) (omega arith) in omega arith
]

pub given_outside : (number : ℕ → ℕ) (from row : ℕ) (names : List ℕ) → AreNumbered number from names → (row < from) ⊎ (from + length names ≤ row) → times_of row (map number (map row_in names)) ≡ 0
given_outside number from row [] numbered outside = refl
given_outside number from row (x ∷ names) numbered outside =
    let is : (number (row_in x) == row) ≡ false = ne_eqb (number (row_in x)) row (λ e. let at = numbered.0 in not_from outside (omega arith)) in
    let behind = given_outside number (from + 1) row names numbered.1 (further outside) in
    rw is (omega arith)
  where
    not_from : (row < from) ⊎ (from + suc (length names) ≤ row) → from ≡ row → ⊥
    not_from (inl below) e = omega arith
    not_from (inr above) e = omega arith

    further : (row < from) ⊎ (from + suc (length names) ≤ row) → (row < from + 1) ⊎ (from + 1 + length names ≤ row)
    further (inl below) = inl (omega arith)
    further (inr above) = inr (omega arith)

-- rows that are numbered one by one have their numbers in the order of the walk
pub numbered_in_order : (number : ℕ → ℕ) (from : ℕ) (names : List ℕ) → AreNumbered number from names → map number (map row_in names) ≡ range_with_len from (length names)
numbered_in_order number from [] numbered = refl
numbered_in_order number from (x ∷ names) numbered =
    let first = numbered.0 in
    let behind = numbered_in_order number (from + 1) names numbered.1 in
    (λ i. first i ∷ behind i)
