-- How long a list of numbers is in which each number of a span stands once, and no other.
use Rattle.mt_splice.proofs.Prelude.{◌≡◌, ◌≢◌, ℕ, zero, suc, ◌+◌, ◌<◌, ◌≤◌, ◌==◌, List, [], ◌∷◌, length, refl, subst, inl, inr, arith, eq-eqb, AllPairs, Contains, cases_Bool, eqb-true, eqb-false, tally, IsOneOf, tally_some, tally_place}
use Rattle.mt_splice.proofs.EndLists.{one_contains, contains_one}

-- how often a number stands in a list
abbrev pub times_of : ℕ → List ℕ → ℕ
times_of number xs = tally (λ (r : ℕ). r == number) xs

pub contains_times : (xs : List ℕ) (number : ℕ) → Contains xs number → 1 ≤ times_of number xs
contains_times xs number has = tally_some (λ (r : ℕ). r == number) xs number (contains_one xs number has) (eq-eqb number number refl)

pub times_contains : (xs : List ℕ) (number : ℕ) → 1 ≤ times_of number xs → Contains xs number
times_contains xs number some =
    let place = tally_place (λ (r : ℕ). r == number) xs some in
    one_contains xs number (subst (λ (r : ℕ). IsOneOf r xs) (eqb-true place.0 number place.2) place.1)

-- in a list without repetitions at most once
pub apart_once : (xs : List ℕ) (number : ℕ) → AllPairs (λ r q. r ≢ q) xs → times_of number xs ≤ 1
apart_once [] number apart = omega arith
apart_once (x ∷ xs) number apart =
    let rest : times_of number xs ≤ 1 = apart_once xs number (λ i j d before within. apart (suc i) (suc j) d (omega arith) (omega arith)) in
    elim (cases_Bool (x == number)) [
      | inl here ↦ rw here (at_most (times_of number xs) (λ some. (
          let behind = times_contains xs number some in
          let within = behind.1 in
          apart zero (suc behind.0) number (omega arith) (omega arith) (rw behind.2 (eqb-true x number here))
          )))
      | inr other ↦ rw other (omega (arith, rest))
    ]
  where
    at_most : (n : ℕ) → (1 ≤ n → ⊥) → 1 + n ≤ 1
    at_most zero none = omega arith
    at_most (suc n) none = absurd (none (omega arith))

-- how often the numbers from `low` stand in a list, so many of them, all together
abbrev total : ℕ → ℕ → List ℕ → ℕ
total low zero xs = 0
total low (suc count) xs = times_of (low + count) xs + total low count xs

total_nil : (low count : ℕ) → total low count [] ≡ 0
total_nil low zero = refl
total_nil low (suc count) = let less = total_nil low count in omega arith

total_more : (low count x : ℕ) (xs : List ℕ) → total low count (x ∷ xs) ≡ total low count (x ∷ []) + total low count xs
total_more low zero x xs = omega arith
total_more low (suc count) x xs = let less = total_more low count x xs in omega arith

total_above : (low count x : ℕ) → low + count ≤ x → total low count (x ∷ []) ≡ 0
total_above low zero x above = refl
total_above low (suc count) x above =
    let less = total_above low count x (omega arith) in
    elim (cases_Bool (x == low + count)) [
      | inl here ↦ absurd (let is = eqb-true x (low + count) here in omega arith)
      | inr other ↦ rw other (omega arith)
    ]

total_inside : (low count x : ℕ) → low ≤ x → x < low + count → total low count (x ∷ []) ≡ 1
total_inside low zero x from below = absurd (omega arith)
total_inside low (suc count) x from below = elim (cases_Bool (x == low + count)) [
  | inl here ↦ let less = total_above low count x (let is = eqb-true x (low + count) here in omega arith) in rw here (omega arith)
  | inr other ↦ let less = total_inside low count x from (let not = eqb-false x (low + count) other in omega arith) in rw other (omega arith)
]

total_of_ones : (low count : ℕ) (xs : List ℕ) → ((number : ℕ) → low ≤ number → number < low + count → times_of number xs ≡ 1) → total low count xs ≡ count
total_of_ones low zero xs once = refl
total_of_ones low (suc count) xs once =
    let less = total_of_ones low count xs (λ number from below. once number from (omega arith)) in
    let one = once (low + count) (omega arith) (omega arith) in
    omega arith

-- a list of numbers of the span is as long as they are often in it
total_is_length : (low count : ℕ) (xs : List ℕ) → ((number : ℕ) → 1 ≤ times_of number xs → (low ≤ number) × (number < low + count)) → total low count xs ≡ length xs
total_is_length low count [] inside = total_nil low count
total_is_length low count (x ∷ xs) inside =
    let rest = total_is_length low count xs (λ number some. inside number (omega arith)) in
    let here = inside x (rw (eq-eqb x x refl) (omega arith)) in
    let one = total_inside low count x here.0 here.1 in
    let parts = total_more low count x xs in
    omega arith

-- as many as the span, where each of its numbers stands once, and no other
pub span_length : (low count : ℕ) (xs : List ℕ) → ((number : ℕ) → 1 ≤ times_of number xs → (low ≤ number) × (number < low + count))
    → ((number : ℕ) → low ≤ number → number < low + count → times_of number xs ≡ 1) → length xs ≡ count
span_length low count xs inside once =
    let by_number = total_of_ones low count xs once in
    let by_item = total_is_length low count xs inside in
    omega arith
