-- Which rows were seen, by their numbers.
use Rattle.mt_splice.proofs.Prelude.{◌≡◌, ◌≢◌, ℕ, zero, suc, ◌+◌, ◌==◌, List, ◌∷◌, ◌++◌, Bool, true, false, map, sym, ap, ◌∙◌, ⊎_elim, arith, eq-eqb, lt-ltb, nat_lt, Contains, cases_Bool, eqb-true, eqb-false, ne_eqb, ltb-true, ltb-false, le-ltb, one_if, is_row_of, tally-append, Seen, passing, row_seen, was_seen, []}

pub not_both : (a : Bool) → a ≡ true → a ≡ false → ⊥
not_both a is not = let clash : true ≡ false = sym is ∙ not in absurd (cc)

pub seen_here : (s : Seen) (seen : List Seen) (row : ℕ) → row_seen s ≡ row → was_seen (s ∷ seen) row ≡ true
seen_here s seen row same = let one = ap one_if (eq-eqb (row_seen s) row same) in lt-ltb 0 (passing (is_row_of row) (s ∷ seen)) (omega arith)

pub seen_other : (s : Seen) (seen : List Seen) (row : ℕ) → row_seen s ≢ row → was_seen (s ∷ seen) row ≡ was_seen seen row
seen_other s seen row other = ap (nat_lt 0) (none (ap one_if (ne_eqb (row_seen s) row other)))
  where
    none : one_if (row_seen s == row) ≡ 0 → passing (is_row_of row) (s ∷ seen) ≡ passing (is_row_of row) seen
    none is = omega arith

pub seen_before : (s : Seen) (seen : List Seen) (row : ℕ) → was_seen (s ∷ seen) row ≡ false → was_seen seen row ≡ false
seen_before s seen row none = let all = ltb-false 0 (passing (is_row_of row) (s ∷ seen)) none in le-ltb 0 (passing (is_row_of row) seen) (omega arith)

pub seen_not_here : (s : Seen) (seen : List Seen) (row : ℕ) → was_seen (s ∷ seen) row ≡ false → row_seen s ≢ row
seen_not_here s seen row none same = not_both (was_seen (s ∷ seen) row) (seen_here s seen row same) none

pub seen_more : (s : Seen) (seen : List Seen) (row : ℕ) → was_seen seen row ≡ true → was_seen (s ∷ seen) row ≡ true
seen_more s seen row some = ⊎_elim (λ (is : was_seen (s ∷ seen) row ≡ true). is)
    (λ (not : was_seen (s ∷ seen) row ≡ false). absurd (not_both (was_seen seen row) some (seen_before s seen row not))) (cases_Bool (was_seen (s ∷ seen) row))

-- ---- one more behind the others

pub seen_last : (seen : List Seen) (s : Seen) (row : ℕ) → row_seen s ≡ row → was_seen (seen ++ s ∷ []) row ≡ true
seen_last seen s row same =
    let one = ap one_if (eq-eqb (row_seen s) row same) in
    let all = tally-append (λ (s : Seen). is_row_of row s.height s.at) seen (s ∷ []) in
    lt-ltb 0 (passing (is_row_of row) (seen ++ s ∷ [])) (omega arith)

pub seen_not_last : (seen : List Seen) (s : Seen) (row : ℕ) → row_seen s ≢ row → was_seen (seen ++ s ∷ []) row ≡ was_seen seen row
seen_not_last seen s row other = ap (nat_lt 0) (none (ap one_if (ne_eqb (row_seen s) row other)) (tally-append (λ (s : Seen). is_row_of row s.height s.at) seen (s ∷ [])))
  where
    none : one_if (row_seen s == row) ≡ 0 → passing (is_row_of row) (seen ++ s ∷ []) ≡ passing (is_row_of row) seen + passing (is_row_of row) (s ∷ []) → passing (is_row_of row) (seen ++ s ∷ []) ≡ passing (is_row_of row) seen
    none is all = omega arith

pub seen_front : (seen : List Seen) (s : Seen) (row : ℕ) → was_seen (seen ++ s ∷ []) row ≡ false → was_seen seen row ≡ false
seen_front seen s row none =
    let few = ltb-false 0 (passing (is_row_of row) (seen ++ s ∷ [])) none in
    let all = tally-append (λ (s : Seen). is_row_of row s.height s.at) seen (s ∷ []) in
    le-ltb 0 (passing (is_row_of row) seen) (omega arith)

pub seen_front_not_last : (seen : List Seen) (s : Seen) (row : ℕ) → was_seen (seen ++ s ∷ []) row ≡ false → row_seen s ≢ row
seen_front_not_last seen s row none same = not_both (was_seen (seen ++ s ∷ []) row) (seen_last seen s row same) none

-- ---- by the list of their numbers

seen_listed : (seen : List Seen) (row : ℕ) → was_seen seen row ≡ true → Contains (map row_seen seen) row
seen_listed [] row some = let none = ltb-true 0 0 some in absurd (omega arith)
seen_listed (s ∷ seen) row some =
    ⊎_elim (λ (same : (row_seen s == row) ≡ true). (0, omega arith, eqb-true (row_seen s) row same))
    (λ (other : (row_seen s == row) ≡ false).
    let rest = seen_listed seen row (sym (seen_other s seen row (eqb-false (row_seen s) row other)) ∙ some) in
    (suc rest.0, (let within = rest.1 in omega arith), rest.2))
    (cases_Bool (row_seen s == row))

pub listed_seen : (seen : List Seen) (row : ℕ) → Contains (map row_seen seen) row → was_seen seen row ≡ true
listed_seen [] row (k, within, is) = absurd (omega arith)
listed_seen (s ∷ seen) row (zero, within, is) = seen_here s seen row is
listed_seen (s ∷ seen) row (suc k, within, is) = seen_more s seen row (listed_seen seen row (k, omega arith, is))

pub not_listed : (seen : List Seen) (row : ℕ) → ¬ Contains (map row_seen seen) row → was_seen seen row ≡ false
not_listed seen row none = ⊎_elim (λ (is : was_seen seen row ≡ true). absurd (none (seen_listed seen row is))) (λ (not : was_seen seen row ≡ false). not) (cases_Bool (was_seen seen row))
