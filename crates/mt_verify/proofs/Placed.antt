-- Calls that stand in the places of their numbers.
use Rattle.mt_verify.proofs.Prelude.{◌≡◌, ℕ, zero, suc, ◌+◌, ◌-◌, ◌==◌, ◌<◌, ◌≤◌, Bool, true, false, cond, List, [], ◌∷◌, ◌++◌, Option, Some, None, is_some, length, map, get_or, set, arith, refl, sym, ap, ◌∙◌, subst, inl, inr, enumerate_from, IsPermutation, nat_tests, cases_eq, sum_by-cons, sum_by-append, IsPermutation-refl, IsPermutation-trans, IsPermutation-cons, IsPermutation-swap, sum_by-IsPermutation, filled_from, times_numbered, HasNoPlace}

pub same_number : (n : ℕ) → (n == n) ≡ true
same_number n = grind (arith, nat_tests)

other_number : (n m : ℕ) → (n ≡ m → ⊥) → (n == m) ≡ false
other_number n m other = grind (arith, nat_tests)

-- the place of a number is one below
place_below : (number : ℕ) → (number ≡ 0 → ⊥) → 1 + (number - 1) ≡ number
place_below number some = omega arith

module _ {X : Type 0} where
  -- one element counts once where it has the number, and else not
  one_of : ℕ → ℕ × X → ℕ
  one_of number e = cond (e.0 == number) 1 0

  pub times-cons : (number : ℕ) (e : ℕ × X) (calls : List (ℕ × X)) → times_numbered number (e ∷ calls) ≡ cond (e.0 == number) 1 0 + times_numbered number calls
  times-cons number e calls = sum_by-cons (λ (y : ℕ × X). cond (y.0 == number) 1 0) e calls

  pub times-append : (number : ℕ) (xs ys : List (ℕ × X)) → times_numbered number (xs ++ ys) ≡ times_numbered number xs + times_numbered number ys
  times-append number xs ys = sum_by-append (λ (y : ℕ × X). cond (y.0 == number) 1 0) xs ys

  pub times-permutation : (number : ℕ) (xs ys : List (ℕ × X)) → IsPermutation xs ys → times_numbered number ys ≡ times_numbered number xs
  times-permutation number xs ys same = sum_by-IsPermutation (λ (y : ℕ × X). cond (y.0 == number) 1 0) xs ys same

  pub times_yes : (number : ℕ) (x : X) (calls : List (ℕ × X)) → times_numbered number ((number, x) ∷ calls) ≡ 1 + times_numbered number calls
  times_yes number x calls = times-cons number (number, x) calls ∙ ap (λ (b : Bool). cond b 1 0 + times_numbered number calls) (same_number number)

  times_no : (number n : ℕ) (x : X) (calls : List (ℕ × X)) → (n ≡ number → ⊥) → times_numbered number ((n, x) ∷ calls) ≡ times_numbered number calls
  times_no number n x calls other = times-cons number (n, x) calls ∙ (ap (λ (b : Bool). cond b 1 0 + times_numbered number calls) (other_number n number other) ∙ omega arith)

  -- no place has a lower number, nor one behind the last
  pub times_below : (number n : ℕ) (places : List (Option X)) → number < n → times_numbered number (filled_from n places) ≡ 0
  times_below number n [] low = refl
  times_below number n (None ∷ places) low = times_below number (n + 1) places (omega arith)
  times_below number n (Some x ∷ places) low = times_no number n x (filled_from (n + 1) places) (λ same. omega arith) ∙ times_below number (n + 1) places (omega arith)

  pub times_behind : (number n : ℕ) (places : List (Option X)) → n + length places ≤ number → times_numbered number (filled_from n places) ≡ 0
  times_behind number n [] past = refl
  times_behind number n (None ∷ places) past = times_behind number (n + 1) places (omega arith)
  times_behind number n (Some x ∷ places) past = times_no number n x (filled_from (n + 1) places) (λ same. omega arith) ∙ times_behind number (n + 1) places (omega arith)

  -- and each number has one place
  pub times_once : (number n : ℕ) (places : List (Option X)) → times_numbered number (filled_from n places) ≤ 1
  times_once number n [] = omega arith
  times_once number n (None ∷ places) = times_once number (n + 1) places
  times_once number n (Some x ∷ places) = elim (cases_eq n number) [
    | inl same ↦ omega (arith, times-cons number (n, x) (filled_from (n + 1) places), times_below number (n + 1) places (omega arith), one_at_most (n == number))
    | inr other ↦ omega (arith, times_no number n x (filled_from (n + 1) places) other, times_once number (n + 1) places)
  ]
    where
      one_at_most : (b : Bool) → cond b 1 0 ≤ 1
      one_at_most true = omega arith
      one_at_most false = omega arith

  -- a call that stands in a place counts, and a free place does not
  pub times_taken : (n k : ℕ) (places : List (Option X)) (x : X) (d : Option X) → k < length places → get_or places k d ≡ Some x → 0 < times_numbered (n + k) (filled_from n places)
  times_taken n k [] x d within is = absurd (omega arith)
  times_taken n zero (None ∷ places) x d within is = absurd (cc)
  times_taken n zero (Some y ∷ places) x d within is =
      let zero_is : n + 0 ≡ n = omega arith in
      subst (λ (m : ℕ). 0 < times_numbered m ((n, y) ∷ filled_from (n + 1) places)) (sym zero_is) (omega (arith, times_yes n y (filled_from (n + 1) places)))
  times_taken n (suc k) (None ∷ places) x d within is =
      let more : n + 1 + k ≡ n + suc k = omega arith in
      subst (λ (m : ℕ). 0 < times_numbered m (filled_from (n + 1) places)) more (times_taken (n + 1) k places x d (omega arith) is)
  times_taken n (suc k) (Some y ∷ places) x d within is =
      let more : n + 1 + k ≡ n + suc k = omega arith in
      let rest = subst (λ (m : ℕ). 0 < times_numbered m (filled_from (n + 1) places)) more (times_taken (n + 1) k places x d (omega arith) is) in
      omega (arith, times-cons (n + suc k) (n, y) (filled_from (n + 1) places), rest)

  pub times_free : (n k : ℕ) (places : List (Option X)) (d : Option X) → k < length places → get_or places k d ≡ None → times_numbered (n + k) (filled_from n places) ≡ 0
  times_free n k [] d within is = absurd (omega arith)
  times_free n zero (None ∷ places) d within is = times_below (n + 0) (n + 1) places (omega arith)
  times_free n zero (Some y ∷ places) d within is = absurd (cc)
  times_free n (suc k) (None ∷ places) d within is =
      let more : n + 1 + k ≡ n + suc k = omega arith in
      subst (λ (m : ℕ). times_numbered m (filled_from (n + 1) places) ≡ 0) more (times_free (n + 1) k places d (omega arith) is)
  times_free n (suc k) (Some y ∷ places) d within is =
      let more : n + 1 + k ≡ n + suc k = omega arith in
      times_no (n + suc k) n y (filled_from (n + 1) places) (λ same. omega arith) ∙ subst (λ (m : ℕ). times_numbered m (filled_from (n + 1) places) ≡ 0) more (times_free (n + 1) k places d (omega arith) is)

  -- a call is put in a free place
  pub put_one : (n k : ℕ) (places : List (Option X)) (x : X) (d : Option X) → k < length places → get_or places k d ≡ None → IsPermutation (filled_from n (set places k (Some x))) ((n + k, x) ∷ filled_from n places)
  put_one n k [] x d within is = absurd (omega arith)
  put_one n zero (None ∷ places) x d within is =
      let zero_is : n ≡ n + 0 = omega arith in
      subst (λ (m : ℕ). IsPermutation ((n, x) ∷ filled_from (n + 1) places) ((m, x) ∷ filled_from (n + 1) places)) zero_is (IsPermutation-refl ((n, x) ∷ filled_from (n + 1) places))
  put_one n zero (Some y ∷ places) x d within is = absurd (cc)
  put_one n (suc k) (None ∷ places) x d within is =
      let more : n + 1 + k ≡ n + suc k = omega arith in
      subst (λ (m : ℕ). IsPermutation (filled_from (n + 1) (set places k (Some x))) ((m, x) ∷ filled_from (n + 1) places)) more (put_one (n + 1) k places x d (omega arith) is)
  put_one n (suc k) (Some y ∷ places) x d within is =
      let more : n + 1 + k ≡ n + suc k = omega arith in
      let rest : List (ℕ × X) = filled_from (n + 1) places in
      let after : List (ℕ × X) = filled_from (n + 1) (set places k (Some x)) in
      let under : IsPermutation ((n, y) ∷ after) ((n, y) ∷ ((n + suc k, x) ∷ rest)) = IsPermutation-cons (n, y) after ((n + suc k, x) ∷ rest) (subst (λ (m : ℕ). IsPermutation after ((m, x) ∷ rest)) more (put_one (n + 1) k places x d (omega arith) is)) in
      IsPermutation-trans ((n, y) ∷ after) ((n, y) ∷ ((n + suc k, x) ∷ rest)) ((n + suc k, x) ∷ ((n, y) ∷ rest)) under
      (IsPermutation-swap ((n, y) ∷ ((n + suc k, x) ∷ rest)) ((n + suc k, x) ∷ ((n, y) ∷ rest)) 0 1 (omega arith) (omega arith) refl)

  -- where no place is free the calls are numbered by their places
  pub filled_all : (n : ℕ) (xs : List X) → filled_from n (map Some xs) ≡ enumerate_from n xs
  filled_all n [] = refl
  filled_all n (x ∷ xs) = ap (λ (rest : List (ℕ × X)). (n, x) ∷ rest) (filled_all (n + 1) xs)

  pub filled_free : (n : ℕ) (places : List (Option X)) → filled_from n (places ++ None ∷ []) ≡ filled_from n places
  filled_free n [] = refl
  filled_free n (None ∷ places) = filled_free (n + 1) places
  filled_free n (Some x ∷ places) = ap (λ (rest : List (ℕ × X)). (n, x) ∷ rest) (filled_free (n + 1) places)

  pub put_number : (number : ℕ) (places : List (Option X)) (x : X) → (number ≡ 0 → ⊥) → number ≤ length places → false ≡ is_some (get_or places (number - 1) None) → IsPermutation (filled_from 1 (set places (number - 1) (Some x))) ((number, x) ∷ filled_from 1 places)
  put_number number places x some within free =
      subst (λ (n : ℕ). IsPermutation (filled_from 1 (set places (number - 1) (Some x))) ((n, x) ∷ filled_from 1 places)) (place_below number some)
      (put_one 1 (number - 1) places x None (omega arith) (none_at (get_or places (number - 1) None) free))
    where
      none_at : (o : Option X) → false ≡ is_some o → o ≡ None
      none_at None free = refl
      none_at (Some y) free = absurd (cc)

  pub taken_number : (number : ℕ) (places : List (Option X)) → (number ≡ 0 → ⊥) → number ≤ length places → true ≡ is_some (get_or places (number - 1) None) → HasNoPlace number places
  taken_number number places some within taken = some_at (get_or places (number - 1) None) refl taken
    where
      some_at : (o : Option X) → get_or places (number - 1) None ≡ o → true ≡ is_some o → HasNoPlace number places
      some_at None is taken = absurd (cc)
      some_at (Some y) is taken = inr (inr (subst (λ (n : ℕ). 0 < times_numbered n (filled_from 1 places)) (place_below number some) (times_taken 1 (number - 1) places y None (omega arith) is)))
