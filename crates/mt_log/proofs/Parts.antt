use Rattle.mt_log.proofs.Prelude.{◌≡◌, ℕ, ◌+◌, ◌-◌, ◌<◌, Bool, true, List, [], ◌∷◌, Option, Some, None, length, take, drop, get_or, arith, refl, sym, ap, ◌∙◌, inl, inr, slice_split, position, position_or_len, cases_lt, lt-ltb, le-ltb, slice_split_first, slice_split_none, fails_before_first, take_rest, position-Some, IsFirstByte}

-- the place at which the first part ends
pub place_is : {X : Type 0} (p : X → Bool) (xs : List X) (i : ℕ) → position p xs ≡ Some i → (position_or_len p xs < length xs) × (position_or_len p xs ≡ i)
place_is p xs i h =
    elim (cases_lt (position_or_len p xs) (length xs)) [
      | inl lt ↦ let some = rw (lt-ltb (position_or_len p xs) (length xs) lt) at h in (lt, cc)
      | inr ge ↦ let none = rw (le-ltb (position_or_len p xs) (length xs) ge) at h in (cc)
    ]

-- one cut gives the first part, and what is left to cut
pub cut_once : (p : ℕ → Bool) (xs : List ℕ) (i : ℕ) → position p xs ≡ Some i → slice_split p xs ≡ take i xs ∷ slice_split p (take (length xs - (i + 1)) (drop (i + 1) xs))
cut_once p xs i h =
    let place = place_is p xs i h in
    rw (take_rest xs (i + 1), ← place.1) (slice_split_first p xs 0 place.0)

-- where there is nothing to cut at, the whole is the one part
pub cut_never : (p : ℕ → Bool) (xs : List ℕ) → position p xs ≡ None → slice_split p xs ≡ xs ∷ []
cut_never p xs h =
    elim (cases_lt (position_or_len p xs) (length xs)) [
      | inl lt ↦ let some = rw (lt-ltb (position_or_len p xs) (length xs) lt) at h in (cc)
      | inr ge ↦ slice_split_none p xs (λ k d below. fails_before_first p xs k d (omega arith))
    ]

-- the first byte that passes, by the words of a search, stands at the place
module _ (p : ℕ → Bool) (bytes : List ℕ) where
  abbrev here : ℕ
  here = position_or_len p bytes

  found : here < length bytes → position p bytes ≡ Some here
  found lt = rw (lt-ltb here (length bytes) lt) refl

  passes : here < length bytes → p (get_or bytes here 0) ≡ true
  passes lt = (position-Some p bytes here 0 (found lt)).1

  same_place : (k : ℕ) → k < length bytes → (here < k → p (get_or bytes here 0) ≡ true → ⊥) → p (get_or bytes k 0) ≡ true → Some k ≡ position p bytes
  same_place k within before hit =
      elim (cases_lt here k) [
        | inl lt ↦ absurd (before lt (passes (omega (arith, lt, within))))
        | inr ge ↦ elim (cases_lt k here) [
          | inl less ↦ let misses = fails_before_first p bytes k 0 less in absurd (cc)
          | inr more ↦ let same : k ≡ here = omega (arith, ge, more) in ap (λ n. Some n) same ∙ sym (found (omega (arith, more, within)))
        ]
      ]

  pub first_place : (r : Option ℕ) → IsFirstByte p bytes r → r ≡ position p bytes
  first_place None none =
      elim (cases_lt here (length bytes)) [
        | inl lt ↦ absurd (none here (omega arith) lt (passes lt))
        | inr ge ↦ rw (le-ltb here (length bytes) ge) refl
      ]
  first_place (Some k) first = same_place k first.0.high (λ lt hit. first.0.before here (omega arith) lt hit) first.1
