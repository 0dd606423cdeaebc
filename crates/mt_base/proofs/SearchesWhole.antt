-- A search finds the lowest and the highest start of all.
use Rattle.mt_base.proofs.Prelude.{◌≡◌, ℕ, zero, suc, ◌+◌, ◌-◌, ◌<◌, ◌≤◌, false, List, [], ◌∷◌, ◌++◌, Some, None, min, max, length, arith, nat_lt, nat_le, refl, sym, ap, ◌∙◌, subst, append-nil, inl, inr, AllByRecursion, slice_get, option_map, cond_both, cases_lt, or_parts, leb-true, leb-false, lt-ltb, le-leb, Kind, Range, greatest_of, IsMapFrom, IsMap, overlaps, is_held, Hole, hole_between, holes_from, clip, fits, kept, lowest_in, highest_in, low, high, IsRoom}
use Rattle.mt_base.proofs.FreeAreas.{IsFreeHole, holes_are_free}

-- so many indexes from a start lie in the window, below an end, and are free
record IsThere (m : List Range) (n lo hi top s : ℕ) : Type 0 where
  some : 1 ≤ n
  from : lo ≤ s
  to : s + n ≤ hi + 1
  below : s + n ≤ top
  free : is_held m s (s + n - 1) ≡ false

-- behind a range that begins below their last index
behind : (r : Range) (m : List Range) (n lo hi top s : ℕ) → IsThere (r ∷ m) n lo hi top s → r.first < s + n → (r.last < s) × IsThere m n lo hi top s
behind r m n lo hi top s there begins =
    let parts = or_parts (overlaps s (s + n - 1) r) (is_held m s (s + n - 1)) there.free in
    let ends : nat_le s r.last ≡ false = rw (le-leb r.first (s + n - 1) (omega (arith, there.some))) at parts.0 in (
      leb-false s r.last ends,
      record { some = there.some; from = there.from; to = there.to; below = there.below; free = parts.1 },
    )

-- ---- the lowest

abbrev Lower : ℕ → List Hole → Type 0
Lower s xs = (t : ℕ) × ((lowest_in xs ≡ Some t) × (t ≤ s))

lowest_here : (n lo hi a b s : ℕ) (rest : List Hole) → 1 ≤ n → lo ≤ s → s + n ≤ hi + 1 → a ≤ s → s + n ≤ b → Lower s (kept n lo hi (hole_between a b ++ rest))
lowest_here n lo hi a b s rest some from to begins ends = rw (lt-ltb a b (omega arith), le-leb (max lo a + n) (min hi (b - 1) + 1) (omega arith)) (max lo a, (refl, omega arith))

lowest_behind : (n lo hi a b s : ℕ) (rest : List Hole) → lo ≤ s → a ≤ s → Lower s (kept n lo hi rest) → Lower s (kept n lo hi (hole_between a b ++ rest))
lowest_behind n lo hi a b s rest from begins found =
    cond_both (nat_lt a b) _ _ (λ hole. Lower s (kept n lo hi (hole ++ rest)))
    (λ some.
    cond_both (fits n (clip lo hi (record { first = a; last = b - 1 }))) _ _ (λ parts. Lower s parts)
    (λ whole. (max lo a, (refl, omega arith)))
    (λ short. found))
    (λ none. found)

lowest_of_all : (m : List Range) (n lo hi a top s : ℕ) → IsMapFrom a m → a ≤ s → IsThere m n lo hi top s → Lower s (kept n lo hi (holes_from a top m))
lowest_of_all [] n lo hi a top s rise begins there = subst (λ (xs : List Hole). Lower s (kept n lo hi xs)) (append-nil (hole_between a top)) (lowest_here n lo hi a top s [] there.some there.from there.to begins there.below)
lowest_of_all (r ∷ m) n lo hi a top s rise begins there =
    elim (cases_lt r.first (s + n)) [
      | inl lt ↦
          let rest = behind r m n lo hi top s there lt in
          lowest_behind n lo hi a r.first s (holes_from (r.last + 1) top m) there.from begins (lowest_of_all m n lo hi (r.last + 1) top s rise.3 (omega (arith, rest.0)) rest.1)
      | inr ge ↦ lowest_here n lo hi a r.first s (holes_from (r.last + 1) top m) there.some there.from there.to begins ge
    ]

-- ---- the highest

abbrev Higher : ℕ → ℕ → List Hole → Type 0
Higher n s xs = (t : ℕ) × ((highest_in n xs ≡ Some t) × (s ≤ t))

-- no area of these has a start that is lower
abbrev NoneLower : ℕ → ℕ → Hole → Type 0
NoneLower n s x = s ≤ x.last + 1 - n

highest_of_some : (n s : ℕ) (x : Hole) (xs : List Hole) → AllByRecursion (NoneLower n s) (x ∷ xs) → Higher n s (x ∷ xs)
highest_of_some n s x xs each = at (x ∷ xs) (length (x ∷ xs) - 1) (omega arith) each
  where
    at : (ys : List Hole) (i : ℕ) → i < length ys → AllByRecursion (NoneLower n s) ys → (t : ℕ) × ((option_map (λ (y : Hole). y.last + 1 - n) (slice_get ys i) ≡ Some t) × (s ≤ t))
    at [] i within every = absurd (omega arith)
    at (y ∷ ys) zero within every = (y.last + 1 - n, (refl, every.0))
    at (y ∷ ys) (suc i) within every = at ys i (omega arith) every.1

highest_of_more : (n s : ℕ) (x : Hole) (xs : List Hole) → Higher n s xs → Higher n s (x ∷ xs)
highest_of_more n s x [] found = let none : None ≡ Some found.0 = found.1.0 in absurd (cc)
highest_of_more n s x (y ∷ ys) found =
    let here : length (y ∷ ys) - 1 ≡ length ys = omega arith in
    let more : length (x ∷ y ∷ ys) - 1 ≡ suc (length ys) = omega arith in
    (found.0, (ap (λ i. option_map (λ (z : Hole). z.last + 1 - n) (slice_get (x ∷ y ∷ ys) i)) more ∙ (ap (λ i. option_map (λ (z : Hole). z.last + 1 - n) (slice_get (y ∷ ys) i)) (sym here) ∙ found.1.0), found.1.1))

kept_above : (m : List Range) (n lo hi a s : ℕ) (xs : List Hole) → s ≤ a → AllByRecursion (IsFreeHole m a) xs → AllByRecursion (NoneLower n s) (kept n lo hi xs)
kept_above m n lo hi a s [] le each = tt
kept_above m n lo hi a s (x ∷ xs) le each =
    cond_both (fits n (clip lo hi x)) _ _ (λ parts. AllByRecursion (NoneLower n s) parts)
    (λ whole. (omega (arith, each.0.from, leb-true (max lo x.first + n) (min hi x.last + 1) whole), kept_above m n lo hi a s xs le each.1))
    (λ short. kept_above m n lo hi a s xs le each.1)

highest_here : (n lo hi a b s : ℕ) (rest : List Hole) → 1 ≤ n → lo ≤ s → s + n ≤ hi + 1 → a ≤ s → s + n ≤ b → AllByRecursion (NoneLower n s) (kept n lo hi rest) → Higher n s (kept n lo hi (hole_between a b ++ rest))
highest_here n lo hi a b s rest some from to begins ends each =
    rw (lt-ltb a b (omega arith), le-leb (max lo a + n) (min hi (b - 1) + 1) (omega arith)) (highest_of_some n s (clip lo hi (record { first = a; last = b - 1 })) (kept n lo hi rest) (omega arith, each))

highest_behind : (n lo hi a b s : ℕ) (rest : List Hole) → Higher n s (kept n lo hi rest) → Higher n s (kept n lo hi (hole_between a b ++ rest))
highest_behind n lo hi a b s rest found =
    cond_both (nat_lt a b) _ _ (λ hole. Higher n s (kept n lo hi (hole ++ rest)))
    (λ some.
    cond_both (fits n (clip lo hi (record { first = a; last = b - 1 }))) _ _ (λ parts. Higher n s parts)
    (λ whole. highest_of_more n s (clip lo hi (record { first = a; last = b - 1 })) (kept n lo hi rest) found)
    (λ short. found))
    (λ none. found)

highest_of_all : (m : List Range) (n lo hi a top s : ℕ) → IsMapFrom a m → a ≤ s → IsThere m n lo hi top s → Higher n s (kept n lo hi (holes_from a top m))
highest_of_all [] n lo hi a top s rise begins there = subst (λ (xs : List Hole). Higher n s (kept n lo hi xs)) (append-nil (hole_between a top)) (highest_here n lo hi a top s [] there.some there.from there.to begins there.below tt)
highest_of_all (r ∷ m) n lo hi a top s rise begins there =
    elim (cases_lt r.first (s + n)) [
      | inl lt ↦
          let rest = behind r m n lo hi top s there lt in
          highest_behind n lo hi a r.first s (holes_from (r.last + 1) top m) (highest_of_all m n lo hi (r.last + 1) top s rise.3 (omega (arith, rest.0)) rest.1)
      | inr ge ↦
          highest_here n lo hi a r.first s (holes_from (r.last + 1) top m) there.some there.from there.to begins ge
          (kept_above m n lo hi (r.last + 1) s (holes_from (r.last + 1) top m) (omega (arith, rise.1)) (holes_are_free m (r.last + 1) top rise.3))
    ]

-- ---- in a map

is_there : (kind : Kind) (m : List Range) (n lo hi s : ℕ) → 1 ≤ n → hi ≤ greatest_of kind → IsRoom m n lo hi s → IsThere m n lo hi (greatest_of kind + 1) s
is_there kind m n lo hi s some top room = record { some = some; from = room.from; to = room.to; below = omega (arith, room.to); free = room.free }

pub none_is_lower : (kind : Kind) (m : List Range) (n lo hi s : ℕ) → IsMap kind m → 1 ≤ n → hi ≤ greatest_of kind → IsRoom m n lo hi s → (t : ℕ) × ((low kind m n lo hi ≡ Some t) × (t ≤ s))
none_is_lower kind m n lo hi s is some top room = lowest_of_all m n lo hi 0 (greatest_of kind + 1) s is.rise (omega arith) (is_there kind m n lo hi s some top room)

pub none_is_higher : (kind : Kind) (m : List Range) (n lo hi s : ℕ) → IsMap kind m → 1 ≤ n → hi ≤ greatest_of kind → IsRoom m n lo hi s → (t : ℕ) × ((high kind m n lo hi ≡ Some t) × (s ≤ t))
none_is_higher kind m n lo hi s is some top room = highest_of_all m n lo hi 0 (greatest_of kind + 1) s is.rise (omega arith) (is_there kind m n lo hi s some top room)
