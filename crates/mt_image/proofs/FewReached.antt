-- No row of a lawful tree is reached twice, and no more are reached than there are.
use Rattle.mt_image.proofs.Prelude.{◌≡◌, ◌≢◌, ℕ, ◌+◌, ◌<◌, ◌≤◌, ◌==◌, List, [], ◌∷◌, length, refl, sym, ap, inl, inr, arith, eq-eqb, AllByRecursion, AllPairs, cases_eq, All-from_recursion, AllPairs-cons, Kind, first_row, apart_are_few, one_if, reached_in, Rooted, tree_as, IsLawfulOf, once_in}
use Rattle.mt_rows.proofs.Reached as reached
use Rattle.mt_image.proofs.Places.{times_of}

-- ---- a list in which each number stands once at most

none_same : (x : ℕ) (xs : List ℕ) → times_of x xs ≡ 0 → AllByRecursion (λ y. x ≢ y) xs
none_same x [] none = tt
none_same x (y ∷ xs) none = elim (cases_eq y x) [
  | inl same ↦ absurd (let here = ap one_if (eq-eqb y x same) in omega arith)
  | inr other ↦ ((λ is. other (sym is)), none_same x xs (omega arith))
]

once_apart : (xs : List ℕ) → ((r : ℕ) → times_of r xs ≤ 1) → AllPairs (λ x y. x ≢ y) xs
once_apart [] once = λ i j d before within. absurd (omega arith)
once_apart (x ∷ xs) once =
    let none : times_of x xs ≡ 0 = (let most = once x in let here = ap one_if (eq-eqb x x refl) in omega arith) in
    AllPairs-cons (λ x y. x ≢ y) x xs (All-from_recursion (λ y. x ≢ y) xs (none_same x xs none)) (once_apart xs (λ r. (let most = once r in omega arith)))

-- ---- the rows that are reached

module _ (kind : Kind) (t : Rooted) (lawful : IsLawfulOf t kind) where
  abbrev rows : List ℕ
  rows = reached_in t.table t.root

  none_reached : t.root ≡ 0 → (r : ℕ) → times_of r rows ≡ 0
  none_reached empty r = ap (λ (w : ℕ). times_of r (reached_in t.table w)) empty

  pub reached_once : (r : ℕ) → times_of r rows ≤ 1
  reached_once r = elim lawful.words [
    | inl empty ↦ (let none = none_reached empty r in omega arith)
    | inr (h, stands, one, tended) ↦ once_in (tree_as kind t) h r stands
  ]

  pub reached_inside : (r : ℕ) → 1 ≤ times_of r rows → (first_row ≤ r) × (r < first_row + t.rows)
  reached_inside r some = elim lawful.words [
    | inl empty ↦ absurd (let none = none_reached empty r in omega arith)
    | inr (h, stands, one, tended) ↦ reached.reached_number (tree_as kind t) h stands r (let same = reached.tally_reached (tree_as kind t) h stands r in omega arith)
  ]

  pub few_reached : length rows ≤ t.rows
  few_reached =
      apart_are_few first_row t.rows rows
      (All-from_recursion (λ r. (first_row ≤ r) × (r < first_row + t.rows)) rows (reached.all_of_each (λ r. (first_row ≤ r) × (r < first_row + t.rows)) rows (λ r one. reached_inside r (reached.tally_some (λ (q : ℕ). q == r) rows r one (eq-eqb r r refl)))))
      (once_apart rows reached_once)
