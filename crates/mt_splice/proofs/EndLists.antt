-- The rows that were seen, as a list of numbers, and rows of the book.
use Rattle.mt_splice.proofs.Prelude.{◌≡◌, ◌≢◌, ℕ, zero, suc, ◌+◌, ◌<◌, ◌≤◌, ◌==◌, List, [], ◌∷◌, ◌++◌, Bool, length, map, refl, sym, ap, ◌∙◌, subst, inl, inr, arith, eq-eqb, length-append, slice_index_or, All, AllPairs, Contains, eqb-true, get_or_append_left, get_or-append-add, All-from_recursion, row_in, StampedRow, is_row_of, IsOneOf, tally_some, tally_place, all_of_each, Seen, passing, row_seen, stamped}

-- ---- one of a list

pub one_contains : {A : Type 0} (xs : List A) (x : A) → IsOneOf x xs → Contains xs x
one_contains [] x one = absurd one
one_contains (y ∷ ys) x (inl same) = (zero, omega arith, sym same)
one_contains (y ∷ ys) x (inr behind) = let at = one_contains ys x behind in (suc at.0, (let within = at.1 in omega arith), at.2)

contains_at : {A : Type 0} (xs : List A) (x : A) (k : ℕ) → k < length xs → slice_index_or xs k x ≡ x → IsOneOf x xs
contains_at [] x k within is = absurd (omega arith)
contains_at (y ∷ ys) x zero within is = inl (sym is)
contains_at (y ∷ ys) x (suc k) within is = inr (contains_at ys x k (omega arith) is)

pub contains_one : {A : Type 0} (xs : List A) (x : A) → Contains xs x → IsOneOf x xs
contains_one xs x at = contains_at xs x at.0 at.1 at.2

one_map : {A B : Type 0} (f : A → B) (xs : List A) (x : A) → IsOneOf x xs → IsOneOf (f x) (map f xs)
one_map f [] x one = absurd one
one_map f (y ∷ ys) x (inl same) = inl (ap f same)
one_map f (y ∷ ys) x (inr behind) = inr (one_map f ys x behind)

pub map_one : {A B : Type 0} (f : A → B) (xs : List A) (y : B) → IsOneOf y (map f xs) → (x : A) × IsOneOf x xs × (f x ≡ y)
map_one f [] y one = absurd one
map_one f (x ∷ xs) y (inl same) = (x, inl refl, sym same)
map_one f (x ∷ xs) y (inr behind) = let at = map_one f xs y behind in (at.0, inr at.1, at.2)

pub all_ones : {A : Type 0} (P : A → Type 0) (xs : List A) → ((x : A) → IsOneOf x xs → P x) → All P xs
all_ones P xs each = All-from_recursion P xs (all_of_each P xs each)

-- what stands in the front of a list without repetitions does not stand behind
pub apart_ends : (xs ys : List ℕ) (x : ℕ) → AllPairs (λ r q. r ≢ q) (xs ++ ys) → Contains xs x → Contains ys x → ⊥
apart_ends xs ys x apart front back =
    let within = front.1 in let inside = back.1 in
    let here : slice_index_or (xs ++ ys) front.0 x ≡ x = get_or_append_left xs ys x front.0 within ∙ front.2 in
    let there : slice_index_or (xs ++ ys) (length xs + back.0) x ≡ x = get_or-append-add xs ys back.0 x ∙ back.2 in
    apart front.0 (length xs + back.0) x (omega arith) (omega (arith, length-append xs ys)) (here ∙ sym there)

-- ---- rows that were seen

abbrev has_row : ℕ → Seen → Bool
has_row row s = row_in s.at.word == row

pub some_seen : (row : ℕ) (seen : List Seen) → 1 ≤ passing (is_row_of row) seen → (s : Seen) × IsOneOf s seen × (row_seen s ≡ row)
some_seen row seen some = let place = tally_place (has_row row) seen some in (place.0, place.1, eqb-true (row_in place.0.at.word) row place.2)

pub seen_some : (seen : List Seen) (s : Seen) → IsOneOf s seen → 1 ≤ passing (is_row_of (row_seen s)) seen
seen_some seen s one = tally_some (has_row (row_seen s)) seen s one (eq-eqb (row_seen s) (row_seen s) refl)

pub seen_contains : (row : ℕ) (seen : List Seen) → 1 ≤ passing (is_row_of row) seen → Contains (map row_seen seen) row
seen_contains row seen some =
    let place = some_seen row seen some in
    one_contains (map row_seen seen) row (subst (λ (r : ℕ). IsOneOf r (map row_seen seen)) place.2 (one_map row_seen seen place.0 place.1))

pub contains_seen : (row : ℕ) (seen : List Seen) → Contains (map row_seen seen) row → 1 ≤ passing (is_row_of row) seen
contains_seen row seen has =
    let place = map_one row_seen seen row (contains_one (map row_seen seen) row has) in
    subst (λ (r : ℕ). 1 ≤ passing (is_row_of r) seen) place.2 (seen_some seen place.0 place.1)

pub stamped_rows : (number : ℕ) (seen : List Seen) → map (λ (row : ℕ). record { row = row; stamp = number }) (map row_seen seen) ≡ map (stamped number) seen
stamped_rows number [] = refl
stamped_rows number (s ∷ seen) = ap (λ (l : List StampedRow). stamped number s ∷ l) (stamped_rows number seen)
