-- Lists of rows in which no row stands twice.
use Rattle.mt_free.proofs.Prelude.{◌≡◌, ◌≢◌, ℕ, ◌+◌, ◌-◌, ◌<◌, ◌≤◌, suc, List, [], ◌∷◌, ◌++◌, length, map, take, drop, get_or, arith, sym, ◌∙◌, append_assoc, length-append, refl, inl, inr, All, AllPairs, Contains, eqb-true, Decides-eqb, get_or_append_left, get_or-append-add, get_or_at, get_or-map, get_or_default, take_at, drop_at, length-map, All-map, All-contains, Contains-append_cases, all_pairs_push, all_pairs_remove, IsDistinct-from_AllPairs, length-le_from_distinct_below, Contains-from_any}

abbrev pub AreApart : List ℕ → Type 0
AreApart xs = AllPairs (λ r s. r ≢ s) xs

-- a row stands neither before nor behind itself
pub not_before : (xs : List ℕ) (x : ℕ) (ys : List ℕ) → AreApart (xs ++ x ∷ ys) → ¬ Contains xs x
not_before xs x ys apart (k, within, is) =
    let here : get_or (xs ++ x ∷ ys) (length xs) x ≡ x = get_or_at xs x ys x (length xs) refl in
    let there : get_or (xs ++ x ∷ ys) k x ≡ x = get_or_append_left xs (x ∷ ys) x k within ∙ is in
    apart k (length xs) x within (omega (arith, length-append xs (x ∷ ys))) (there ∙ sym here)

pub not_behind : (xs : List ℕ) (x : ℕ) (ys : List ℕ) → AreApart (xs ++ x ∷ ys) → ¬ Contains ys x
not_behind xs x ys apart (k, within, is) =
    let here : get_or (xs ++ x ∷ ys) (length xs) x ≡ x = get_or_at xs x ys x (length xs) refl in
    let there : get_or (xs ++ x ∷ ys) (length xs + suc k) x ≡ x = get_or-append-add xs (x ∷ ys) (suc k) x ∙ is in
    apart (length xs) (length xs + suc k) x (omega arith) (omega (arith, length-append xs (x ∷ ys))) (here ∙ sym there)

-- without one of them the others still are apart
pub apart_without : (xs : List ℕ) (x : ℕ) (ys : List ℕ) → AreApart (xs ++ x ∷ ys) → AreApart (xs ++ ys)
apart_without xs x ys apart =
    let within : length xs < length (xs ++ x ∷ ys) = omega (arith, length-append xs (x ∷ ys)) in
    let front : take (length xs) (xs ++ x ∷ ys) ≡ xs = take_at xs (x ∷ ys) (length xs) refl in
    let behind : drop (suc (length xs)) (xs ++ x ∷ ys) ≡ ys = rw append_assoc at (drop_at (xs ++ x ∷ []) ys (suc (length xs)) (omega (arith, length-append xs (x ∷ [])))) in
    rw (front, behind) at (all_pairs_remove (λ r s. r ≢ s) (xs ++ x ∷ ys) (length xs) within apart)

-- with another one behind them they still are
pub apart_with : (xs ys : List ℕ) (x : ℕ) → AreApart (xs ++ ys) → ¬ Contains xs x → ¬ Contains ys x → AreApart (xs ++ (ys ++ x ∷ []))
apart_with xs ys x apart not_xs not_ys =
    let in_neither : ¬ Contains (xs ++ ys) x = λ c. elim (Contains-append_cases xs ys x c) [ inl c ↦ not_xs c | inr c ↦ not_ys c ] in
    rw append_assoc at (all_pairs_push (λ r s. r ≢ s) (xs ++ ys) x apart (λ k d within is. in_neither (k, within, get_or_default (xs ++ ys) k x d within ∙ is)))

-- as many as the numbers among which they are, at most
pub apart_are_few : (low count : ℕ) (xs : List ℕ) → All (λ r. (low ≤ r) × (r < low + count)) xs → AreApart xs → length xs ≤ count
apart_are_few low count xs within apart =
    let above : ℕ → ℕ = λ r. r - low in
    let apart' : AreApart (map above xs) = λ i j d lt inside is.
    (let inside_j : j < length xs = omega (arith, length-map xs above) in
    let at_i : (low ≤ get_or xs i d) × (get_or xs i d < low + count) = within i d (omega arith) in
    let at_j : (low ≤ get_or xs j d) × (get_or xs j d < low + count) = within j d inside_j in
    let same : get_or xs i d - low ≡ get_or xs j d - low = sym (get_or-map above xs i d d (omega arith)) ∙ (is ∙ get_or-map above xs j d d inside_j) in
    apart i j d lt inside_j (omega (arith, at_i.0, at_j.0, same))) in
    let below : All (λ r. r < count) (map above xs) = All-map (λ r. r < count) above xs (λ k d inside. omega (arith, within k d inside)) in
    let few : length (map above xs) ≤ count = length-le_from_distinct_below (map above xs) count (IsDistinct-from_AllPairs Decides-eqb (map above xs) apart') (λ q found. All-contains (λ r. r < count) (map above xs) q below (Contains-from_any eqb-true q (map above xs) found)) in
    omega (arith, few, length-map xs above)
