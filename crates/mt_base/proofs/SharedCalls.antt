-- The calls of a tree are those of its settled passes, each once.
use Rattle.mt_base.proofs.Prelude.{◌≡◌, ◌≢◌, ℕ, zero, suc, ◌+◌, ◌<◌, ◌≤◌, ◌==◌, List, [], ◌∷◌, ◌++◌, Some, length, slice_get, arith, refl, sym, ap, ◌∙◌, inl, inr, AllByRecursion, flat_map, range_with_len, IsPermutation, cases_Bool, eqb-true, eqb-false, recursion_from_All, IsPermutation-refl, IsPermutation-sym, IsPermutation-cons, IsPermutation-trans, IsPermutation-middle, IsPermutation-append_right, Record, History, Pass, IsSettled, places, places_from}

pub flat_same : (f g : ℕ → List ℕ) (a n : ℕ) → ((k : ℕ) → a ≤ k → g k ≡ f k) → flat_map g (range_with_len a n) ≡ flat_map f (range_with_len a n)
flat_same f g a zero same = refl
flat_same f g a (suc n) same = let e : g a ≡ f a = same a (omega arith) in rw (e, flat_same f g (a + 1) n (λ k h. same k (omega arith))) refl

-- one of these lists has one number more, at its front
pub one_more : (number at : ℕ) (f g : ℕ → List ℕ) (a n : ℕ) → a ≤ at → at < a + n → ((k : ℕ) → k ≢ at → g k ≡ f k) → g at ≡ number ∷ f at → IsPermutation (flat_map g (range_with_len a n)) (number ∷ flat_map f (range_with_len a n))
one_more number at f g a zero from below others own = absurd (omega arith)
one_more number at f g a (suc n) from below others own = elim (cases_Bool (a == at)) [
  | inl t ↦
      let here : a ≡ at = eqb-true a at t in
      let e : g a ≡ number ∷ f a = rw here own in
      rw (e, flat_same f g (a + 1) n (λ k h. others k (λ same. absurd (omega arith)))) (IsPermutation-refl (number ∷ (f a ++ flat_map f (range_with_len (a + 1) n))))
  | inr other ↦
      let apart : a ≢ at = eqb-false a at other in
      let e : g a ≡ f a = others a apart in
      let rest : IsPermutation (flat_map g (range_with_len (a + 1) n)) (number ∷ flat_map f (range_with_len (a + 1) n)) = one_more number at f g (a + 1) n (omega (arith, apart)) (omega arith) others own in
      rw e (IsPermutation-trans (f a ++ flat_map g (range_with_len (a + 1) n)) (f a ++ number ∷ flat_map f (range_with_len (a + 1) n)) (number ∷ (f a ++ flat_map f (range_with_len (a + 1) n)))
      (IsPermutation-append_right (f a) (flat_map g (range_with_len (a + 1) n)) (number ∷ flat_map f (range_with_len (a + 1) n)) rest)
      (IsPermutation-middle (f a) number (flat_map f (range_with_len (a + 1) n))))
]

nothing_from : (m a n : ℕ) → flat_map (λ (k : ℕ). places_from m k []) (range_with_len a n) ≡ []
nothing_from m a zero = refl
nothing_from m a (suc n) = nothing_from m (a + 1) n

pub place_taken : (m k : ℕ) (r : Record) (rs : List Record) → r.pass ≡ k → places_from m k (r ∷ rs) ≡ m ∷ places_from (m + 1) k rs
place_taken m k r rs e = elim (cases_Bool (r.pass == k)) [
  | inl t ↦ rw t refl
  | inr f ↦ absurd (eqb-false r.pass k f e)
]

pub place_left : (m k : ℕ) (r : Record) (rs : List Record) → r.pass ≢ k → places_from m k (r ∷ rs) ≡ places_from (m + 1) k rs
place_left m k r rs apart = elim (cases_Bool (r.pass == k)) [
  | inl t ↦ absurd (apart (eqb-true r.pass k t))
  | inr f ↦ rw f refl
]

-- the places of all numbers below n, where all records are of these
all_places : (m n : ℕ) (rs : List Record) → AllByRecursion (λ (r : Record). r.pass < n) rs → IsPermutation (flat_map (λ (k : ℕ). places_from m k rs) (range_with_len 0 n)) (range_with_len m (length rs))
all_places m n [] theirs = rw (nothing_from m 0 n) (IsPermutation-refl [])
all_places m n (r ∷ rs) theirs =
    let here : ℕ → List ℕ = λ k. places_from m k (r ∷ rs) in
    let rest : ℕ → List ℕ = λ k. places_from (m + 1) k rs in
    IsPermutation-trans (flat_map here (range_with_len 0 n)) (m ∷ flat_map rest (range_with_len 0 n)) (m ∷ range_with_len (m + 1) (length rs))
    (one_more m r.pass rest here 0 n (omega arith) (omega (arith, theirs.0)) (λ k apart. place_left m k r rs (λ same. apart (sym same))) (place_taken m r.pass r rs refl))
    (IsPermutation-cons m (flat_map rest (range_with_len 0 n)) (range_with_len (m + 1) (length rs)) (all_places (m + 1) n rs theirs.1))

-- the lists of passes that are numbered from b on
lists_of : (b : ℕ) (rs : List Record) (passes : List Pass) → ((i : ℕ) (q : Pass) → slice_get passes i ≡ Some q → q.number ≡ b + i) → AllByRecursion (λ (q : Pass). q.mine ≡ places q.number rs) passes → flat_map (λ (q : Pass). q.mine) passes ≡ flat_map (λ (k : ℕ). places_from 1 k rs) (range_with_len b (length passes))
lists_of b rs [] numbered own = refl
lists_of b rs (q ∷ passes) numbered own =
    let at : q.number ≡ b = omega (arith, numbered 0 q refl) in
    let mine : q.mine ≡ places_from 1 b rs = own.0 ∙ ap (λ (k : ℕ). places_from 1 k rs) at in
    rw (mine, lists_of (b + 1) rs passes (λ i p is. omega (arith, numbered (suc i) p is)) own.1) refl

pub each_once : (tree : History) (passes : List Pass) → IsSettled tree passes → IsPermutation (range_with_len 1 (length tree.records)) (flat_map (λ (q : Pass). q.mine) passes)
each_once tree passes settled =
    let lists : flat_map (λ (q : Pass). q.mine) passes ≡ flat_map (λ (k : ℕ). places_from 1 k tree.records) (range_with_len 0 (length passes)) = lists_of 0 tree.records passes (λ i q is. omega (arith, settled.numbered i q is)) (recursion_from_All _ passes settled.own) in
    rw lists (IsPermutation-sym (flat_map (λ (k : ℕ). places_from 1 k tree.records) (range_with_len 0 (length passes))) (range_with_len 1 (length tree.records)) (all_places 1 (length passes) tree.records (recursion_from_All _ tree.records settled.theirs)))
