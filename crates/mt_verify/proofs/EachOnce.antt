-- Calls of a tree that are told, each once, in the order of their numbers.
use Rattle.mt_verify.proofs.Prelude.{◌≡◌, ℕ, zero, suc, ◌+◌, ◌<◌, List, [], ◌∷◌, ◌++◌, Option, Some, None, length, map, get_or, take, drop, Contains, IsPermutation, arith, refl, sym, ap, ◌∙◌, subst, inl, inr, cons_option, enumerate_from, length-map, take-append-drop, take_more, drop_more, append-nil, filter_map-append, length-enumerate_from, IsPermutation-sym, IsPermutation-trans, IsPermutation-cons, IsPermutation-to_front, length_permutation, ToldLine, Numbered, AreCallsOf, HasNoPlace, calls_told, filled_from, numbered_on_told, times_numbered}
use Rattle.mt_verify.proofs.Placed.{filled_all, times-append, times-permutation, times_below, times_behind, times_free, times_once, times_taken, times_yes}

-- ---- the calls that lines tell, one line after another

module _ (tree : ℕ) (told : List ToldLine) (i : ℕ) (d : ToldLine) (within : i < length told) where
  calls_more : calls_told tree (take (i + 1) told) ≡ calls_told tree (take i told) ++ cons_option (numbered_on_told tree (get_or told i d)) []
  calls_more = ap (calls_told tree) (take_more told i d within) ∙ filter_map-append (numbered_on_told tree) (take i told) (get_or told i d ∷ [])

  calls_split : calls_told tree told ≡ calls_told tree (take i told) ++ cons_option (numbered_on_told tree (get_or told i d)) (calls_told tree (drop (i + 1) told))
  calls_split =
      ap (calls_told tree) (sym (take-append-drop i told)) ∙ (filter_map-append (numbered_on_told tree) (take i told) (drop i told)
      ∙ ap (λ (rest : List ToldLine). calls_told tree (take i told) ++ calls_told tree rest) (drop_more told i d within))

  pub call_less : numbered_on_told tree (get_or told i d) ≡ None → (placed : List (ℕ × Numbered)) → IsPermutation placed (calls_told tree (take i told)) → IsPermutation placed (calls_told tree (take (i + 1) told))
  call_less none placed are =
      let same : calls_told tree (take i told) ≡ calls_told tree (take (i + 1) told) = sym (calls_more ∙ (ap (λ (o : Option (ℕ × Numbered)). calls_told tree (take i told) ++ cons_option o []) none ∙ append-nil (calls_told tree (take i told)))) in
      subst (IsPermutation placed) same are

  pub call_more : (number : ℕ) (call : Numbered) → numbered_on_told tree (get_or told i d) ≡ Some (number, call) → (before after : List (ℕ × Numbered)) → IsPermutation after ((number, call) ∷ before) → IsPermutation before (calls_told tree (take i told)) → IsPermutation after (calls_told tree (take (i + 1) told))
  call_more number call is before after put are =
      let calls : List (ℕ × Numbered) = calls_told tree (take i told) in
      let last : calls ++ (number, call) ∷ [] ≡ calls_told tree (take (i + 1) told) = sym (calls_more ∙ ap (λ (o : Option (ℕ × Numbered)). calls ++ cons_option o []) is) in
      subst (IsPermutation after) last (IsPermutation-trans after ((number, call) ∷ before) (calls ++ (number, call) ∷ []) put
      (IsPermutation-trans ((number, call) ∷ before) ((number, call) ∷ calls) (calls ++ (number, call) ∷ []) (IsPermutation-cons (number, call) before calls are) (IsPermutation-sym (calls ++ (number, call) ∷ []) ((number, call) ∷ calls) (IsPermutation-to_front calls (number, call)))))

  -- a call counts, besides those before it
  times_with : (number : ℕ) (call : Numbered) → numbered_on_told tree (get_or told i d) ≡ Some (number, call) → times_numbered number (calls_told tree (take i told)) < times_numbered number (calls_told tree told)
  times_with number call is =
      let calls : List (ℕ × Numbered) = calls_told tree (take i told) in
      let rest : List (ℕ × Numbered) = calls_told tree (drop (i + 1) told) in
      let all : calls_told tree told ≡ calls ++ (number, call) ∷ rest = calls_split ∙ ap (λ (o : Option (ℕ × Numbered)). calls ++ cons_option o rest) is in
      omega (arith, ap (times_numbered number) all, times-append number calls ((number, call) ∷ rest), times_yes number call rest)

-- ---- calls in the order of their numbers

module _ (tree : ℕ) (told : List ToldLine) (list : List Numbered) (are : AreCallsOf tree told list) where
  times_listed : (number : ℕ) → times_numbered number (calls_told tree told) ≡ times_numbered number (filled_from 1 (map Some list))
  times_listed number = times-permutation number (enumerate_from 1 list) (calls_told tree told) are ∙ ap (times_numbered number) (sym (filled_all 1 list))

  pub as_many : length (calls_told tree told) ≡ length list
  as_many = length_permutation (enumerate_from 1 list) (calls_told tree told) are ∙ length-enumerate_from 1 list

  -- a call whose number has no place is not one of them
  pub none_without_place : (i number : ℕ) (d : ToldLine) (call : Numbered) (places : List (Option Numbered)) → i < length told → numbered_on_told tree (get_or told i d) ≡ Some (number, call)
      → IsPermutation (filled_from 1 places) (calls_told tree (take i told)) → length list ≡ length places → HasNoPlace number places → ⊥
  none_without_place i number d call places within is placed long lacks =
      let with = times_with tree told i d within number call is in
      let listed = times_listed number in
      elim lacks [
        | inl none ↦ omega (arith, with, listed, times_below number 1 (map Some list) (omega arith))
        | inr other ↦ elim other [
          | inl past ↦ omega (arith, with, listed, times_behind number 1 (map Some list) (omega (arith, length-map list (λ (x : Numbered). Some x))))
          | inr taken ↦ omega (arith, taken, with, listed, times-permutation number (filled_from 1 places) (calls_told tree (take i told)) placed, times_once number 1 (map Some list))
        ]
      ]

  -- nor is a place free
  pub none_with_free : (places : List (Option Numbered)) → IsPermutation (filled_from 1 places) (calls_told tree told) → length list ≡ length places → Contains places None → ⊥
  none_with_free places placed long free =
      let k : ℕ = free.0 in
      let fits : k < length (map Some list) = omega (arith, long, free.1, length-map list (λ (x : Numbered). Some x)) in
      let none = times_free 1 k places None free.1 free.2 in
      let some = listed_at k (map Some list) fits (all_some list) in
      omega (arith, none, some, times_listed (1 + k), times-permutation (1 + k) (filled_from 1 places) (calls_told tree told) placed)
    where
      all_some : (xs : List Numbered) (k : ℕ) → k < length (map Some xs) → (x : Numbered) × (get_or (map Some xs) k None ≡ Some x)
      all_some [] k lt = absurd (omega arith)
      all_some (x ∷ xs) zero lt = (x, refl)
      all_some (x ∷ xs) (suc k) lt = all_some xs k (omega arith)

      listed_at : (k : ℕ) (xs : List (Option Numbered)) → k < length xs → ((k : ℕ) → k < length xs → (x : Numbered) × (get_or xs k None ≡ Some x)) → 0 < times_numbered (1 + k) (filled_from 1 xs)
      listed_at k xs lt each = let one = each k lt in times_taken 1 k xs one.0 None lt one.1
