-- What is gathered over the numbers below n grows with n.
use Rattle.mt_draw.proofs.Prelude.{◌≡◌, ℕ, ◌+◌, List, [], ◌∷◌, ◌++◌, ap, sym, ◌∙◌, arith, flat_map, fold, range_with_len, flat_map_more, map-id, map-range_with_len_more, fold-append}

pub range_grows : (n : ℕ) → range_with_len 0 (n + 1) ≡ range_with_len 0 n ++ (n ∷ [])
range_grows n =
    sym (map-id (range_with_len 0 (n + 1)))
    ∙ (map-range_with_len_more (λ (x : ℕ). x) 0 n n (omega arith)
    ∙ ap (λ (l : List ℕ). l ++ (n ∷ [])) (map-id (range_with_len 0 n)))

pub text_grows : (f : ℕ → List ℕ) (n : ℕ) → flat_map f (range_with_len 0 n) ++ f n ≡ flat_map f (range_with_len 0 (n + 1))
text_grows f n = flat_map_more f [] (range_with_len 0 n) n ∙ ap (flat_map f) (sym (range_grows n))

pub fold_grows : (f : ℕ → ℕ → ℕ) (start n : ℕ) → fold f start (range_with_len 0 (n + 1)) ≡ f (fold f start (range_with_len 0 n)) n
fold_grows f start n = ap (fold f start) (range_grows n) ∙ fold-append f start (range_with_len 0 n) (n ∷ [])
