-- One more lane is given its looks.
use Rattle.mt_verify.proofs.Prelude.{◌≡◌, ℕ, zero, suc, ◌+◌, List, [], ◌∷◌, ◌++◌, Some, map, sym, ap, ◌∙◌, arith, range_with_len, map-append, map-range_with_len_more, ToldRead, AreFresh, Lane, looks_of}

pub looks_more : (f : ℕ → List ToldRead) (n : ℕ) (lanes : List Lane) (t : Lane) → looks_of lanes ≡ map f (range_with_len 0 n) → t.looks ≡ f n → looks_of (lanes ++ t ∷ []) ≡ map f (range_with_len 0 (n + 1))
looks_more f n lanes t same one =
    map-append (λ (x : Lane). x.looks) lanes (t ∷ []) ∙ (ap (λ (l : List (List ToldRead)). l ++ t.looks ∷ []) same ∙ (ap (λ (l : List ToldRead). map f (range_with_len 0 n) ++ l ∷ []) one ∙ sym (map-range_with_len_more f 0 n n (omega arith))))

pub fresh_more : (lanes : List Lane) (t : Lane) → AreFresh lanes → t.points ≡ [] → AreFresh (lanes ++ t ∷ [])
fresh_more [] t fresh none zero s is = ap (λ (x : Lane). x.points) (sym (some_is is)) ∙ none
  where
    some_is : Some t ≡ Some s → t ≡ s
    some_is is = cc
fresh_more [] t fresh none (suc j) s is = absurd (cc)
fresh_more (x ∷ lanes) t fresh none zero s is = fresh zero s is
fresh_more (x ∷ lanes) t fresh none (suc j) s is = fresh_more lanes t (λ i u at. fresh (suc i) u at) none j s is
