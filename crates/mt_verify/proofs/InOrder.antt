-- Lines in order, pair by pair, as one more is gone through.
use Rattle.mt_verify.proofs.Prelude.{ℕ, ◌+◌, ◌<◌, List, length, get_or, take, All, AllPairs, arith, sym, subst, length-take, take_more, get_or-take, get_or_default, all_pairs_push}

module _ {X : Type 0} (R : X → X → Type 0) (xs : List X) where
  pub pairs_more : (i : ℕ) (d : X) → i < length xs → AllPairs R (take i xs) → All (λ x. R x (get_or xs i d)) (take i xs) → AllPairs R (take (i + 1) xs)
  pairs_more i d lt pairs new = subst (AllPairs R) (sym (take_more xs i d lt)) (all_pairs_push R (take i xs) (get_or xs i d) pairs new)

  pub pairs_at : (i j : ℕ) (d e : X) → i < j → j < length xs → AllPairs R xs → R (get_or xs i d) (get_or xs j e)
  pairs_at i j d e before within pairs = subst (λ (x : X). R x (get_or xs j e)) (get_or_default xs i e d (omega arith)) (pairs i j e before within)

  -- where all are in order, each is so with those before it
  pub pairs_before : (i : ℕ) (d : X) → i < length xs → AllPairs R xs → All (λ x. R x (get_or xs i d)) (take i xs)
  pairs_before i d lt pairs k e within =
      let below : k < i = omega (arith, within, length-take i xs) in
      subst (λ (x : X). R x (get_or xs i d)) (sym (get_or-take i xs k e below)) (pairs_at k i e d below lt pairs)
