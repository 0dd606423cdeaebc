-- A lane in front of others.
use Rattle.mt_lanes.proofs.Prelude.{◌≡◌, ℕ, zero, suc, ◌<◌, List, ◌∷◌, length, arith, sym, subst, EachPlace}

pub each_behind : {X : Type 0} (R : X → X → Type 0) (x y : X) (xs ys zs : List X) → zs ≡ x ∷ xs → R x y → EachPlace R xs ys → EachPlace R zs (y ∷ ys)
each_behind {X} R x y xs ys zs is one each = subst (λ (vs : List X). EachPlace R vs (y ∷ ys)) (sym is) go
  where
    go : EachPlace R (x ∷ xs) (y ∷ ys)
    go zero none here = one
    go (suc place) none here = each place none (omega (arith, here))
