-- A chain of desks goes on by one step.
use Rattle.mt_lanes.proofs.Prelude.{◌≡◌, ℕ, suc, ◌+◌, arith, subst, Chain}

pub chain_more : {D : Type 0} (did : D → ℕ → D → Type 0) (n : ℕ) (a b c : D) → Chain did n a b → did b n c → Chain did (n + 1) a c
chain_more did n a b c before step = let one_more : suc n ≡ n + 1 = omega arith in subst (λ m. Chain did m a c) one_more (b, before, step)
