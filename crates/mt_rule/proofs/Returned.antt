-- Passes that were handed out of a list and come back: the list has what came back.
use Rattle.mt_rule.proofs.Prelude.{◌≡◌, ℕ, zero, suc, List, [], ◌∷◌, ◌++◌, length, take, drop, refl, ap, arith}

pub come_back : {X : Type 0} (n : ℕ) (new old : List X) → length new ≡ n → length old ≡ n → take n (new ++ drop (length new) old) ≡ new
come_back zero [] old is was = refl
come_back zero (x ∷ new) old is was = absurd (omega (arith, is))
come_back (suc n) [] old is was = absurd (omega (arith, is))
come_back (suc n) (x ∷ new) [] is was = absurd (omega (arith, was))
come_back (suc n) (x ∷ new) (y ∷ old) is was = ap (λ l. x ∷ l) (come_back n new old (omega (arith, is)) (omega (arith, was)))
