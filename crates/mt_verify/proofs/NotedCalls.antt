-- Calls are heard one after another.
use Rattle.mt_verify.proofs.Prelude.{ℕ, ◌+◌, ◌<◌, List, [], ◌∷◌, ◌++◌, length, get_or, take, sym, subst, take_more, ToldLine, Numbered, Noted, AreNotedOf, IsNotedOf}

one_more : (told : List ToldLine) (tree : ℕ) (calls : List Numbered) (noted : List Noted) (call : Numbered) (n : Noted) → AreNotedOf told tree calls noted → IsNotedOf told tree call n → AreNotedOf told tree (calls ++ call ∷ []) (noted ++ n ∷ [])
one_more told tree [] [] call n are is = (is, tt)
one_more told tree [] (x ∷ noted) call n are is = absurd are
one_more told tree (c ∷ calls) [] call n are is = absurd are
one_more told tree (c ∷ calls) (x ∷ noted) call n are is = (are.0, one_more told tree calls noted call n are.1 is)

pub noted_more : (told : List ToldLine) (tree i : ℕ) (calls : List Numbered) (noted : List Noted) (d : Numbered) (n : Noted) → i < length calls → AreNotedOf told tree (take i calls) noted → IsNotedOf told tree (get_or calls i d) n → AreNotedOf told tree (take (i + 1) calls) (noted ++ n ∷ [])
noted_more told tree i calls noted d n within are is = subst (λ (l : List Numbered). AreNotedOf told tree l (noted ++ n ∷ [])) (sym (take_more calls i d within)) (one_more told tree (take i calls) noted (get_or calls i d) n are is)
