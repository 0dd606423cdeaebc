-- The reads of a lane on a tree are those that the text tells.
use Rattle.mt_verify.proofs.Prelude.{[], ◌≡◌, ℕ, ◌==◌, List, ◌∷◌, Some, None, cond, refl, cons_option, Outcome, Step, ToldLine, What, IsTold, AreTold, look_of, by_lane, looks_on, look_told, look_by, looks_told}
use Rattle.mt_verify.proofs.ToldSteps.{IsToldOf, by_kind}

-- ---- steps that are told so

look_is_told : (version : ℕ) (w : What) (o : Outcome) → IsToldOf version w o → look_of o ≡ look_told w
look_is_told version = by_kind version (λ w o. look_of o ≡ look_told w)
    (λ number call reply n c r is. refl)
    (λ lo hi query answer l h k q v is i. Some (record { lo = is.0 i; hi = is.1 i; query = is.2 i; told = is.3 i }))
    (λ count s ranges. refl) (λ count s ranges. refl)

own_is_told : (version tree lane : ℕ) (t : ToldLine) (s : Step) → IsTold version t s → by_lane look_of tree lane s ≡ look_by tree lane t
own_is_told version tree lane t s a = λ i. cond (a.tree i == tree) (cond (a.lane i == lane) (look_is_told version t.what s.outcome a.outcome i) None) None

pub looks_are_told : (version tree lane : ℕ) (told : List ToldLine) (steps : List Step) → AreTold version told steps → looks_on tree lane steps ≡ looks_told tree lane told
looks_are_told version tree lane [] [] a = refl
looks_are_told version tree lane [] (s ∷ steps) a = absurd a
looks_are_told version tree lane (t ∷ told) [] a = absurd a
looks_are_told version tree lane (t ∷ told) (s ∷ steps) a = λ i. cons_option (own_is_told version tree lane t s a.0 i) (looks_are_told version tree lane told steps a.1 i)
