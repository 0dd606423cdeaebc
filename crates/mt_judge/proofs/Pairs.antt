-- The words of a list of two.
use Rattle.mt_judge.proofs.Prelude.{◌≡◌, ℕ, ◌<◌, ◌≤◌, List, [], ◌∷◌, get_or, length, map, sym, ap, ◌∙◌, arith}

pub two_words : {X : Type 0} (f : X → List ℕ) (words : List X) (option word : X) (first second : List ℕ) → 2 ≤ length words → length words < 3 → option ≡ get_or words 0 option → word ≡ get_or words 1 word → first ≡ f option → second ≡ f word → map f words ≡ first ∷ second ∷ []
two_words f [] option word first second least most one other is so = absurd (omega (arith, least))
two_words f (x ∷ []) option word first second least most one other is so = absurd (omega (arith, least))
two_words f (x ∷ y ∷ []) option word first second least most one other is so = λ i. sym (is ∙ ap f one) i ∷ sym (so ∙ ap f other) i ∷ []
two_words f (x ∷ y ∷ z ∷ words) option word first second least most one other is so = absurd (omega (arith, most))
