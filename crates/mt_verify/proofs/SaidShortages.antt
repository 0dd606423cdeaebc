-- What bytes say of a call that was refused for want of rows.
use Rattle.mt_verify.proofs.Prelude.{◌≡◌, ℕ, ◌<◌, ◌^◌, List, [], ◌∷◌, ◌++◌, None, length, refl, sym, ap, ◌∙◌, decimal, append-nil, IsNumberBefore, IsNumberAlone, SaysShortage, EndsNumber, numbers_apart}

-- a number that is a whole text is in front of nothing
at_end : (n : ℕ) → decimal n ++ [] ≡ decimal n
at_end n = append-nil (decimal n)

pub whole : (text : List ℕ) (number : ℕ) → text ≡ decimal number ++ [] → number < 2 ^ 64 → IsNumberAlone text number
whole text number is fits = record {
  printed = is ∙ at_end number;
  only = λ n small other. (numbers_apart n number [] [] (at_end n ∙ (sym other ∙ is)) small fits tt tt).number;
}

pub not_whole : (text rest : List ℕ) (number n : ℕ) → text ≡ decimal number ++ rest → EndsNumber rest → number < 2 ^ 64 → (length rest ≡ 0 → ⊥) → n < 2 ^ 64 → text ≡ decimal n → ⊥
not_whole text rest number n is ends fits some small other =
    some (ap length (sym (numbers_apart n number [] rest (at_end n ∙ (sym other ∙ is)) small fits tt ends).rest))

-- ---- a shortage

one_less : (a b : ℕ) (xs ys : List ℕ) → a ∷ xs ≡ b ∷ ys → xs ≡ ys
one_less a b xs ys same = cc

-- the number at the front, and what is behind it, of a text that says another
behind : (text rest more : List ℕ) (number n : ℕ) → IsNumberBefore text 32 number rest → n < 2 ^ 64 → text ≡ decimal n ++ (32 ∷ more) → rest ≡ more
behind text rest more number n is small other = sym (is.only n more small other).1

pub says : (text needed freed lived heldt : List ℕ) (need free live held : ℕ) → text ≡ 110 ∷ 111 ∷ 109 ∷ 101 ∷ 109 ∷ 32 ∷ needed
    → IsNumberBefore needed 32 need freed → IsNumberBefore freed 32 free lived → IsNumberBefore lived 32 live heldt → IsNumberAlone heldt held
    → SaysShortage text (record { need = need; free = free; live = live; held = held; by = None })
says text needed freed lived heldt need free live held word first second third last = record {
  printed = word ∙ ap (λ (t : List ℕ). 110 ∷ 111 ∷ 109 ∷ 101 ∷ 109 ∷ 32 ∷ t)
      (first.printed ∙ ap (λ (t : List ℕ). decimal need ++ (32 ∷ t)) (second.printed ∙ ap (λ (t : List ℕ). decimal free ++ (32 ∷ t)) (third.printed ∙ ap (λ (t : List ℕ). decimal live ++ (32 ∷ t)) last.printed)));
  none = refl;
  only = λ other small printed.
      (let same : needed ≡ decimal other.need ++ (32 ∷ (decimal other.free ++ (32 ∷ (decimal other.live ++ (32 ∷ decimal other.held))))) = cc in
      let a = behind needed freed (decimal other.free ++ (32 ∷ (decimal other.live ++ (32 ∷ decimal other.held)))) need other.need first small.need same in
      let b = behind freed lived (decimal other.live ++ (32 ∷ decimal other.held)) free other.free second small.free a in
      let d = behind lived heldt (decimal other.held) live other.live third small.live b in
      last.only other.held small.held d);
}
