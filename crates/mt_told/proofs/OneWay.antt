-- What stands at the front of a text stands there in one way.
use Rattle.mt_told.proofs.Prelude.{◌≡◌, ℕ, ◌+◌, ◌-◌, ◌<◌, ◌^◌, true, false, List, ◌∷◌, ◌++◌, Some, None, length, take, drop, refl, sym, ap, ◌∙◌, ◌==◌, position, is_ascii_digit, decimal, prefix_len, bytes_eq, decimal_injective, drop_at, take_at, take-append-drop, bytes_eq-Decides, IsLineBefore, IsNumberBefore, EndsNumber}
use Rattle.mt_told.proofs.Spelled.{digits_up_to, number_told}
use Rattle.mt_told.proofs.Words.{apart, lacks_before, none_parts, parted_at}

-- ---- words

pub word_in_front : (text word rest : List ℕ) → bytes_eq (take (length word) text) word ≡ true → rest ≡ drop (length word) text → text ≡ word ++ rest
word_in_front text word rest is at =
    let same : take (length word) text ≡ word = (bytes_eq-Decides (take (length word) text) word).0 is in
    sym (take-append-drop (length word) text) ∙ (ap (λ (w : List ℕ). w ++ drop (length word) text) same ∙ ap (λ (r : List ℕ). word ++ r) (sym at))

pub word_not_in_front : (text word rest : List ℕ) → bytes_eq (take (length word) text) word ≡ false → text ≡ word ++ rest → ⊥
word_not_in_front text word rest is at =
    let same : take (length word) text ≡ word = ap (take (length word)) at ∙ take_at word rest (length word) refl in
    let yes : bytes_eq (take (length word) text) word ≡ true = (bytes_eq-Decides (take (length word) text) word).1 same in
    (cc)

-- ---- numbers

-- two numbers that are followed by no digit are one where the texts are one
pub record AreOneNumber (m n : ℕ) (r s : List ℕ) : Type 0 where
  pub number : m ≡ n
  pub rest : r ≡ s

pub numbers_apart : (m n : ℕ) (r s : List ℕ) → decimal m ++ r ≡ decimal n ++ s → m < 2 ^ 64 → n < 2 ^ 64 → EndsNumber r → EndsNumber s → AreOneNumber m n r s
numbers_apart m n r s same mfits nfits rends sends =
    let long : length (decimal m) ≡ length (decimal n) =
    sym (digits_up_to (decimal m) r (number_told m mfits) rends) ∙ (ap (prefix_len is_ascii_digit) same ∙ digits_up_to (decimal n) s (number_told n nfits) sends) in
    let digits : decimal m ≡ decimal n = sym (take_at (decimal m) r (length (decimal n)) long) ∙ (ap (take (length (decimal n))) same ∙ take_at (decimal n) s (length (decimal n)) refl) in
    record {
      number = decimal_injective m n mfits nfits digits;
      rest = sym (drop_at (decimal m) r (length (decimal n)) long) ∙ (ap (drop (length (decimal n))) same ∙ drop_at (decimal n) s (length (decimal n)) refl);
    }

pub number_stands_before : (number end : ℕ) (text behind rest : List ℕ) → text ≡ decimal number ++ behind → behind ≡ end ∷ rest → number < 2 ^ 64 → is_ascii_digit end ≡ false → IsNumberBefore text end number rest
number_stands_before number end text behind rest is at fits stops =
    let printed : text ≡ decimal number ++ (end ∷ rest) = is ∙ ap (λ (b : List ℕ). decimal number ++ b) at in
    record {
      printed = printed;
      only = λ n r small other.
          (let one = numbers_apart n number (end ∷ r) (end ∷ rest) (sym other ∙ printed) small fits stops stops in
          let same : end ∷ r ≡ end ∷ rest = one.rest in
          (one.number, cc));
    }

-- ---- lines

pub line_before : (text : List ℕ) (end : ℕ) → position (λ byte. byte == 10) text ≡ Some end → IsLineBefore text (take end text) (take (length text - (end + 1)) (drop (end + 1) text))
line_before text end is = record {
  printed = parted_at 10 text end is;
  inside = lacks_before 10 text end is;
  only = λ l r inside other. apart 10 l (take end text) r (take (length text - (end + 1)) (drop (end + 1) text)) inside (lacks_before 10 text end is) (sym other ∙ parted_at 10 text end is);
}

pub some_end : (text line rest : List ℕ) → position (λ byte. byte == 10) text ≡ None → text ≡ line ++ 10 ∷ rest → ⊥
some_end = none_parts 10
