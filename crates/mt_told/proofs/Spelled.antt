-- A number in print in front of a text is the digits there.
use Rattle.mt_told.proofs.Prelude.{◌≡◌, ℕ, zero, suc, ◌+◌, ◌<◌, ◌^◌, true, List, [], ◌∷◌, ◌++◌, length, get_or, take, drop, refl, sym, ap, ◌∙◌, subst, inl, inr, arith, take_while, prefix_len, digit_value, is_ascii_digit, decimal, AllDigits, digits_value, cases_Bool, lt-ltb, ltb-true, decimal_is_IsNumeral, decimal_nonempty, first_decimal, decimal_digit, decimal-digits_value, take_at, length-prefix_len, IsNumeralModel, numerals_by_value, tells_digits, EndsNumber, tells_decimal}

own : IsNumeralModel (AllDigits 10) (digits_value 10)
own = numerals_by_value (AllDigits 10) tells_digits

-- digits with no 0 in front, or 0 alone, are what their value is printed as
pub printed_as : (digits : List ℕ) → AllDigits 10 digits → 0 < length digits → (get_or digits 0 0 ≡ 48 → length digits ≡ 1) → digits_value 10 digits < 2 ^ 64 → decimal (digits_value 10 digits) ≡ digits
printed_as digits told some lead fits = decimal-digits_value own digits told some lead fits

-- so many digits stand in front of what ends a number
pub digits_up_to : (digits rest : List ℕ) → AllDigits 10 digits → EndsNumber rest → prefix_len is_ascii_digit (digits ++ rest) ≡ length digits
digits_up_to [] [] told ends = refl
digits_up_to [] (byte ∷ rest) told ends = rw ends refl
digits_up_to (byte ∷ digits) rest told ends =
    let is : is_ascii_digit byte ≡ true = tells_decimal byte ∙ lt-ltb (digit_value byte) 10 told.0 in
    let one : prefix_len is_ascii_digit (byte ∷ (digits ++ rest)) ≡ 1 + prefix_len is_ascii_digit (digits ++ rest) = rw is refl in
    omega (arith, one, digits_up_to digits rest told.1 ends)

-- how many digits stand in front of a text
abbrev pub digits_of : List ℕ → ℕ
digits_of text = length (take_while is_ascii_digit text)

front_len : (text : List ℕ) → digits_of text ≡ prefix_len is_ascii_digit text
front_len text = length-prefix_len is_ascii_digit text

pub number_told : (number : ℕ) → number < 2 ^ 64 → AllDigits 10 (decimal number)
number_told number fits = (decimal_is_IsNumeral number fits).0.1

pub number_value : (number : ℕ) → number < 2 ^ 64 → digits_value 10 (decimal number) ≡ number
number_value number fits = (decimal_is_IsNumeral number fits).1

-- a number in print begins with no 0 but that of 0
pub number_lead : (number : ℕ) → number < 2 ^ 64 → get_or (decimal number) 0 0 ≡ 48 → length (decimal number) ≡ 1
number_lead zero fits lead = ap length (decimal_digit 0 (omega arith))
number_lead (suc n) fits lead = let first : 48 < get_or (decimal (suc n)) 0 0 = first_decimal (suc n) (omega arith) fits in absurd (omega arith)

-- what is read off a text with a number in front
pub record IsInFront (text digits : List ℕ) (number : ℕ) : Type 0 where
  pub is : digits ≡ decimal number
  pub some : 0 < length digits
  pub lead : get_or digits 0 0 ≡ 48 → length digits ≡ 1
  pub told : AllDigits 10 digits
  pub value : digits_value 10 digits < 2 ^ 64

pub in_front : (text rest digits : List ℕ) (number : ℕ) → number < 2 ^ 64 → EndsNumber rest → text ≡ decimal number ++ rest → digits ≡ take (digits_of text) text → IsInFront text digits number
in_front text rest digits number fits ends is at =
    let told = number_told number fits in
    let front : digits_of text ≡ length (decimal number) = front_len text ∙ (ap (prefix_len is_ascii_digit) is ∙ digits_up_to (decimal number) rest told ends) in
    let same : digits ≡ decimal number = at ∙ (ap (λ (n : ℕ). take n text) front ∙ (ap (take (length (decimal number))) is ∙ take_at (decimal number) rest (length (decimal number)) refl)) in
    record {
      is = same;
      some = subst (λ (ds : List ℕ). 0 < length ds) (sym same) (decimal_nonempty number fits);
      lead = subst (λ (ds : List ℕ). get_or ds 0 0 ≡ 48 → length ds ≡ 1) (sym same) (number_lead number fits);
      told = subst (AllDigits 10) (sym same) told;
      value = subst (λ (ds : List ℕ). digits_value 10 ds < 2 ^ 64) (sym same) (omega (arith, number_value number fits));
    }

-- the digits in front of a text are digits, and what stands behind them ends a number
abbrev pub FrontAt : List ℕ → ℕ → Type 0
FrontAt text n = AllDigits 10 (take n text) × EndsNumber (drop n text)

front_at : (text : List ℕ) → FrontAt text (prefix_len is_ascii_digit text)
front_at [] = (tt, tt)
front_at (byte ∷ text) = elim (cases_Bool (is_ascii_digit byte)) [
  | inl is ↦
      (let rest = front_at text in
      let low : digit_value byte < 10 = ltb-true (digit_value byte) 10 (sym (tells_decimal byte) ∙ is) in
      let one : prefix_len is_ascii_digit (byte ∷ text) ≡ 1 + prefix_len is_ascii_digit text = rw is refl in
      let long : suc (prefix_len is_ascii_digit text) ≡ prefix_len is_ascii_digit (byte ∷ text) = omega (arith, one) in
      subst (FrontAt (byte ∷ text)) long ((low, rest.0), rest.1))
  | inr other ↦
      (let none : 0 ≡ prefix_len is_ascii_digit (byte ∷ text) = rw other refl in
      subst (FrontAt (byte ∷ text)) none (tt, other))
]

pub front_told : (text : List ℕ) → FrontAt text (digits_of text)
front_told text = subst (FrontAt text) (sym (front_len text)) (front_at text)
