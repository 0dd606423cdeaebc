-- What the digits of a word write.
use Rattle.mt_cli.proofs.Prelude.{◌≡◌, ℕ, ◌==◌, ◌≤◌, ◌<◌, ◌^◌, ◌&&◌, true, false, List, [], ◌∷◌, Some, None, length, arith, refl, sym, inl, inr, ◌∙◌, nat_lt, nat_le, if◌then◌else◌, is_ascii_digit, digit_value, list_all, AllDigits, IsNumeral, digits_value, without_leading_plus, and_parts, cases_lt, leb-true, ltb-true, nat_tests, is_number, number_in}

is_digit : (byte : ℕ) → is_ascii_digit byte ≡ nat_lt (digit_value byte) 10
is_digit byte = grind (arith, nat_tests)

all_digits : (word : List ℕ) → list_all is_ascii_digit word ≡ true → AllDigits 10 word
all_digits [] h = tt
all_digits (byte ∷ word) h =
    let parts = and_parts _ _ h in
    (ltb-true (digit_value byte) 10 (sym (is_digit byte) ∙ parts.0), all_digits word parts.1)

not_plus : (byte : ℕ) → is_ascii_digit byte ≡ true → (byte == 43) ≡ false
not_plus byte h = grind (arith, nat_tests, h)

no_plus : (word : List ℕ) → list_all is_ascii_digit word ≡ true → without_leading_plus word ≡ word
no_plus [] h = refl
no_plus (byte ∷ word) h = rw (not_plus byte (and_parts _ _ h).0) refl

-- digits that make a number have no sign before them
pub numeral : (word : List ℕ) → is_number word ≡ true → (without_leading_plus word ≡ word) × IsNumeral 10 word
numeral word h =
    let outer = and_parts _ _ h in
    let inner = and_parts _ _ outer.0 in
    (no_plus word inner.0, (leb-true 1 (length word) inner.1, all_digits word inner.0))

-- digits that are no number of 64 bits write one above the range
pub unread : (word : List ℕ) (least most : ℕ) → is_number word ≡ true → most < 2 ^ 64 → ¬ (IsNumeral 10 (without_leading_plus word) × (digits_value 10 (without_leading_plus word) < 2 ^ 64))
    → None ≡ number_in least most word
unread word least most h within never =
    let (plain, numeral) = numeral word h in
    let large : 2 ^ 64 ≤ digits_value 10 word = elim (cases_lt (digits_value 10 word) (2 ^ 64)) [
      | inl below ↦ absurd (rw plain at never (numeral, below))
      | inr above ↦ above
    ] in
    let beyond : nat_le (digits_value 10 word) most ≡ false = grind (arith, nat_tests) in
    rw (h, beyond) (elim (nat_le least (digits_value 10 word)) as (λ b. None ≡ (if true && b && false then Some (digits_value 10 word) else None)) [ true ↦ refl | false ↦ refl ])
