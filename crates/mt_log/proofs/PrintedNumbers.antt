-- A number in print reads as this number.
use Rattle.mt_log.proofs.Prelude.{◌≡◌, ℕ, ◌-◌, ◌≤◌, ◌<◌, ◌^◌, Bool, true, false, List, [], ◌∷◌, Ok, length, take, codes, arith, refl, ◌&&◌, nat_eq, digit_value, is_ascii_digit, decimal, bytes_eq, AllDigits, digits_value, le-leb, lt-ltb, nat_tests, decimal_is_IsNumeral, length-decimal-le, digit_from_value, Kind, greatest_of, decimal_read, number_read, index_read, size_read, entry_number_read, count_read, lane_number_read, most_lanes}
use Rattle.mt_log.proofs.Digits.{tells_decimal, told_all}

-- ---- digits are no word

digit_is_no : (c d : ℕ) → digit_value c < 10 → 57 < d → nat_eq c d ≡ false
digit_is_no c d digit above = let range = digit_from_value c digit in grind (arith, nat_tests)

and_no : (b c : Bool) → c ≡ false → (b && c) ≡ false
and_no true c h = h
and_no false c h = refl

no_and : (b c : Bool) → b ≡ false → (b && c) ≡ false
no_and b c h = rw h refl

no_max : (digits : List ℕ) → AllDigits 10 digits → bytes_eq digits (codes "max") ≡ false
no_max [] told = refl
no_max (c ∷ digits) told = no_and _ _ (digit_is_no c 109 told.0 (omega arith))

no_prefix : (digits : List ℕ) → AllDigits 10 digits → bytes_eq (take 2 digits) (codes "0x") ≡ false
no_prefix [] told = refl
no_prefix (c ∷ []) told = and_no (nat_eq c 48) false refl
no_prefix (c ∷ d ∷ digits) told = and_no (nat_eq c 48) _ (no_and _ _ (digit_is_no d 120 told.1.0 (omega arith)))

-- ---- numbers

number_digits : (n : ℕ) → n < 2 ^ 64 → AllDigits 10 (decimal n)
number_digits n h = (decimal_is_IsNumeral n h).0.1

decimal_reads : (n : ℕ) → n < 2 ^ 64 → decimal_read (decimal n) ≡ Ok n
unfolding decimal_read
decimal_reads n h =
    let numeral = decimal_is_IsNumeral n h in
    let short : length (decimal n) ≤ 20 = length-decimal-le 20 n (omega arith) (omega (arith, h)) h in
    let value : digits_value 10 (decimal n) ≡ n = numeral.1 in
    rw (told_all 10 is_ascii_digit tells_decimal (decimal n) numeral.0.1, le-leb 1 (length (decimal n)) (omega (arith, numeral.0.0)), le-leb (length (decimal n)) 20 short, value, lt-ltb n (2 ^ 64) h) refl

pub number_reads : (most n : ℕ) → n < 2 ^ 64 → number_read most (decimal n) ≡ Ok n
unfolding number_read
number_reads most n h = rw (no_max (decimal n) (number_digits n h), no_prefix (decimal n) (number_digits n h)) (decimal_reads n h)

pub index_reads : (kind : Kind) (n : ℕ) → n < 2 ^ 64 → index_read kind (decimal n) ≡ Ok n
unfolding index_read
index_reads kind n h = number_reads (greatest_of kind) n h

pub size_reads : (n : ℕ) → n < 2 ^ 64 → size_read (decimal n) ≡ Ok n
unfolding size_read
size_reads n h = number_reads (2 ^ 64 - 1) n h

pub entry_reads : (n : ℕ) → n < 2 ^ 64 → entry_number_read (decimal n) ≡ Ok n
unfolding entry_number_read
entry_reads n h = number_reads (2 ^ 64 - 1) n h

pub count_reads : (n : ℕ) → 1 ≤ n → n ≤ 65536 → count_read (decimal n) ≡ Ok n
unfolding count_read
count_reads n least most = rw (number_reads (2 ^ 64 - 1) n (omega arith), le-leb 1 n least, le-leb n 65536 most) refl

pub lane_reads : (n : ℕ) → n < most_lanes → lane_number_read (decimal n) ≡ Ok n
unfolding lane_number_read
lane_reads n h = rw (number_reads (2 ^ 64 - 1) n (omega arith), lt-ltb n most_lanes h) refl
