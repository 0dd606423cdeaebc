use Rattle.mt_log.proofs.Prelude.{◌≡◌, ℕ, zero, suc, ◌+◌, ◌*◌, ◌≤◌, ◌<◌, ◌^◌, Bool, true, false, List, [], ◌∷◌, Option, Some, None, Ok, length, get_or, take, arith, ap, refl, sym, ◌∙◌, lit<, inl, inr, nat_lt, SomeIff, is_ascii_digit, is_ascii_hexdigit, digit_value, list_all, ok_or, AllDigits, digits_value, pow-le-pow_right, and_parts, cases_lt, le-leb, lt-ltb, le-ltb, ltb-true, nat_tests, length-take, take_all, digits_value-lt, digits_value_more, digits_more, digits_value-take-le, decimal_read, hexadecimal_read}
use Rattle.mt_log.specs.declared.faults.Why.TheVariants as why

-- what tells the digits of a radix
abbrev pub TellsDigits : ℕ → (ℕ → Bool) → Type 0
TellsDigits radix test = (byte : ℕ) → test byte ≡ nat_lt (digit_value byte) radix

pub tells_decimal : TellsDigits 10 is_ascii_digit
tells_decimal byte = grind (arith, nat_tests)

pub tells_hexadecimal : TellsDigits 16 is_ascii_hexdigit
tells_hexadecimal byte = grind (arith, nat_tests)

pub all_told : (radix : ℕ) (test : ℕ → Bool) → TellsDigits radix test → (digits : List ℕ) → list_all test digits ≡ true → AllDigits radix digits
all_told radix test tells [] h = tt
all_told radix test tells (byte ∷ digits) h =
    let parts : (test byte ≡ true) × (list_all test digits ≡ true) = and_parts _ _ h in
    (ltb-true (digit_value byte) radix (sym (tells byte) ∙ parts.0), all_told radix test tells digits parts.1)

pub told_all : (radix : ℕ) (test : ℕ → Bool) → TellsDigits radix test → (digits : List ℕ) → AllDigits radix digits → list_all test digits ≡ true
told_all radix test tells [] h = refl
told_all radix test tells (byte ∷ digits) h =
    rw (tells byte, lt-ltb (digit_value byte) radix h.0) (told_all radix test tells digits h.1)

-- these are digits, and this is what they write
pub record IsRead (radix : ℕ) (digits : List ℕ) (value : ℕ) : Type 0 where
  pub told : AllDigits radix digits
  pub written : value ≡ digits_value radix digits
  pub fits : value < 2 ^ 64

pub one_more : (radix i value byte : ℕ) (digits : List ℕ) → IsRead radix (take i digits) value → i < length digits → byte ≡ get_or digits i 0 → digit_value byte < radix → value * radix + digit_value byte < 2 ^ 64 → IsRead radix (take (i + 1) digits) (value * radix + digit_value byte)
one_more radix i value byte digits read within is below fits =
    record {
      told = digits_more radix digits i within read.told (rw is at below);
      written = rw (is, read.written) (sym (digits_value_more radix digits i within));
      fits = fits;
    }

pub all_read : (radix i value : ℕ) (digits : List ℕ) → IsRead radix (take i digits) value → length digits ≤ i → IsRead radix digits value
all_read radix i value digits read past = let all : take i digits ≡ digits = take_all i digits past in rw all at read

-- each digit is below the radix
digit_below : (radix : ℕ) (digits : List ℕ) (i : ℕ) → AllDigits radix digits → i < length digits → digit_value (get_or digits i 0) < radix
digit_below radix [] i told within = absurd (omega arith)
digit_below radix (byte ∷ digits) zero told within = told.0
digit_below radix (byte ∷ digits) (suc i) told within = digit_below radix digits i told.1 (omega arith)

-- a byte that does not follow: it is no digit, or makes the number too large
pub stopped : (radix i value byte : ℕ) (digits : List ℕ) → 2 ≤ radix → IsRead radix (take i digits) value → i < length digits → byte ≡ get_or digits i 0 → ¬ ((digit_value byte < radix) × (value * radix + digit_value byte < 2 ^ 64)) → ¬ (AllDigits radix digits × (digits_value radix digits < 2 ^ 64))
stopped radix i value byte digits wide read within is never all =
    let below : digit_value byte < radix = rw is (digit_below radix digits i all.0 within) in
    let more : digits_value radix (take (i + 1) digits) ≡ value * radix + digit_value byte = rw (is, read.written) (digits_value_more radix digits i within) in
    let bound : digits_value radix (take (i + 1) digits) ≤ digits_value radix digits = digits_value-take-le radix digits (i + 1) (omega arith) in
    never (below, omega (arith, more, bound, all.1))

-- what stands before one of at most nineteen decimal digits has a value below 10 ^ 18
pub few_digits : (digits : List ℕ) (i value : ℕ) → IsRead 10 (take i digits) value → i < length digits → length digits ≤ 19 → value < 10 ^ 18
few_digits digits i value read within short =
    let below : digits_value 10 (take i digits) < 10 ^ length (take i digits) = digits_value-lt 10 (take i digits) read.told in
    let long : length (take i digits) ≤ 18 = omega (arith, length-take i digits, within, short) in
    let most : 10 ^ length (take i digits) ≤ 10 ^ 18 = pow-le-pow_right (lit< tt) long in
    omega (arith, read.written, below, most)

decimal : (digits : List ℕ) (told : Bool) (value : Option ℕ) → list_all is_ascii_digit digits ≡ told → 0 < length digits → length digits ≤ 20 → SomeIff value (AllDigits 10 digits × (digits_value 10 digits < 2 ^ 64)) (digits_value 10 digits) → ok_or value why.Number ≡ decimal_read digits
unfolding decimal_read
decimal digits told (Some x) is some short h =
    rw (told_all 10 is_ascii_digit tells_decimal digits h.0.0, le-leb 1 (length digits) (omega arith), le-leb (length digits) 20 short, lt-ltb (digits_value 10 digits) (2 ^ 64) h.0.1) (ap Ok h.1)
decimal digits false None is some short h = rw is refl
decimal digits true None is some short h =
    let large : 2 ^ 64 ≤ digits_value 10 digits = elim (cases_lt (digits_value 10 digits) (2 ^ 64)) [ inl below ↦ absurd (h (all_told 10 is_ascii_digit tells_decimal digits is, below)) | inr above ↦ above ] in
    rw (is, le-leb 1 (length digits) (omega arith), le-leb (length digits) 20 short, le-ltb (digits_value 10 digits) (2 ^ 64) large) refl

pub decimal_from_value : (digits : List ℕ) (value : Option ℕ) → 0 < length digits → length digits ≤ 20 → SomeIff value (AllDigits 10 digits × (digits_value 10 digits < 2 ^ 64)) (digits_value 10 digits) → ok_or value why.Number ≡ decimal_read digits
decimal_from_value digits value some short h = decimal digits (list_all is_ascii_digit digits) value refl some short h

-- sixteen hexadecimal digits write a number below 2 ^ 64
pub hexadecimal_is_short : (digits : List ℕ) → AllDigits 16 digits → length digits ≤ 16 → digits_value 16 digits < 2 ^ 64
hexadecimal_is_short digits told short =
    let below : digits_value 16 digits < 16 ^ length digits = digits_value-lt 16 digits told in
    let most : 16 ^ length digits ≤ 16 ^ 16 = pow-le-pow_right (lit< tt) short in
    omega arith

hexadecimal : (digits : List ℕ) (told : Bool) (value : Option ℕ) → list_all is_ascii_hexdigit digits ≡ told → 0 < length digits → length digits ≤ 16 → SomeIff value (AllDigits 16 digits × (digits_value 16 digits < 2 ^ 64)) (digits_value 16 digits) → ok_or value why.Number ≡ hexadecimal_read digits
unfolding hexadecimal_read
hexadecimal digits told (Some x) is some short h =
    rw (told_all 16 is_ascii_hexdigit tells_hexadecimal digits h.0.0, le-leb 1 (length digits) (omega arith), le-leb (length digits) 16 short) (ap Ok h.1)
hexadecimal digits false None is some short h = rw is refl
hexadecimal digits true None is some short h =
    let told : AllDigits 16 digits = all_told 16 is_ascii_hexdigit tells_hexadecimal digits is in
    absurd (h (told, hexadecimal_is_short digits told short))

pub hexadecimal_from_value : (digits : List ℕ) (value : Option ℕ) → 0 < length digits → length digits ≤ 16 → SomeIff value (AllDigits 16 digits × (digits_value 16 digits < 2 ^ 64)) (digits_value 16 digits) → ok_or value why.Number ≡ hexadecimal_read digits
hexadecimal_from_value digits value some short h = hexadecimal digits (list_all is_ascii_hexdigit digits) value refl some short h
