-- Lines are cut at their ends, and fields at their spaces, as they were joined.
use Rattle.mt_log.proofs.Prelude.{◌≡◌, ℕ, ◌≤◌, ◌<◌, ◌^◌, Bool, true, false, List, [], ◌∷◌, ◌++◌, arith, refl, ap, ◌∙◌, ◌==◌, nat_lt, decimal, list_all, slice_split, join_with_byte, AllDigits, and_parts, lt-ltb, nat_tests, decimal_is_IsNumeral, digit_from_value, is_name, is_name_byte, fields_of}

-- each byte is above this one
abbrev pub are_above : ℕ → List ℕ → Bool
are_above least bytes = list_all (λ b. nat_lt least b) bytes

-- ---- fields

above_of_digits : (digits : List ℕ) → AllDigits 10 digits → are_above 32 digits ≡ true
above_of_digits [] told = refl
above_of_digits (c ∷ digits) told =
    let range = digit_from_value c told.0 in
    let above : nat_lt 32 c ≡ true = lt-ltb 32 c (omega arith) in
    rw (above, above_of_digits digits told.1) refl

pub number_is_field : (n : ℕ) → n < 2 ^ 64 → are_above 32 (decimal n) ≡ true
number_is_field n h = above_of_digits (decimal n) (decimal_is_IsNumeral n h).0.1

name_byte_above : (b : ℕ) → is_name_byte b ≡ true → nat_lt 32 b ≡ true
name_byte_above b h = grind (arith, nat_tests)

above_of_name : (bytes : List ℕ) → list_all is_name_byte bytes ≡ true → are_above 32 bytes ≡ true
above_of_name [] h = refl
above_of_name (b ∷ bytes) h =
    let parts : (is_name_byte b ≡ true) × (list_all is_name_byte bytes ≡ true) = and_parts _ _ h in
    rw (name_byte_above b parts.0, above_of_name bytes parts.1) refl

pub name_is_field : (name : List ℕ) → is_name name ≡ true → are_above 32 name ≡ true
name_is_field name h = above_of_name name (and_parts _ _ h).1

-- ---- cutting

is_no : (least b c : ℕ) → nat_lt least b ≡ true → c ≤ least → (b == c) ≡ false
is_no least b c above below = grind (arith, nat_tests)

-- up to the end of a list whose bytes are above
split_last : (least c : ℕ) → c ≤ least → (bytes : List ℕ) → are_above least bytes ≡ true → slice_split (λ b. b == c) bytes ≡ bytes ∷ []
split_last least c below [] h = refl
split_last least c below (b ∷ bytes) h =
    let parts : (nat_lt least b ≡ true) × (are_above least bytes ≡ true) = and_parts _ _ h in
    rw (is_no least b c parts.0 below, split_last least c below bytes parts.1) refl

-- and up to the byte behind it
pub split_here : (least c : ℕ) → c ≤ least → (bytes rest : List ℕ) → are_above least bytes ≡ true → slice_split (λ b. b == c) (bytes ++ c ∷ rest) ≡ bytes ∷ slice_split (λ b. b == c) rest
split_here least c below [] rest h = let same : (c == c) ≡ true = grind (arith, nat_tests) in rw same refl
split_here least c below (b ∷ bytes) rest h =
    let parts : (nat_lt least b ≡ true) × (are_above least bytes ≡ true) = and_parts _ _ h in
    rw (is_no least b c parts.0 below, split_here least c below bytes rest parts.1) refl

-- each is a field
abbrev pub are_fields : List (List ℕ) → Bool
are_fields fields = list_all (are_above 32) fields

-- fields are cut as they were joined
pub fields_again : (field : List ℕ) (fields : List (List ℕ)) → are_fields (field ∷ fields) ≡ true → fields_of (join_with_byte 32 (field ∷ fields)) ≡ field ∷ fields
fields_again field [] h =
    let parts : (are_above 32 field ≡ true) × (true ≡ true) = and_parts _ _ h in
    split_last 32 32 (omega arith) field parts.0
fields_again field (next ∷ fields) h =
    let parts : (are_above 32 field ≡ true) × (are_fields (next ∷ fields) ≡ true) = and_parts _ _ h in
    split_here 32 32 (omega arith) field (join_with_byte 32 (next ∷ fields)) parts.0 ∙ ap (λ z. field ∷ z) (fields_again next fields parts.1)

-- ---- a line of fields

above_less : (bytes : List ℕ) → are_above 32 bytes ≡ true → are_above 31 bytes ≡ true
above_less [] h = refl
above_less (b ∷ bytes) h =
    let parts : (nat_lt 32 b ≡ true) × (are_above 32 bytes ≡ true) = and_parts _ _ h in
    let less : nat_lt 31 b ≡ true = grind (arith, nat_tests) in
    rw (less, above_less bytes parts.1) refl

above_append : (least : ℕ) (xs ys : List ℕ) → are_above least xs ≡ true → are_above least ys ≡ true → are_above least (xs ++ ys) ≡ true
above_append least [] ys g h = h
above_append least (x ∷ xs) ys g h =
    let parts : (nat_lt least x ≡ true) × (are_above least xs ≡ true) = and_parts _ _ g in
    rw (parts.0, above_append least xs ys parts.1 h) refl

pub line_of_fields : (fields : List (List ℕ)) → are_fields fields ≡ true → are_above 31 (join_with_byte 32 fields) ≡ true
line_of_fields [] h = refl
line_of_fields (field ∷ []) h = above_less field (and_parts _ _ h).0
line_of_fields (field ∷ next ∷ fields) h =
    let parts : (are_above 32 field ≡ true) × (are_fields (next ∷ fields) ≡ true) = and_parts _ _ h in
    above_append 31 field (32 ∷ join_with_byte 32 (next ∷ fields)) (above_less field parts.0) (line_of_fields (next ∷ fields) parts.1)
