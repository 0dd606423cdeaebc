use Rattle.mt_log.proofs.Prelude.{◌≡◌, ℕ, ◌-◌, ◌≤◌, ◌<◌, true, [], ◌∷◌, List, ◌++◌, length, take, drop, replicate, ap, arith, ◌∙◌, refl, drop-replicate, take_at, and_parts, leb-true, common_steps, list_all, IsAscii, IsUtf8, IsUtf8-from_ascii, IsAscii-nil, IsAscii-cons, nat_tests, padded, IsPadded, is_name, is_name_byte}

pub name_is_short : (name : List ℕ) → is_name name ≡ true → length name ≤ 16
name_is_short name h = leb-true (length name) 16 (and_parts _ _ (and_parts _ _ h).0).1

-- a name is read off again
pub take_name : (name written zeros : List ℕ) → written ≡ name → take (length name) (written ++ zeros) ≡ name
take_name name written zeros same = rw same (take_at name zeros (length name) refl)

-- a name written over the front of sixteen zeros
pub padded_in_zeros : (name written : List ℕ) → is_name name ≡ true → written ≡ name → IsPadded (written ++ drop {A = ℕ} (length name) (replicate 16 0)) (length name)
padded_in_zeros name written named same =
    let short : length name ≤ 16 = name_is_short name named in
    let zeros : drop {A = ℕ} (length name) (replicate 16 0) ≡ replicate (16 - length name) 0 = drop-replicate (length name) 16 0 in
    record {
      short = short;
      named = ap is_name (take_name name written (drop {A = ℕ} (length name) (replicate 16 0)) same) ∙ named;
      whole = grind (arith, common_steps);
      zeros = ap padded (take_name name written (drop {A = ℕ} (length name) (replicate 16 0)) same) ∙ rw (same, zeros) refl;
    }

-- a byte of a name is ASCII
name_byte_is_ascii : (b : ℕ) → is_name_byte b ≡ true → b < 128
name_byte_is_ascii b h = grind (arith, nat_tests)

name_bytes_are_ascii : (bs : List ℕ) → list_all is_name_byte bs ≡ true → IsAscii bs
name_bytes_are_ascii [] h = IsAscii-nil
name_bytes_are_ascii (b ∷ bs) h =
    let parts : (is_name_byte b ≡ true) × (list_all is_name_byte bs ≡ true) = and_parts _ _ h in
    IsAscii-cons b bs (name_byte_is_ascii b parts.0) (name_bytes_are_ascii bs parts.1)

-- a name is text
pub names_are_text : (name : List ℕ) → is_name name ≡ true → IsUtf8 name
names_are_text name h = IsUtf8-from_ascii name (name_bytes_are_ascii name (and_parts _ _ h).1)
