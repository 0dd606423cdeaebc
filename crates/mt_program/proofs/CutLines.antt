-- Where an input is cut, byte by byte.
use Rattle.mt_program.proofs.Prelude.{◌≡◌, ◌∙◌, ◌<◌, ◌++◌, ℕ, suc, Bool, true, false, List, [], ◌∷◌, Option, Some, None, append-nil, append_assoc, ap, drop, drop-cons, get_or, length, refl, subst, sym, take, ◌==◌, ◌&&◌, option_map, drop-length, take-suc, take_rest, with_byte_before, is_cut, parts_from}

-- these bytes are in front of the first part
abbrev pub before : List ℕ → List ℕ × List ℕ → List ℕ × List ℕ
before front parts = (front ++ parts.0, parts.1)

-- what is in front of this byte is of the first part, and the rest is to be cut
abbrev pub IsSoFar : List ℕ → ℕ → Bool → Type 0
IsSoFar bytes at begins = parts_from true bytes ≡ option_map (before (take at bytes)) (parts_from begins (drop at bytes))

none_before : (o : Option (List ℕ × List ℕ)) → o ≡ option_map (before []) o
none_before None = refl
none_before (Some parts) = refl

one_more : (front : List ℕ) (byte : ℕ) (o : Option (List ℕ × List ℕ)) → option_map (before front) (option_map (with_byte_before byte) o) ≡ option_map (before (front ++ byte ∷ [])) o
one_more front byte None = refl
one_more front byte (Some parts) = ap (λ (x : List ℕ). Some (x, parts.1)) (sym (append_assoc front (byte ∷ []) parts.0))

cuts_here : (bytes : List ℕ) → is_cut bytes ≡ true → parts_from true bytes ≡ Some ([], drop 4 bytes)
cuts_here [] is = absurd (cc)
cuts_here (byte ∷ bytes) is = rw is refl

goes_on : (begins : Bool) (byte : ℕ) (bytes : List ℕ) → (begins && is_cut (byte ∷ bytes)) ≡ false → parts_from begins (byte ∷ bytes) ≡ option_map (with_byte_before byte) (parts_from (byte == 10) bytes)
goes_on begins byte bytes is = rw is refl

pub cut_starts : (bytes : List ℕ) → IsSoFar bytes 0 true
cut_starts bytes = none_before (parts_from true bytes)

pub cut_found : (bytes : List ℕ) (at : ℕ) → IsSoFar bytes at true → is_cut (drop at bytes) ≡ true → parts_from true bytes ≡ Some (take at bytes, drop 4 (drop at bytes))
cut_found bytes at so_far is =
    so_far ∙ (ap (λ (o : Option (List ℕ × List ℕ)). option_map (before (take at bytes)) o) (cuts_here (drop at bytes) is)
    ∙ ap (λ (x : List ℕ). Some (x, drop 4 (drop at bytes))) (append-nil (take at bytes)))

pub cut_steps : (bytes : List ℕ) (at : ℕ) (begins : Bool) (byte : ℕ) → at < length bytes → byte ≡ get_or bytes at 0 → (begins && is_cut (drop at bytes)) ≡ false → IsSoFar bytes at begins
    → IsSoFar bytes (suc at) (byte == 10)
cut_steps bytes at begins byte within is none so_far =
    let rest : drop at bytes ≡ byte ∷ drop (suc at) bytes = drop-cons bytes at 0 within ∙ ap (λ (b : ℕ). b ∷ drop (suc at) bytes) (sym is) in
    let more : take (suc at) bytes ≡ take at bytes ++ byte ∷ [] = take-suc bytes at 0 within ∙ ap (λ (b : ℕ). take at bytes ++ b ∷ []) (sym is) in
    let here : (begins && is_cut (byte ∷ drop (suc at) bytes)) ≡ false = subst (λ (l : List ℕ). (begins && is_cut l) ≡ false) rest none in
    so_far ∙ (ap (λ (l : List ℕ). option_map (before (take at bytes)) (parts_from begins l)) rest
    ∙ (ap (λ (o : Option (List ℕ × List ℕ)). option_map (before (take at bytes)) o) (goes_on begins byte (drop (suc at) bytes) here)
    ∙ (one_more (take at bytes) byte (parts_from (byte == 10) (drop (suc at) bytes))
    ∙ ap (λ (l : List ℕ). option_map (before l) (parts_from (byte == 10) (drop (suc at) bytes))) (sym more))))

pub cut_ends : (bytes : List ℕ) (begins : Bool) → IsSoFar bytes (length bytes) begins → parts_from true bytes ≡ None
cut_ends bytes begins so_far = so_far ∙ ap (λ (l : List ℕ). option_map (before (take (length bytes) bytes)) (parts_from begins l)) (drop-length bytes)

pub ruleset cutting = (cut_starts, cut_found, cut_steps, cut_ends, take_rest)
