-- Numbers that are written as bytes are read back.
use Rattle.mt_image.proofs.Prelude.{◌≡◌, ℕ, ◌+◌, ◌-◌, ◌^◌, ◌<◌, List, [], ◌∷◌, ◌++◌, length, take, drop, refl, sym, ap, ◌∙◌, arith, length-append, append_assoc, AllByRecursion, flat_map, slice_range, w64, to_le_bytes, from_le_bytes, drop_at, from_le_bytes-to_le_bytes_8, number_at, numbers_from}

eight : (n : ℕ) → length (to_le_bytes w64 n) ≡ 8
eight n = refl

pub number_read : (front back : List ℕ) (n : ℕ) → n < 2 ^ 64 → number_at (front ++ (to_le_bytes w64 n ++ back)) (length front) ≡ n
number_read front back n small =
    let size : length front + 8 - length front ≡ 8 = omega arith in
    let behind : drop (length front) (front ++ (to_le_bytes w64 n ++ back)) ≡ to_le_bytes w64 n ++ back = drop_at front (to_le_bytes w64 n ++ back) (length front) refl in
    let bytes : slice_range (front ++ (to_le_bytes w64 n ++ back)) (length front) (length front + 8) ≡ to_le_bytes w64 n = (λ i. take (size i) (behind i)) in
    ap (from_le_bytes w64) bytes ∙ from_le_bytes-to_le_bytes_8 n small

pub numbers_read : (ns front back : List ℕ) → AllByRecursion (λ n. n < 2 ^ 64) ns → numbers_from (front ++ (flat_map (to_le_bytes w64) ns ++ back)) (length front) (length ns) ≡ ns
unfolding numbers_from
numbers_read [] front back small = refl
numbers_read (n ∷ ns) front back small =
    let others = flat_map (to_le_bytes w64) ns in
    let first : front ++ ((to_le_bytes w64 n ++ others) ++ back) ≡ front ++ (to_le_bytes w64 n ++ (others ++ back)) = ap (λ (l : List ℕ). front ++ l) (append_assoc (to_le_bytes w64 n) others back) in
    let moved : front ++ ((to_le_bytes w64 n ++ others) ++ back) ≡ (front ++ to_le_bytes w64 n) ++ (others ++ back) = first ∙ sym (append_assoc front (to_le_bytes w64 n) (others ++ back)) in
    let place : length (front ++ to_le_bytes w64 n) ≡ length front + 8 = omega (arith, length-append front (to_le_bytes w64 n), eight n) in
    let here = ap (λ (l : List ℕ). number_at l (length front)) first ∙ number_read front (others ++ back) n small.0 in
    let behind = ap (λ (l : List ℕ). numbers_from l (length front + 8) (length ns)) moved ∙ (ap (λ (k : ℕ). numbers_from ((front ++ to_le_bytes w64 n) ++ (others ++ back)) k (length ns)) (sym place) ∙ numbers_read ns (front ++ to_le_bytes w64 n) back small.1) in
    (λ i. here i ∷ behind i)
