-- How long a number is in print, and how long the rest of a line's room.
use Rattle.mt_log.proofs.Prelude.{◌≡◌, ℕ, ◌+◌, ◌-◌, ◌≤◌, ◌<◌, ◌^◌, List, [], ◌++◌, length, drop, arith, length-append, length-drop, ap, sym, ◌∙◌, decimal, length-decimal-le, nil_from_length}

pub decimal_short : (n : ℕ) → n < 2 ^ 64 → length (decimal n) ≤ 20
decimal_short n h = length-decimal-le 20 n (omega arith) (omega (arith, h)) h

pub number_long : (n : ℕ) (rest : List ℕ) → n < 2 ^ 64 → length (decimal n ++ rest) ≤ 20 + length rest
number_long n rest h = omega (arith, decimal_short n h, length-append (decimal n) rest)

-- where 20 bytes are left a number has room
pub number_room : (bytes rest : List ℕ) (at n : ℕ) → length bytes ≡ 192 → drop at bytes ≡ rest → length rest + 20 ≤ 192 → at ≤ 192 → n < 2 ^ 64 → (length (decimal n) ≤ at) × (at ≤ length bytes)
number_room bytes rest at n long is room within fits =
    let behind : length rest ≡ 192 - at = ap length (sym is) ∙ (length-drop at bytes ∙ ap (λ k. k - at) long) in
    (omega (arith, decimal_short n fits, behind, room, within), omega (arith, long, within))

-- behind the room is nothing
pub nothing_behind : (bytes : List ℕ) → length bytes ≡ 192 → drop 192 bytes ≡ []
nothing_behind bytes long = nil_from_length (drop 192 bytes) (length-drop 192 bytes ∙ ap (λ k. k - 192) long)
