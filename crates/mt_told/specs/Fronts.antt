-- What a text begins with: a number and the byte after it, or a line.
-- Source: this project's own.
use Rattle.std.specs.Prelude.{◌≡◌, ◌≢◌, ℕ, ◌<◌, ◌^◌, List, ◌∷◌, ◌++◌, decimal}
use Rattle.std.specs.List.{AllByRecursion}

-- the text begins with the number, before this byte and the rest, and with no other number below 2^64
pub record IsNumberBefore (text : List ℕ) (end number : ℕ) (rest : List ℕ) : Type 0 where
  pub printed : text ≡ decimal number ++ (end ∷ rest)
  pub only : (n : ℕ) (r : List ℕ) → n < 2 ^ 64 → text ≡ decimal n ++ (end ∷ r) → (n ≡ number) × (r ≡ rest)

-- a byte stands nowhere in the bytes
abbrev pub HasNoByte : ℕ → List ℕ → Type 0
HasNoByte byte bytes = AllByRecursion (λ (b : ℕ). b ≢ byte) bytes

-- no line ends within these bytes
abbrev pub IsInLine : List ℕ → Type 0
IsInLine bytes = HasNoByte 10 bytes

-- the text begins with this line, before its LF and the rest, and with no other line
pub record IsLineBefore (text line rest : List ℕ) : Type 0 where
  pub printed : text ≡ line ++ (10 ∷ rest)
  pub inside : IsInLine line
  pub only : (l r : List ℕ) → IsInLine l → text ≡ l ++ (10 ∷ r) → (l ≡ line) × (r ≡ rest)
