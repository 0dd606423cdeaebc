-- How an input is cut into a log and the text of a transcript: at the first line that is `---`.
use Rattle.std.specs.Prelude.{◌≡◌, ◌&&◌, ◌==◌, ◌+◌, ℕ, Bool, true, List, [], ◌∷◌, Option, Some, None, Ok, codes, drop, if◌then◌else◌, length, nat_eq, option_map}
use Rattle.std.specs.List.{filter, starts_with}
use Rattle.mt_program.specs.Prelude.{log_of, Log}

-- the line that cuts begins here: three hyphens, ended by LF
abbrev pub is_cut : List ℕ → Bool
is_cut bytes = starts_with nat_eq bytes (codes "---\n")

-- with one byte more in front of the first part
abbrev pub with_byte_before : ℕ → List ℕ × List ℕ → List ℕ × List ℕ
with_byte_before byte parts = (byte ∷ parts.0, parts.1)

-- what is before the first line that cuts and what is after it, from here on: where a line begins, or within one
abbrev pub parts_from : Bool → List ℕ → Option (List ℕ × List ℕ)
parts_from begins [] = None
parts_from begins (byte ∷ bytes) = if begins && is_cut (byte ∷ bytes) then Some ([], drop 4 (byte ∷ bytes)) else option_map (with_byte_before byte) (parts_from (byte == 10) bytes)

abbrev pub parts_at_cut : List ℕ → Option (List ℕ × List ℕ)
parts_at_cut bytes = parts_from true bytes

-- the number of the line after all that are ended
abbrev pub line_behind : List ℕ → ℕ
line_behind bytes = length (filter (λ byte. byte == 10) bytes) + 1

-- the bytes are this log, the line that cuts, and this text
abbrev pub AreParts : List ℕ → Log → List ℕ → Type 0
AreParts bytes log text = (front : List ℕ) × (parts_at_cut bytes ≡ Some (front, text)) × (log_of front ≡ Ok log)
