-- Which words are numbers, and the limits of the numbers of commands.
-- Source: this project's own, the command line of its program.
use Rattle.std.specs.Prelude.{◌-◌, ◌&&◌, Bool, ℕ, List, Option, Some, None, length, if◌then◌else◌, nat_le}
use Rattle.std.specs.Char.{is_ascii_digit}
use Rattle.std.specs.List.{list_all}
use Rattle.std.specs.Str.Parse.{digits_value}
use Rattle.mt_base.specs.Limits.{seed_end}

-- 1 to 20 decimal digits and nothing else
abbrev pub is_number : List ℕ → Bool
is_number word = list_all is_ascii_digit word && nat_le 1 (length word) && nat_le (length word) 20

-- the number that a word writes, where it is in the range
abbrev pub number_in : ℕ → ℕ → List ℕ → Option ℕ
number_in least most word = if is_number word && nat_le least (digits_value 10 word) && nat_le (digits_value 10 word) most then Some (digits_value 10 word) else None

-- the greatest number that a log is made of
abbrev pub greatest_number : ℕ
greatest_number = seed_end - 1

abbrev pub most_workers : ℕ
most_workers = 16

-- the greatest number of 64 bits
abbrev pub most_index : ℕ
most_index = 18446744073709551615
