-- Entries are numbers, and 0 stands for none. Source: the kernel's documentation of the maple tree, its normal API.
use Rattle.std.specs.Prelude.{ℕ, Bool, ◌%◌, ◌==◌, ◌&&◌, nat_lt}

-- whether the tree keeps this entry for its own use
abbrev pub reserved : ℕ → Bool
reserved entry = nat_lt entry 4096 && (entry % 4 == 2)
