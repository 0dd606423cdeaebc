-- The numbers that bound a tree, a log and a command. The greatest number of nodes stands with the widths.
-- Source: this project's own.
use Rattle.std.specs.Prelude.{ℕ, ◌-◌, ◌^◌}

-- the least number of nodes of a tree: as many as the first call may need
abbrev pub fewest_rows : ℕ
fewest_rows = 4

-- the greatest number of passes (handles) of a tree
abbrev pub most_passes : ℕ
most_passes = 62

-- the greatest number of calls of a tree
abbrev pub most_calls : ℕ
most_calls = 2 ^ 62 - 1

-- the greatest number of lanes (threads) of a log
abbrev pub most_lanes : ℕ
most_lanes = 16

-- the greatest number of steps of a log that is made, and of draws of a command
abbrev pub most_steps : ℕ
most_steps = 100000

-- the numbers that a log is made of lie below this
abbrev pub seed_end : ℕ
seed_end = 2 ^ 31
