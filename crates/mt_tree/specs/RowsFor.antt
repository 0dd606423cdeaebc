-- How many nodes are surely enough for `ranges` ranges, while no section holds any.
-- Source: this project's own: what a call that is refused for lack of nodes says of its map.
use Rattle.std.specs.Prelude.{ℕ, zero, suc, ◌+◌, ◌-◌, ◌*◌, ◌/◌, ◌^◌, nat_le, if◌then◌else◌}
use Rattle.mt_tree.specs.Prelude.{most_rows}

-- one level more, where a tree may have it
abbrev pub level_from : ℕ → ℕ → ℕ
level_from most least = if nat_le least most then 1 else 0

-- at most this many more, of which the first needs this much, and each other four times as much as the one before
abbrev pub levels_from : ℕ → ℕ → ℕ → ℕ
levels_from most least zero = 0
levels_from most least (suc more) = level_from most least + levels_from most (4 * least) more

-- In a tree of 2 levels or more, 3 * 4 ^ (levels - 1) is at most twice its number of ranges and one. So this is the greatest
-- number of its levels, and never more than 9.
abbrev pub levels_for : ℕ → ℕ
levels_for ranges = 1 + levels_from (2 * ranges + 1) 12 8

-- as many as may be in use, and as a call needs
abbrev pub rows_for : ℕ → ℕ
rows_for ranges = ranges / 2 + 3 * levels_for ranges + 3

-- the greatest number if a tree cannot have that many nodes
abbrev pub rows_told : ℕ → ℕ
rows_told ranges = if nat_le (rows_for ranges) most_rows then rows_for ranges else 2 ^ 64 - 1
