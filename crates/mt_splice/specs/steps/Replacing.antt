-- A replacement under way, level by level: what holds between its steps.
-- Source: the kernel's lib/maple_tree.c, mas_spanning_rebalance, which goes up level by level.
use Rattle.std.specs.Prelude.{◌≡◌}
use Rattle.mt_splice.specs.Prelude.{Call, Reply, acted, map_by}
use Rattle.mt_splice.specs.steps.Starts.{Start}
use Rattle.mt_splice.specs.steps.Ledgers.{Before}

-- the call makes this map, and is answered so
abbrev pub IsAnswer : Before → Start → Call → Reply → Type 0
IsAnswer b start call reply = acted b.kind (map_by b.sheet.tree) call ≡ (start.map, reply)
