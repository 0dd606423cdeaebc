-- A locked tree as one that gives single indexes.
-- Source: this project's own; the kernel's mtree_alloc_cyclic makes its calls under one lock.
use Rattle.std.specs.Prelude.{ℕ, ◌-◌, ◌==◌, Bool, false, List, Option, Some, None, length, slice_get, option_map}
use Rattle.mt_tree.specs.Prelude.{Record, Allocation, Made}
use Rattle.mt_base.specs.Passes as known
use Rattle.mt_tree.specs.declared.trees.Tree.{Tree}
use Rattle.mt_tree.specs.Trees.{limit_of, map_seen, opened, passes_of}

-- the last of these calls and its reply
abbrev pub last_made : List Record → Option Made
last_made records = option_map (λ (r : Record). record { call = r.call; reply = r.reply }) (slice_get records (length records - 1))

-- the tree has one handle, and that has no section open
abbrev pub is_alone : ℕ → Option ℕ → Bool
is_alone passes None = passes == 1
is_alone passes (Some epoch) = false

-- the tree as the handle that has locked it sees it
abbrev pub allocation_of : Tree → known.Pass → Allocation
allocation_of t p = record {
  kind = (opened t).kind;
  rows = (opened t).rows;
  opening = length (opened t).opening;
  limit = limit_of t;
  alone = is_alone (passes_of t) p.standing;
  map = map_seen t p;
  calls = length p.seen;
  last = last_made p.seen;
}
