-- Where the numbers of all reads come from when they are put together in the order of the text: from those of each lane
-- on each tree.
-- Source: this project's own.
use Rattle.std.specs.Prelude.{ℕ, ◌+◌, ◌*◌, List, [], option_map, slice_get, unwrap_or}
use Rattle.mt_verify.specs.Going.{Lane}
use Rattle.mt_verify.specs.GoneTrees.{GoneTree}
use Rattle.mt_verify.specs.Prelude.{most_lanes}

-- the numbers of a lane's reads on a tree
abbrev pub points_in : List Lane → ℕ → List ℕ
points_in lanes lane = unwrap_or (option_map (λ t. t.points) (slice_get lanes lane)) []

abbrev pub points_at : List GoneTree → ℕ → ℕ → List ℕ
points_at gone tree lane = unwrap_or (option_map (λ g. points_in g.lanes lane) (slice_get gone tree)) []

-- the place of a lane on a tree among all lanes of all trees
abbrev pub cell_of : ℕ → ℕ → ℕ
cell_of tree lane = tree * most_lanes + lane
