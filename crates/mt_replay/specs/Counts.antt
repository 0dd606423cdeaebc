-- How many ranges a tree had, and after how many of its calls.
-- Source: this project's own.
use Rattle.std.specs.Prelude.{◌≡◌, ◌≤◌, List, [], ◌∷◌, length}
use Rattle.mt_replay.specs.Prelude.{History, map_at, Tracked}
use Rattle.mt_replay.specs.declared.counts.Counted.{Counted}

-- The tree has had this many calls, and had this many ranges after them.
pub record IsCountOf (tree : History) (c : Counted) : Type 0 where
  pub calls : c.calls ≤ length tree.records
  pub ranges : c.ranges ≡ length (map_at tree c.calls)

-- of each tree one
abbrev pub AreCounts : List Tracked → List Counted → Type 0
AreCounts [] [] = Unit {0}
AreCounts [] (c ∷ counts) = ⊥
AreCounts (t ∷ trees) [] = ⊥
AreCounts (t ∷ trees) (c ∷ counts) = IsCountOf t.history c × AreCounts trees counts
