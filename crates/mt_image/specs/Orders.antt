-- Nodes that are numbered in the order of a walk from the root: each node before its children, children from the left.
-- Source: this project's own.
use Rattle.std.specs.Prelude.{◌≡◌, ℕ, zero, suc, ◌+◌, ◌*◌, ◌^◌, ◌<◌, ◌≤◌, ◌==◌, List, [], ◌∷◌, ◌++◌, Option, Some, None, length, replicate, if◌then◌else◌}
use Rattle.std.specs.List.{AllByRecursion, range_with_len}
use Rattle.mt_image.specs.Prelude.{Kind, columns, first_row, most_rows, reached_in, Rooted, IsLawfulOf}
use Rattle.mt_image.specs.Bytes.{words_of}

-- the walk reaches all nodes in the order of their numbers, the first one first
abbrev pub AreRowsInOrder : Rooted → Type 0
AreRowsInOrder t = reached_in t.table t.root ≡ range_with_len first_row t.rows

-- the least of `n` nodes, from one on, that is not at its place in a walk
abbrev pub stray_from : ℕ → ℕ → List ℕ → Option ℕ
stray_from row zero walk = None
stray_from row (suc n) [] = Some row
stray_from row (suc n) (r ∷ walk) = if r == row then stray_from (row + 1) n walk else Some row

abbrev pub stray_in : Rooted → Option ℕ
stray_in t = stray_from first_row t.rows (reached_in t.table t.root)

-- there are few enough nodes to be named, and a word for each column of each; those before the first node, which no node has,
-- are 0, and all are numbers of 64 bits
pub record IsTable (t : Rooted) : Type 0 where
  pub few : t.rows ≤ most_rows
  pub size : length t.table.words ≡ columns t.table.width * (first_row + t.rows)
  pub zeros : t.table.words ≡ replicate (columns t.table.width * first_row) 0 ++ words_of t
  pub root : t.root < 2 ^ 64
  pub small : AllByRecursion (λ n. n < 2 ^ 64) (words_of t)

-- a well-formed tree with its nodes in the order of the walk
pub record IsGood (kind : Kind) (t : Rooted) : Type 0 where
  pub whole : IsTable t
  pub lawful : IsLawfulOf t kind
  pub order : AreRowsInOrder t
