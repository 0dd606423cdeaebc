-- The window of a level: the nodes from the one that holds an index to the one that holds another, and what comes before them
-- and after.
-- Source: the kernel's lib/maple_tree.c, mas_wr_spanning_store, which goes by a left and a right state.
use Rattle.std.specs.Prelude.{◌≡◌, ℕ, zero, suc, ◌+◌, ◌-◌, ◌<◌, ◌≤◌, List, ◌++◌, take, drop, flat_map}
use Rattle.mt_splice.specs.Prelude.{Range, Span, leaf_range, Fills, root_span, expand, Tree, Stands, top_of, slot_for, row_on}
use Rattle.mt_splice.specs.steps.Starts.{Start, rows_at}
use Rattle.mt_splice.specs.steps.Runs.{MayBeIn}

-- of spans end to end, those before the one that holds an index, and those after it
abbrev pub before : ℕ → List Span → List Span
before index xs = take (slot_for xs index) xs

abbrev pub behind : ℕ → List Span → List Span
behind index xs = drop (slot_for xs index + 1) xs

-- and those from the one that holds an index to the one that holds another
abbrev pub between : ℕ → ℕ → List Span → List Span
between i j xs = take (slot_for xs j + 1 - slot_for xs i) (drop (slot_for xs i) xs)

-- the node of a level that holds an index, where it begins, and after what it ends
abbrev pub row_at : Tree → ℕ → ℕ → Span
row_at t d index = row_on t.table d (root_span t.table t.root) index

abbrev pub low_of : Tree → ℕ → ℕ → ℕ
low_of t d index = (row_at t d index).first

abbrev pub high_of : Tree → ℕ → ℕ → ℕ
high_of t d index = (row_at t d index).last + 1

-- a level with other nodes in the place of a window's
abbrev pub in_place : Tree → ℕ → ℕ → ℕ → List Span → List Span
in_place t d i j rows = before i (rows_at t d) ++ (rows ++ behind j (rows_at t d))

-- what the nodes of a level hold, with other spans in place of those of a window's nodes
abbrev pub in_rows : Tree → ℕ → ℕ → ℕ → List Span → List Span
in_rows t d i j run = expand t.table (before i (rows_at t d)) ++ (run ++ expand t.table (behind j (rows_at t d)))

-- in leaves the spans represent the map, and in inner nodes they are the nodes of the level below
abbrev pub StandFor : List Range → List Span → ℕ → List Span → Type 0
StandFor map below zero xs = flat_map leaf_range xs ≡ map
StandFor map below (suc h) xs = xs ≡ below

-- The spans are gathered that will replace what a window's nodes hold, at this depth and height. With them the level represents
-- the map, or holds the nodes of the level below. What changes lies in the window.
pub record Gathered (start : Start) (below : List Span) (i j d h : ℕ) (run : List Span) : Type 0 where
  pub stands : Stands start.tree start.height
  pub levels : start.height ≡ d + h
  pub order : i ≤ j
  pub within : j ≤ top_of start.tree
  pub first : low_of start.tree d i ≤ start.first
  pub last : start.last < high_of start.tree d j
  pub fills : Fills (low_of start.tree d i) (high_of start.tree d j) run
  pub fit : MayBeIn h run
  pub level : StandFor start.map below h (in_rows start.tree d i j run)
