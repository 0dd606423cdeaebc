-- What a climb has drafted. For each level from the leaves up: the window whose nodes are replaced, what will be in its place,
-- and the nodes that hold that. The top layer is the first of the list, and a layer's height is the number of those after it.
-- Source: the kernel's lib/maple_tree.c, mas_spanning_rebalance, which builds a subtree level by level.
use Rattle.std.specs.Prelude.{◌≡◌, ℕ, zero, suc, ◌-◌, ◌≤◌, Bool, List, [], ◌∷◌, ◌++◌, length, map}
use Rattle.mt_splice.specs.Prelude.{Item, Span, spans_from, inner_of, kind_on, step_in}
use Rattle.mt_splice.specs.declared.ways.Window.{Window}
use Rattle.mt_splice.specs.Fewest.{IsCutOf}
use Rattle.mt_splice.specs.steps.Layers.{AreHeld, heads}
use Rattle.mt_splice.specs.steps.Runs.{MayBeCut}
use Rattle.mt_splice.specs.steps.Seen.{Seen}
use Rattle.mt_splice.specs.steps.Windows.{between, row_at, low_of, high_of, in_place, Gathered}
use Rattle.mt_splice.specs.steps.Starts.{Start, tree_with, rows_at}

-- the items of the nodes from the one that holds `from` to the one that holds `to`, cut at these places into nodes of these
-- numbers
pub record Layer : Type 0 where
  pub from : ℕ
  pub to : ℕ
  pub items : List Item
  pub ends : List ℕ
  pub rows : List ℕ

-- the depth of a height, and where a layer of that height begins
abbrev pub depth_at : Start → ℕ → ℕ
depth_at start h = start.height - h

abbrev pub begin_at : Start → ℕ → Layer → ℕ
begin_at start h l = low_of start.tree (depth_at start h) l.from

-- the new nodes of a layer, as items one level up and by their spans, and the old nodes of its window
abbrev pub heads_at : Start → ℕ → Layer → List Item
heads_at start h l = heads (inner_of start.tree.gapped) (kind_on start.tree.gapped h) (begin_at start h l) l.items 0 l.ends l.rows

abbrev pub new_at : Start → ℕ → Layer → List Span
new_at start h l = spans_from (begin_at start h l) (heads_at start h l)

abbrev pub old_at : Start → ℕ → Layer → List Span
old_at start h l = between l.from l.to (rows_at start.tree (depth_at start h))

-- the level of the top layer, with its new nodes
abbrev pub level_of : Start → List Layer → List Span
level_of start [] = []
level_of start (l ∷ lower) = in_place start.tree (depth_at start (length lower)) l.from l.to (new_at start (length lower) l)

pub record IsLayer (start : Start) (below : List Span) (h : ℕ) (l : Layer) : Type 0 where
  pub low : h ≤ start.height
  pub gathered : Gathered start below l.from l.to (depth_at start h) h (spans_from (begin_at start h l) l.items)
  pub cut : MayBeCut start.tree h (begin_at start h l) (high_of start.tree (depth_at start h) l.to) (spans_from (begin_at start h l) l.items)
  pub fewest : IsCutOf start.tree.table.width (kind_on start.tree.gapped h) l.items l.ends
  pub few : length l.ends ≤ 3
  pub many : length l.rows ≡ length l.ends

abbrev pub IsPlanned : Start → List Layer → Type 0
IsPlanned start [] = Unit {0}
IsPlanned start (l ∷ lower) = IsLayer start (level_of start lower) (length lower) l × IsPlanned start lower

-- the nodes of each layer hold their parts of its items
abbrev pub AreAllHeld : Start → List ℕ → (ℕ → Bool) → List Layer → Type 0
AreAllHeld start words is_new [] = Unit {0}
AreAllHeld start words is_new (l ∷ lower) = AreHeld (tree_with start.tree words) is_new (kind_on start.tree.gapped (length lower)) l.items 0 l.ends l.rows × AreAllHeld start words is_new lower

-- the nodes of all layers, the newest first, and those of all windows, from the leaves up
abbrev pub seen_at : ℕ → List Span → List Seen
seen_at h xs = map (λ (x : Span). record { height = h; at = x }) xs

abbrev pub newest_first : ℕ → List Span → List Seen
newest_first h [] = []
newest_first h (x ∷ xs) = newest_first h xs ++ record { height = h; at = x } ∷ []

abbrev pub taken_by : Start → List Layer → List Seen
taken_by start [] = []
taken_by start (l ∷ lower) = newest_first (length lower) (new_at start (length lower) l) ++ taken_by start lower

abbrev pub gone_by : Start → List Layer → List Seen
gone_by start [] = []
gone_by start (l ∷ lower) = gone_by start lower ++ seen_at (length lower) (old_at start (length lower) l)

-- the windows as the code keeps them, from the leaves up
abbrev pub window_at : Start → ℕ → ℕ → ℕ → Window
window_at start depth from to = record { first = step_in start.tree.table (row_at start.tree depth from) from; last = step_in start.tree.table (row_at start.tree depth to) to }

abbrev pub windows_by : Start → List Layer → List Window
windows_by start [] = []
windows_by start (l ∷ lower) = windows_by start lower ++ window_at start (depth_at start (length lower)) l.from l.to ∷ []

abbrev pub windows_above : Start → ℕ → ℕ → ℕ → List Window
windows_above start from to zero = []
windows_above start from to (suc depth) = window_at start depth from to ∷ windows_above start from to depth
