-- Gap words set upwards: what a node gives the node above, and what is left alone.
-- Source: the kernel's lib/maple_tree.c, mas_parent_gap and mas_update_gap.
use Rattle.std.specs.Prelude.{◌≡◌, ◌⊎◌, ℕ, zero, suc, ◌+◌, ◌^◌, ◌<◌, ◌≤◌, Bool, false, List, [], ◌∷◌, length, max}
use Rattle.std.specs.List.{AllByRecursion}
use Rattle.mt_gap.specs.Prelude.{columns, greatest, RowKind, Leaf, Inner, Gapped, Span, gap_column, slots_of, longest_in, PathStep, step_at, path_in, leaf_in, leaf_spans, covers, HasGapsBut, Tree, Stands, GapLaw, Levels, tree_on, LiveAreReached, NoneBuried, root_of, Table, row_spans, Sheet, Rooted, IsPlace, MayTend, life_of, is_buried, word_at, with_word, Live}
use Rattle.mt_gap.specs.declared.children.Child.{Child}
use Rattle.mt_gap.specs.Children.{row_children}
use Rattle.mt_gap.specs.Slots.{gap_in}

abbrev pub longest_gap : List Child → ℕ
longest_gap [] = 0
longest_gap (x ∷ xs) = max x.gap (longest_gap xs)

-- the greatest of the first gap words of a node with gaps
abbrev pub most_gap : Table → ℕ → ℕ → ℕ
most_gap t row zero = 0
most_gap t row (suc n) = max (most_gap t row n) (gap_in t Gapped row n)

-- what a node of a kind gives the node above: its longest hole, or its greatest gap word
abbrev pub told_by : RowKind → Table → PathStep → ℕ
told_by Leaf t s = longest_in (row_spans t s.row Leaf s.min s.max)
told_by Inner t s = longest_gap (row_children t s.row Inner s.min s.max)
told_by Gapped t s = longest_gap (row_children t s.row Gapped s.min s.max)

-- the gap column of the slot that a path takes in one of its nodes, but its leaf
pub record IsGapOn (t : Rooted) (path : List PathStep) (row col : ℕ) : Type 0 where
  pub level : ℕ
  pub above : level + 1 < length path
  pub row_is : row ≡ (step_at path level).row
  pub col_is : col ≡ gap_column (slots_of t.table.width Gapped) (step_at path level).slot

-- every word is as before, except for these
abbrev pub KeepsWordsBut : Rooted → Rooted → List PathStep → Type 0
KeepsWordsBut t t' path = (row col : ℕ) → col < columns t.table.width → (word_at t' row col ≡ word_at t row col) ⊎ IsGapOn t path row col

-- nothing else has changed than words of nodes, and how many were loaded
abbrev pub OnlyWords : Sheet → Sheet → Type 0
OnlyWords s s' = s' ≡ record s { tree = record { rows = s.tree.rows; table = record { width = s.tree.table.width; words = s'.tree.table.words }; root = s.tree.root }; reads = s'.reads }

-- The path goes through the nodes of a way and takes its slots, except for its last node: there the way goes through this leaf,
-- and its slot does not matter.
pub record IsAlong (path : List PathStep) (leaf : ℕ) (way : List PathStep) : Type 0 where
  pub many : length path ≡ length way
  pub above : (level : ℕ) → level + 1 < length path → step_at path level ≡ step_at way level
  pub end : (level : ℕ) → level + 1 ≡ length path → record (step_at path level) { row = leaf; slot = 0 } ≡ record (step_at way level) { slot = 0 }

-- A way to this leaf on which gap words are mended. The law of gaps may fail only in the slots on the way to an index. The
-- nodes that are reached are live, and none is marked dead.
pub record IsWay (gapped : Bool) (s : Sheet) (path : List PathStep) (leaf : ℕ) : Type 0 where
  pub is_new : ℕ → Bool
  pub index : ℕ
  pub within : index ≤ greatest s.tree.table.width
  pub gaps : HasGapsBut is_new index (tree_on gapped s.tree)
  pub steps : IsAlong path leaf (path_in s.tree.table s.tree.root index)
  pub live : LiveAreReached s.tree s.lives
  pub none_buried : NoneBuried s.tree.rows s.buried

-- A way to this leaf on which gap words are mended, if the longest hole of that leaf is given.
pub record IsToldWay (gapped : Bool) (s : Sheet) (path : List PathStep) (gap : ℕ) : Type 0 where
  pub leaf : ℕ
  pub way : IsWay gapped s path leaf
  pub told : gap ≡ longest_in (leaf_spans s.tree.table (leaf_in s.tree way.index))

-- A node can give its longest hole. That of a leaf is a word. The greatest gap word of a node's slots is the greatest of all,
-- because those of unused slots are 0.
abbrev pub MayTell : RowKind → Table → PathStep → Type 0
MayTell Leaf t s = (longest_in (row_spans t s.row Leaf s.min s.max) < 2 ^ 64) × AllByRecursion (λ (x : Span). x.first ≤ x.last) (row_spans t s.row Leaf s.min s.max)
MayTell Inner t s = Unit {0}
MayTell Gapped t s = longest_gap (row_children t s.row Gapped s.min s.max) ≡ most_gap t s.row (slots_of t.width Gapped)

-- the gap word of the slot of a step may be tended, and the node below can give it
pub record MayMend (s : Sheet) (kind : RowKind) (above below : PathStep) : Type 0 where
  pub place : IsPlace s.tree below.row 0
  pub tells : MayTell kind s.tree.table below
  pub slot : above.slot < slots_of s.tree.table.width Gapped
  pub tend : (gap : ℕ) → MayTend s above.row (gap_column (slots_of s.tree.table.width Gapped) above.slot) gap

-- it is what the node below gives, and nothing else has changed
abbrev pub IsMended : Sheet → Sheet → RowKind → PathStep → PathStep → Type 0
IsMended s s' kind above below = s' ≡ record s { tree = with_word s.tree above.row (gap_column (slots_of s.tree.table.width Gapped) above.slot) (told_by kind s.tree.table below); reads = s'.reads }

-- ---- all slots of a path's nodes

-- a node that does not cover the index keeps the law of gaps
abbrev pub GapLawBeside : ℕ → Tree → ℕ → Span → Type 0
GapLawBeside index t h x = covers index x ≡ false → GapLaw t h x

-- so does each such node of the tree; the others are the nodes on the way to the index, and may break it in every slot
abbrev pub HasGapsBeside : ℕ → Tree → Type 0
HasGapsBeside index t = (t.root ≡ 0) ⊎ ((h : ℕ) × Stands t h × Levels (GapLawBeside index t) t.table h (root_of t))

-- the node of a step is live, and not buried
abbrev pub IsLiveRow : Sheet → PathStep → Type 0
IsLiveRow s step = (life_of s.lives step.row ≡ Live) × (is_buried s.buried step.row ≡ false)

-- A path of whose nodes all gap words may be wrong, but none of other nodes; its nodes are live, and none is buried.
pub record MayMendGaps (gapped : Bool) (s : Sheet) (path : List PathStep) : Type 0 where
  pub index : ℕ
  pub within : index ≤ greatest s.tree.table.width
  pub gaps : HasGapsBeside index (tree_on gapped s.tree)
  pub steps : path ≡ path_in s.tree.table s.tree.root index
  pub kept : AllByRecursion (IsLiveRow s) path

-- the gap column of a slot of one of a path's nodes, but its leaf
pub record IsGapIn (t : Rooted) (path : List PathStep) (row col : ℕ) : Type 0 where
  pub level : ℕ
  pub slot : ℕ
  pub above : level + 1 < length path
  pub within : slot < slots_of t.table.width Gapped
  pub row_is : row ≡ (step_at path level).row
  pub col_is : col ≡ gap_column (slots_of t.table.width Gapped) slot

-- every word is as before, except for these
abbrev pub KeepsOtherWords : Rooted → Rooted → List PathStep → Type 0
KeepsOtherWords t t' path = (row col : ℕ) → col < columns t.table.width → (word_at t' row col ≡ word_at t row col) ⊎ IsGapIn t path row col
