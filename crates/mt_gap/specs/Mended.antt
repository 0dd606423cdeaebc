-- How far the gap words of a path's nodes are mended: those of the nodes up to a height, and of the next node some from the
-- left.
-- Source: this project's own.
use Rattle.std.specs.Prelude.{◌≡◌, ◌≢◌, ◌⊎◌, ℕ, zero, suc, ◌+◌, ◌<◌, ◌≤◌, Bool, Some, true, false, List, [], ◌∷◌, length}
use Rattle.std.specs.List.{AllByRecursion}
use Rattle.mt_gap.specs.Prelude.{greatest, RowKind, Gapped, Span, gap_column, row_in, slots_of, PathStep, span_at, path_in, covers, Tree, Stands, longest_below, kind_on, Levels, SameSpans, tree_on, root_of, Sheet, column, spans_in, named_kind, Rooted, HasGaps, loaded}
use Rattle.mt_gap.specs.Mending.{IsToldWay, IsWay, KeepsWordsBut, MayMendGaps, OnlyWords, KeepsOtherWords, IsLiveRow}

-- the gap word of a slot is the longest hole below it; a leaf has no gap words
abbrev pub IsRight : Tree → ℕ → Span → ℕ → Type 0
IsRight t zero x slot = Unit {0}
IsRight t (suc h) x slot = column t.table (row_in x.word) (gap_column (slots_of t.table.width Gapped) slot) ≡ longest_below t.table h (span_at (spans_in t.table x) slot ∷ [])

-- in each slot of a node that is said to be so
abbrev pub AreRight : (ℕ → Span → ℕ → Type 0) → Tree → ℕ → Span → Type 0
AreRight done t h x = (slot : ℕ) → slot < length (spans_in t.table x) → done h x slot → IsRight t h x slot

-- The slot needed no mending, or is mended: in a node beside the way to the index, in a node up to a height, or in the node
-- above these among the first slots from the left.
abbrev pub IsMendedSlot : ℕ → ℕ → ℕ → ℕ → Span → ℕ → Type 0
IsMendedSlot index height slots h x slot = (covers index x ≡ false) ⊎ ((h ≤ height) ⊎ ((h ≡ suc height) × (slot < slots)))

-- In a tree of this height `done` levels lie below the one that is `left` from the root, whose nodes are of this kind.
pub record IsLevelLeft (before : Sheet) (kind : RowKind) (left index height done : ℕ) : Type 0 where
  pub within : index ≤ greatest before.tree.table.width
  pub low : 1 ≤ left
  pub levels_are : done + left ≡ height + 1
  pub kind_is : kind ≡ kind_on true done
  pub stood : Stands (tree_on true before.tree) height

-- A path leads to this index, and is dealt with up to that level. Since `before` only words of nodes have changed, and no node
-- holds other spans.
pub record IsAtLevel (before s : Sheet) (path : List PathStep) (kind : RowKind) (left index height done : ℕ) : Type 0 where
  pub level : IsLevelLeft before kind left index height done
  pub stands : Stands (tree_on true s.tree) height
  pub steps : path ≡ path_in s.tree.table s.tree.root index
  pub only : OnlyWords before s
  pub spans : Levels (λ (_ : ℕ) (x : Span). SameSpans before.tree.table s.tree.table x) before.tree.table height (root_of (tree_on true before.tree))

-- The nodes of a path are mended from its last up to the one at the level below `left`, which is of this kind, and so are this
-- many slots of the node above. Nothing else has changed since `before`.
pub record HasMendedRows (before s : Sheet) (path : List PathStep) (kind : RowKind) (left slots : ℕ) : Type 0 where
  pub index : ℕ
  pub height : ℕ
  pub done : ℕ
  pub at : IsAtLevel before s path kind left index height done
  pub right : Levels (AreRight (IsMendedSlot index done slots) (tree_on true s.tree)) s.tree.table height (root_of (tree_on true s.tree))
  pub words : KeepsOtherWords before.tree s.tree path
  pub kept : AllByRecursion (IsLiveRow before) path

-- Gap words were mended, and all are right where the mend may be made. All words are kept but those of the path that may change,
-- and each node holds what it held. In a tree without gaps the root word alone was loaded.
pub record MendsGaps (May : Bool → Type 0) (Kept : Rooted → Rooted → List PathStep → Type 0) (s s' : Sheet) (path : List PathStep) : Type 0 where
  pub gaps : (gapped : Bool) → May gapped → HasGaps (tree_on gapped s'.tree)
  pub rest : OnlyWords s s'
  pub words : Kept s.tree s'.tree path
  pub plain : named_kind s.tree.root ≢ Some Gapped → s' ≡ loaded s
  pub spans : (gapped : Bool) (h : ℕ) → Stands (tree_on gapped s.tree) h
      → Levels (λ (_ : ℕ) (x : Span). SameSpans s.tree.table s'.tree.table x) s.tree.table h (root_of (tree_on gapped s.tree))

-- on the way to a leaf, on the way of a path whose leaf is told the length of its longest hole, and in all nodes of a path
abbrev pub MendsWay : ℕ → Sheet → Sheet → List PathStep → Type 0
MendsWay leaf s s' path = MendsGaps (λ gapped. IsWay gapped s path leaf) KeepsWordsBut s s' path

abbrev pub MendsToldWay : ℕ → Sheet → Sheet → List PathStep → Type 0
MendsToldWay gap s s' path = MendsGaps (λ gapped. IsToldWay gapped s path gap) KeepsWordsBut s s' path

abbrev pub MendsPath : Sheet → Sheet → List PathStep → Type 0
MendsPath s s' path = MendsGaps (λ gapped. MayMendGaps gapped s path) KeepsOtherWords s s' path
