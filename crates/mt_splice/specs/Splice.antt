-- What a replacement of nodes is asked for, and what it leaves.
-- Source: the kernel's lib/maple_tree.c, mas_wr_spanning_store, mas_split and mas_rebalance; that every such store is
-- published by one store of one word is this project's.
use Rattle.std.specs.Prelude.{◌≡◌, ◌≢◌, ◌⊎◌, ℕ, ◌+◌, ◌*◌, ◌<◌, ◌≤◌, ◌==◌, Bool, true, false, List, [], ◌∷◌, ◌++◌, All, Contains, length, map, if◌then◌else◌}
use Rattle.mt_splice.specs.Prelude.{Kind, Range, Call, Reply, reserved, over, acted, finds_room, columns, greatest, first_row, Item, Span, row_in, dead_mark, spans_from, Book, Live, Dead, Place, Root, Slot, Table, column, HasGapsBut, Levels, height_in, Tree, Stands, ParentLaw, longest_below, Rooted, Sheet, life_of, word_at, tree_as, IsToldKind, IsTreeOf, StandsAt, map_by, is_reached, IsReached, LiveAreReached, NoneBuried, with_record, root_of, edited, starting, PathStep, path_in, last_step, leaf_spans}
use Rattle.mt_splice.specs.Fewest.{FewestBelow}
use Rattle.mt_splice.specs.Kept.{IsBookOf, IsConsistent, IsUnpublished}

-- ---- the store

-- the call changes the map by the store of this entry over these indexes
pub record IsStoreBy (kind : Kind) (top : ℕ) (m : List Range) (call : Call) (reply : Reply) (first last entry : ℕ) : Type 0 where
  pub acts : acted kind m call ≡ (over m first last entry, reply)
  pub order : first ≤ last
  pub within : last ≤ top
  pub lawful : reserved entry ≡ false

-- what the leaves at the ends of two paths hold, one after the other; one hole in the empty tree
abbrev pub region_of : Table → List PathStep → List PathStep → List Span
region_of t [] right = record { first = 0; last = greatest t.width; word = 0 } ∷ []
region_of t (s ∷ left) right =
    let l = last_step (s ∷ left) in let r = last_step right in
    if l.row == r.row then leaf_spans t l else leaf_spans t l ++ starting (l.max + 1) (leaf_spans t r)

-- ---- before

-- A call of a tree of this kind is in flight and has published nothing. It changes the map by a store. The paths lead to the
-- store's ends, and the items are what the leaves there hold after it. For each level three nodes are free, and one more.
pub record MaySplice (kind : Kind) (s : Sheet) (book : Book) (left right : List PathStep) (items : List Item) (number : ℕ) (call : Call) (reply : Reply) : Type 0 where
  pub told : IsToldKind s.kind kind
  pub kept : IsConsistent kind s.tree s.lives s.buried s.cleared book number
  pub unpublished : IsUnpublished s.in_flight s.published s.ended number
  pub room : 3 * height_in s.tree.table s.tree.root + 1 ≤ length book.free
  pub first : ℕ
  pub last : ℕ
  pub entry : ℕ
  pub store : IsStoreBy kind (greatest s.tree.table.width) (map_by s.tree) call reply first last entry
  pub some : s.tree.root ≡ 0 → entry ≢ 0
  pub left_path : left ≡ path_in s.tree.table s.tree.root first
  pub right_path : right ≡ path_in s.tree.table s.tree.root last
  pub edits : spans_from (last_step left).min items ≡ edited (region_of s.tree.table left right) first last entry

-- A call is in flight that changes the map by a store whose leaves are still to be read.
pub record MayReplace (kind : Kind) (s : Sheet) (book : Book) (left : List PathStep) (first last entry : ℕ) (number : ℕ) (call : Call) (reply : Reply) : Type 0 where
  pub told : IsToldKind s.kind kind
  pub kept : IsConsistent kind s.tree s.lives s.buried s.cleared book number
  pub unpublished : IsUnpublished s.in_flight s.published s.ended number
  pub room : 3 * height_in s.tree.table s.tree.root + 1 ≤ length book.free
  pub store : IsStoreBy kind (greatest s.tree.table.width) (map_by s.tree) call reply first last entry
  pub some : s.tree.root ≡ 0 → entry ≢ 0
  pub left_path : left ≡ path_in s.tree.table s.tree.root first

-- what the emptying of a tree that is not empty is asked for: no node need be free
pub record MayClear (kind : Kind) (s : Sheet) (book : Book) (number : ℕ) (call : Call) (reply : Reply) : Type 0 where
  pub told : IsToldKind s.kind kind
  pub kept : IsConsistent kind s.tree s.lives s.buried s.cleared book number
  pub unpublished : IsUnpublished s.in_flight s.published s.ended number
  pub some : s.tree.root ≢ 0
  pub answer : acted kind (map_by s.tree) call ≡ ([], reply)

-- ---- after

-- each child's parent word names its parent and its slot, and the root's is 1
abbrev pub HasParents : Tree → Type 0
HasParents t = (t.root ≡ 0) ⊎ ((h : ℕ) × Stands t h × (column t.table (row_in t.root) 0 ≡ 1) × Levels (ParentLaw t) t.table h (root_of t))

-- a node that the tree does not reach
abbrev pub is_unreached : Rooted → ℕ → Bool
is_unreached t row = if is_reached t row then false else true

-- on each level of the tree, the new nodes are side by side and are the fewest that their items can be cut into
abbrev pub HasFewest : (ℕ → Bool) → Tree → Type 0
HasFewest is_new t = (t.root ≡ 0) ⊎ ((h : ℕ) × Stands t h × FewestBelow is_new t.gapped t.table h (root_of t))

-- the one store that published was at this place
abbrev pub WasPublishedAt : Sheet → Sheet → Place → Type 0
WasPublishedAt s s' Root = s'.tree.root ≢ s.tree.root
WasPublishedAt s s' (Slot row col) = (s'.tree.root ≡ s.tree.root) × (life_of s.lives row ≡ Live) × (life_of s'.lives row ≡ Live) × (word_at s'.tree row col ≢ word_at s.tree row col)

-- the word names a node of the tree, and in nodes with gaps this is the length of the longest hole below it
pub record TellsBelow (kind : Kind) (t : Rooted) (word gap : ℕ) : Type 0 where
  pub height : ℕ
  pub row : Span
  pub stands : StandsAt t height row
  pub named : row.word ≡ word
  pub longest : finds_room kind ≡ true → gap ≡ longest_below t.table height (row ∷ [])

-- that length for the node that is named at a place; above the root it is 0
abbrev pub TellsGapAt : Kind → Rooted → Place → ℕ → Type 0
TellsGapAt kind t Root gap = gap ≡ 0
TellsGapAt kind t (Slot row col) gap = TellsBelow kind t (word_at t row col) gap

-- at most this many nodes were taken; the nodes that are no longer reached were retired with the call's number
pub record IsBooked (s s' : Sheet) (book book' : Book) (number most : ℕ) : Type 0 where
  pub taken : List ℕ
  pub free : book.free ≡ book'.free ++ taken
  pub few : length taken ≤ most
  pub used : All (IsReached s'.tree) taken
  pub gone : List ℕ
  pub held : book'.held ≡ book.held ++ map (λ row. record { row = row; stamp = number }) gone
  pub were_reached : All (IsReached s.tree) gone
  pub are_not : All (λ row. is_reached s'.tree row ≡ false) gone
  pub all : (row : ℕ) → IsReached s.tree row → is_reached s'.tree row ≡ false → Contains gone row

-- The tree represents the map after the call, by one store at the place. Nodes that were not taken keep every word but their
-- parent words. The change is in the indexes from the first to the last: in nodes that were not taken, the gap words of the
-- slots that cover them may be wrong afterwards.
pub record IsSpliced (kind : Kind) (s s' : Sheet) (book book' : Book) (number : ℕ) (call : Call) (reply : Reply) (place : Place) (first last : ℕ) : Type 0 where
  pub rest : s' ≡ record s { tree = s'.tree; published = true; lives = s'.lives; buried = s'.buried; told = with_record s.told call reply; reads = s'.reads }
  pub rows : s'.tree.rows ≡ s.tree.rows
  pub tree : IsTreeOf s'.tree kind
  pub parents : HasParents (tree_as kind s'.tree)
  pub map : map_by s'.tree ≡ (acted kind (map_by s.tree) call).0
  pub fewest : HasFewest (is_unreached s.tree) (tree_as kind s'.tree)
  pub gaps : (index : ℕ) → first ≤ index → index ≤ last → HasGapsBut (is_unreached s.tree) index (tree_as kind s'.tree)
  pub published : WasPublishedAt s s' place
  pub kept : (row col : ℕ) → (IsReached s'.tree row → IsReached s.tree row) → 0 < col → col < columns s.tree.table.width → place ≢ Slot row col → word_at s'.tree row col ≡ word_at s.tree row col
  pub none_buried : NoneBuried s'.tree.rows s'.buried
  pub live : LiveAreReached s'.tree s'.lives
  pub dead : (row : ℕ) → IsReached s.tree row → is_reached s'.tree row ≡ false → life_of s'.lives row ≡ Dead number
  pub marked : (row : ℕ) → IsReached s.tree row → is_reached s'.tree row ≡ false → word_at s'.tree row 0 ≡ dead_mark row
  pub others : (row : ℕ) → first_row ≤ row → row < first_row + s.tree.rows → is_reached s.tree row ≡ false → is_reached s'.tree row ≡ false → life_of s'.lives row ≡ life_of s.lives row
  pub moved : IsBooked s s' book book' number (3 * height_in s.tree.table s.tree.root + 1)
  pub booked : IsBookOf s'.tree s'.lives s'.cleared book' (number + 1)
