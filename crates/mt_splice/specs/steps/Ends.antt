-- What is known when all new nodes are written and all old nodes are buried, and what a store that publishes them is followed
-- by.
-- Source: this project's own; the kernel's lib/maple_tree.c, mas_wmb_replace and mas_adopt_children, which set the parents
-- of children that have moved.
use Rattle.std.specs.Prelude.{◌≡◌, ◌≢◌, ℕ, suc, ◌+◌, ◌-◌, ◌*◌, ◌<◌, ◌≤◌, true, List, Option, Some, None, length, slice_get}
use Rattle.mt_splice.specs.Prelude.{Call, Reply, acted, columns, RowKind, Span, row_in, parent_at, slot_column, Book, Place, Root, Slot, column, is_row_of, height_in, Tree, kind_on, Sheet, MayTend, tended, tree_as, map_by, with_published, IsSlotAt, slots_of}
use Rattle.mt_splice.specs.declared.climbing.Top.{Top}
use Rattle.mt_splice.specs.declared.writes.NewRow.{NewRow}
use Rattle.mt_splice.specs.steps.Seen.{Seen, passing, was_seen}
use Rattle.mt_splice.specs.steps.Starts.{Start, with_words, now}
use Rattle.mt_splice.specs.steps.Replaced.{IsReplaced, StandsAs}
use Rattle.mt_splice.specs.steps.Told.{GapsBeside}
use Rattle.mt_splice.specs.steps.Writes.{child_row, AreChildren}
use Rattle.mt_splice.specs.steps.Ledgers.{Before, IsInFlight, IsLedger, new_rows_of}

-- ---- the end

-- the column is that of an item of an inner row, which stands so many levels below the root
pub record IsChildSlot (t : Tree) (height row col : ℕ) : Type 0 where
  pub depth : ℕ
  pub low : ℕ
  pub slot : ℕ
  pub at : Span
  pub child : Span
  pub levels : height ≡ depth + suc low
  pub here : IsSlotAt t depth at slot child
  pub number : row_in at.word ≡ row
  pub column : col ≡ slot_column (slots_of t.table.width (kind_on t.gapped (suc low))) slot

-- the root word, or a slot of a row that is not gone
abbrev pub IsEndPlace : Tree → List Seen → Option ℕ → Place → Type 0
IsEndPlace t gone old Root = Unit {0}
IsEndPlace t gone None (Slot row col) = ⊥
IsEndPlace t gone (Some h) (Slot row col) = IsChildSlot t h row col × (passing (is_row_of row) gone ≡ 0)

-- the word to be published names a row that was taken, or is 0 where nothing is left of a tree
abbrev pub IsTop : List Seen → Option ℕ → Option ℕ → ℕ → Type 0
IsTop taken old (Some h) word = was_seen taken (row_in word) ≡ true
IsTop taken (Some h) None word = word ≡ 0
IsTop taken None None word = ⊥

-- All new rows are written and all old rows are buried; one word is still to be stored, and then the children of the new
-- inner rows are to be tended, and the row that the word names.
pub record IsReadyToPublish (b : Before) (start : Start) (s : Sheet) (book : Book) (inner : List NewRow) (top : Top) (call : Call) (reply : Reply) : Type 0 where
  pub taken : List Seen
  pub gone : List Seen
  -- the heights of the two trees
  pub old : Option ℕ
  pub new : Option ℕ
  pub case : IsInFlight b start
  pub ledger : IsLedger b s book taken gone
  pub few : length taken ≤ 3 * height_in b.sheet.tree.table b.sheet.tree.root + 1
  pub answer : acted b.kind (map_by b.sheet.tree) call ≡ (start.map, reply)
  pub stood : StandsAs start.tree old
  pub replaced : IsReplaced start.tree (tree_as b.kind (with_published s.tree top.place top.word)) start.map taken gone old new
  pub gaps : GapsBeside start (was_seen taken) (tree_as b.kind (with_published s.tree top.place top.word)) new
  pub at : IsEndPlace (now start s) gone old top.place
  pub names : IsTop taken old new top.word
  pub row : top.row ≡ row_in top.word
  pub inner_rows : inner ≡ new_rows_of s.tree.table taken

-- ---- parent words

-- nothing but parent words and the number of loads has changed
pub record OnlyParents (s s' : Sheet) : Type 0 where
  pub rest : record s' { tree = s.tree; reads = s.reads } ≡ s
  pub tree : s'.tree ≡ with_words s.tree s'.tree.table.words
  pub size : length s'.tree.table.words ≡ length s.tree.table.words
  pub kept : (r c : ℕ) → 0 < c → c < columns s.tree.table.width → column s'.tree.table r c ≡ column s.tree.table r c

-- Of inner rows whose children are all other rows, the children of the first ones name row and slot; those of the others may be
-- tended, and nothing else has changed.
pub record AreTendedTo (s s' : Sheet) (kind : RowKind) (new_inner_rows : List NewRow) (done : ℕ) : Type 0 where
  pub each : (i : ℕ) (n : NewRow) → slice_get new_inner_rows i ≡ Some n → AreChildren s kind n.row n.count
  pub apart : (i j : ℕ) (n m : NewRow) (slot slot' : ℕ) → i < j → slice_get new_inner_rows i ≡ Some n → slice_get new_inner_rows j ≡ Some m → slot < n.count → slot' < m.count
      → child_row s.tree.table kind n.row slot ≢ child_row s.tree.table kind m.row slot'
  pub only : OnlyParents s s'
  pub children : (i : ℕ) (n : NewRow) (slot : ℕ) → i < done → slice_get new_inner_rows i ≡ Some n → slot < n.count → column s'.tree.table (child_row s.tree.table kind n.row slot) 0 ≡ parent_at n.row slot
  pub others : (r : ℕ) → ((i : ℕ) (n : NewRow) (slot : ℕ) → i < done → slice_get new_inner_rows i ≡ Some n → slot < n.count → child_row s.tree.table kind n.row slot ≢ r) → column s'.tree.table r 0 ≡ column s.tree.table r 0

-- the row that was published in a slot of a row of this kind may be told row and slot
abbrev pub MayTendTop : Sheet → RowKind → Place → ℕ → Type 0
MayTendTop s kind Root top = Unit {0}
MayTendTop s kind (Slot row col) top = (slots_of s.tree.table.width kind ≤ col) × MayTend s top 0 (parent_at row (col - slots_of s.tree.table.width kind))

-- the sheet when it is
abbrev pub with_top : Sheet → RowKind → Place → ℕ → Sheet
with_top s kind Root top = s
with_top s kind (Slot row col) top = tended s top 0 (parent_at row (col - slots_of s.tree.table.width kind))
