-- The nodes of a level drafted one after the other: what is done to the nodes and to the book, and what they are one level up.
-- Source: the kernel's lib/maple_tree.c, mab_mas_cp, which writes a big node's items into one, two or three nodes.
use Rattle.std.specs.Prelude.{◌≡◌, ℕ, ◌+◌, ◌-◌, ◌≤◌, List, [], ◌∷◌, ◌++◌, All, length}
use Rattle.mt_splice.specs.Prelude.{Book, IsRowOf, Item, RowKind, Leaf, Inner, Gapped, spans_from, Tree, kind_on, top_of, Sheet, IsFree, life_of}
use Rattle.mt_splice.specs.declared.drafting.Head.{Head}
use Rattle.mt_splice.specs.declared.writes.NewRow.{NewRow}
use Rattle.mt_splice.specs.Fewest.{IsCutOf}
use Rattle.mt_splice.specs.steps.Layers.{part_of, head, heads}
use Rattle.mt_splice.specs.steps.Runs.{MayBeCut}
use Rattle.mt_splice.specs.steps.Writes.{IsRowDrafted}

-- ---- one node

-- a node was taken from the book, and drafted with these items
pub record IsRowTaken (s s' : Sheet) (book book' : Book) (kind : RowKind) (items : List Item) (row : ℕ) : Type 0 where
  pub number : IsRowOf book row
  pub taken : book ≡ record book' { free = book'.free ++ row ∷ [] }
  pub drafted : IsRowDrafted s s' row kind items

-- an inner node is noted, with the number of its children
abbrev pub noted_row : RowKind → ℕ → ℕ → List NewRow
noted_row Leaf row count = []
noted_row Inner row count = record { row = row; count = count } ∷ []
noted_row Gapped row count = record { row = row; count = count } ∷ []

-- The row, and the item that it is one level up, in a row of the kind `above`; its first item begins at `first`.
pub record IsPieceDrafted (s s' : Sheet) (book book' : Book) (above kind : RowKind) (first : ℕ) (items : List Item) (made made' : List NewRow) (new : Head) : Type 0 where
  pub taken : IsRowTaken s s' book book' kind items new.row
  pub up : new.item ≡ head above kind first items new.row
  pub noted : made' ≡ made ++ noted_row kind new.row (length items)

-- ---- the nodes of a level

-- the parts of items that end at these places, from `from` on, were drafted one after the other in these nodes
abbrev pub AreRowsTaken : RowKind → List Item → ℕ → List ℕ → List ℕ → Sheet → Sheet → Book → Book → Type 0
AreRowsTaken kind items from [] [] s s' book book' = (s' ≡ s) × (book' ≡ book)
AreRowsTaken kind items from [] (row ∷ rows) s s' book book' = ⊥
AreRowsTaken kind items from (to ∷ ends) [] s s' book book' = ⊥
AreRowsTaken kind items from (to ∷ ends) (row ∷ rows) s s' book book' =
    (s₁ : Sheet) × (book₁ : Book) × IsRowTaken s s₁ book book₁ kind (part_of items from to) row × AreRowsTaken kind items to ends rows s₁ s' book₁ book'

abbrev pub noted_rows : RowKind → ℕ → List ℕ → List ℕ → List NewRow
noted_rows kind from [] rows = []
noted_rows kind from (to ∷ ends) [] = []
noted_rows kind from (to ∷ ends) (row ∷ rows) = noted_row kind row (to - from) ++ noted_rows kind to ends rows

-- the items can be in nodes of this kind that end at these places, and this many nodes are free
pub record MayDraftRows (s : Sheet) (book : Book) (kind : RowKind) (first : ℕ) (items : List Item) (ends : List ℕ) : Type 0 where
  pub tree : Tree
  pub height : ℕ
  pub hi : ℕ
  pub width : s.tree.table.width ≡ tree.table.width
  pub of_kind : kind ≡ kind_on tree.gapped height
  pub within : hi ≤ top_of tree + 1
  pub run : MayBeCut tree height first hi (spans_from first items)
  pub cut : IsCutOf tree.table.width kind items ends
  pub few : length ends ≤ 3
  pub free : length ends ≤ length book.free
  pub rows : book.rows ≡ s.tree.rows
  pub spare : All (λ row. IsFree s.cleared (life_of s.lives row)) book.free

-- they were drafted in these rows, which are these items one level up
pub record AreRowsDrafted (s s' : Sheet) (book book' : Book) (above kind : RowKind) (first : ℕ) (items : List Item) (ends : List ℕ) (made made' : List NewRow) (rows : List ℕ) (new : List Item) : Type 0 where
  pub many : length rows ≡ length ends
  pub taken : AreRowsTaken kind items 0 ends rows s s' book book'
  pub up : new ≡ heads above kind first items 0 ends rows
  pub noted : made' ≡ made ++ noted_rows kind 0 ends rows
