-- How far a search has come: the nodes of a level that it goes into, what is found below them, and what they cost.
-- Source: this project's own.
use Rattle.std.specs.Prelude.{◌≡◌, ℕ, ◌+◌, ◌*◌, ◌≤◌, true, All, List, [], ◌∷◌, Option, Some, length, flat_map}
use Rattle.mt_gap.specs.Prelude.{Kind, finds_room, Hole, kept, holes_to, columns, greatest, RowKind, Leaf, Span, row_in, named_kind, IsLawfulOf, map_by, Sheet, Rooted, IsPlace, ReadsUpTo, height_in}
use Rattle.mt_gap.specs.declared.children.Child.{Child}
use Rattle.mt_gap.specs.declared.windows.Window.{Window}
use Rattle.mt_gap.specs.Below.{child_hole}
use Rattle.mt_gap.specs.Children.{children_below}

-- a tree whose holes are searched, and which keeps all laws
pub record IsGapped (t : Rooted) : Type 0 where
  pub kind : Kind
  pub room : finds_room kind ≡ true
  pub lawful : IsLawfulOf t kind

-- what the span names, if it is a node, is a node of the table
abbrev pub MayLoad : Rooted → Span → Type 0
MayLoad t x = (kind : RowKind) → named_kind x.word ≡ Some kind → IsPlace t (row_in x.word) 0

-- What a search picks of the holes below some nodes: those that have room in its window.
abbrev pub picked : (List Hole → Option ℕ) → Window → List Hole → Option ℕ
picked pick w xs = pick (kept w.size w.lo w.hi xs)

-- where a search that picks so finds room in a tree
unfoldable pub place_in : (List Hole → Option ℕ) → Window → Rooted → Option ℕ
place_in pick w t = picked pick w (holes_to (greatest t.table.width) (map_by t))

-- So many nodes were loaded at most: each is a step, and its words are loaded once at most.
pub record LoadedUpTo (most : ℕ) (s s' : Sheet) (old new : ℕ) : Type 0 where
  pub count : ℕ
  pub few : count ≤ most
  pub steps : new ≡ old + count
  pub reads : ReadsUpTo (columns s.tree.table.width * count) s s'

-- How many nodes were loaded before these, so too.
pub record Visited (s s' : Sheet) (old new level : ℕ) (asked : List Child) : Type 0 where
  pub count : ℕ
  pub few : count + length asked ≤ 2 * level + 1
  pub steps : new ≡ old + count
  pub reads : ReadsUpTo (columns s.tree.table.width * count) s s'

-- the leaves that a search reaches, and the answer that is found in them
pub record Arrives (s s' : Sheet) (pick : List Hole → Option ℕ) (w : Window) (answer : Option ℕ) (old new : ℕ) (leaves : List Child) : Type 0 where
  pub rows : All (λ (x : Child). MayLoad s.tree x.span) leaves
  pub found : picked pick w (flat_map child_hole (children_below s.tree.table leaves)) ≡ answer
  pub level : ℕ
  pub height : level + 1 ≤ height_in s.tree.table s.tree.root
  pub visited : Visited s s' old new level leaves

-- the nodes asked are leaves, or there are none
abbrev pub AreLeaves : List Child → Type 0
AreLeaves [] = Unit {0}
AreLeaves (x ∷ xs) = named_kind x.span.word ≡ Some Leaf
