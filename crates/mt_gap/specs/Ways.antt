-- A search that goes into one node in each level: what it goes into below a node, and where it ends, with the way there.
-- Source: the kernel's lib/maple_tree.c, mas_empty_area and mas_empty_area_rev, which keep the place that their search reached.
use Rattle.std.specs.Prelude.{◌≡◌, ℕ, Bool, false, zero, suc, ◌+◌, ◌*◌, ◌<◌, ◌≤◌, ◌↔◌, ◌++◌, List, [], ◌∷◌, Option, Some, None, IsNone, IfSome, length, take, if◌then◌else◌, flat_map}
use Rattle.mt_gap.specs.Prelude.{Hole, holes_to, lowest_in, highest_in, greatest, Gapped, Leaf, Span, Table, named_kind, Fills, map_by, Rooted, root_span, spans_in, PathStep, handle_in, path_in, row_on, Sheet, OnlyReads, ReadsUpTo, columns, height_in, last_step, loads_at, loads_on}
use Rattle.mt_gap.specs.declared.children.Child.{Child}
use Rattle.mt_gap.specs.declared.searches.SoughtArea.{SoughtArea}
use Rattle.mt_gap.specs.declared.ways.Below.{Below}
use Rattle.mt_gap.specs.declared.ways.Below.TheVariants as below
use Rattle.mt_gap.specs.declared.ways.Side.{Side}
use Rattle.mt_gap.specs.declared.ways.Side.TheVariants as side
use Rattle.mt_gap.specs.declared.ways.End.{End}
use Rattle.mt_gap.specs.declared.ways.End.TheVariants as end
use Rattle.mt_gap.specs.declared.windows.Window.{Window}
use Rattle.mt_gap.specs.Below.{child_hole}
use Rattle.mt_gap.specs.Children.{children_in}
use Rattle.mt_gap.specs.Descents.{MayLoad, picked, place_in}
use Rattle.mt_gap.specs.Narrow.{has_sure, may_have, inside, narrow, narrow_up}

-- what is gone into, with one more
abbrev pub into_one_more : ℕ → Span → Below → Below
into_one_more slot x below.Nothing = below.One slot x
into_one_more slot x (below.One s y) = below.More
into_one_more slot x below.More = below.More

-- what is below with one more child, if it may have room
abbrev pub with_room : Window → ℕ → Child → Below → Below
with_room w slot x b = if may_have w.size w.lo w.hi x then into_one_more slot x.span b else b

-- from the right: one that lies in the window replaces all before it
abbrev pub with_room_up : Window → ℕ → Child → Below → Below
with_room_up w slot x b = if may_have w.size w.lo w.hi x then (if inside w.lo w.hi x then below.One slot x.span else into_one_more slot x.span b) else b

-- A child that is sure to have room ends a search for the lowest place, and stands for all before it in one for the highest.
abbrev pub ends_where : Side → Bool → Bool
ends_where side.Low sure = sure
ends_where side.High sure = false

abbrev pub forgets_where : Side → Bool → Bool
forgets_where side.Low sure = false
forgets_where side.High sure = sure

-- for the lowest place, and for the highest
abbrev pub with_child : Side → Window → ℕ → Child → Below → Below
with_child side.Low w slot x b = with_room w slot x b
with_child side.High w slot x b = with_room_up w slot x b

-- the search ends with this child
abbrev pub ends_with : Side → Window → Child → Bool
ends_with side w x = ends_where side (has_sure w.size w.lo w.hi (x ∷ []))

-- this slot holds the child
pub record StandsInSlot (xs : List Child) (slot : ℕ) (x : Child) : Type 0 where
  pub front : List Child
  pub back : List Child
  pub parts : xs ≡ front ++ (x ∷ back)
  pub count : length front ≡ slot

-- the one child that is asked
pub record IsOne (xs asked : List Child) (slot : ℕ) (span : Span) : Type 0 where
  pub child : Child
  pub alone : asked ≡ child ∷ []
  pub is : child.span ≡ span
  pub stands : StandsInSlot xs slot child

-- of these children, those that are asked are none, one, or more
abbrev pub AreAsked : List Child → List Child → Below → Type 0
AreAsked xs asked below.Nothing = asked ≡ []
AreAsked xs asked (below.One slot span) = IsOne xs asked slot span
AreAsked xs asked below.More = 2 ≤ length asked

-- which of a node's children are asked, for the lowest place and for the highest
abbrev pub asked_for : Side → Window → List Child → List Child
asked_for side.Low w xs = narrow w.size w.lo w.hi xs
asked_for side.High w xs = narrow_up w.size w.lo w.hi [] xs

-- those that are asked with these, which were asked before
abbrev pub asked_from : Side → Window → List Child → List Child → List Child
asked_from side.Low w before xs = before ++ narrow w.size w.lo w.hi xs
asked_from side.High w before xs = narrow_up w.size w.lo w.hi before xs

-- There is room for them, whenever one of them is taken.
abbrev pub HasRoomFor : Side → Window → List Child → List Child → Type 0
HasRoomFor side.Low w before xs = length before + length (narrow w.size w.lo w.hi xs) ≤ 3
HasRoomFor side.High w before xs = (k : ℕ) → length (narrow_up w.size w.lo w.hi before (take k xs)) ≤ 3

-- which of the holes that have room is picked, and where in it
abbrev pub pick_for : Side → Window → List Hole → Option ℕ
pick_for side.Low w = lowest_in
pick_for side.High w = highest_in w.size

-- the place that is sought in a tree
abbrev pub sought_in : Side → Window → Rooted → Option ℕ
sought_in side w t = place_in (pick_for side w) w t

-- the place that the map gives
abbrev pub sought_to : Side → Window → Rooted → Option ℕ
sought_to side w t = picked (pick_for side w) w (holes_to (greatest t.table.width) (map_by t))

-- what a search goes into below a node with these children
abbrev pub IsSearchedBelow : Side → Window → List Child → Below → Type 0
IsSearchedBelow side w xs b = AreAsked xs (asked_for side w xs) b

-- The way to each index of a node goes by these steps and enters the node then.
pub record IsWayTo (t : Rooted) (path : List PathStep) (x : Span) : Type 0 where
  pub within : x.last ≤ greatest t.table.width
  pub front : (index : ℕ) → x.first ≤ index → index ≤ x.last → path ≡ take (length path) (path_in t.table t.root index)
  pub low : (index : ℕ) → x.first ≤ index → index ≤ x.last → length path < length (path_in t.table t.root index)
  pub enters : (index : ℕ) → x.first ≤ index → index ≤ x.last → row_on t.table (length path) (root_span t.table t.root) index ≡ x

-- the leaf that has the place, if there is one, and the way there
pub record EndsInLeaf (side : Side) (t : Rooted) (w : Window) (path : List PathStep) (leaf : Span) : Type 0 where
  pub leads : IsWayTo t path leaf
  pub is_leaf : named_kind leaf.word ≡ Some Leaf
  pub row : MayLoad t leaf
  pub fills : Fills leaf.first (leaf.last + 1) (spans_in t.table leaf)
  pub found : picked (pick_for side w) w (flat_map child_hole (children_in t.table leaf)) ≡ sought_in side w t

abbrev pub EndsIn : Side → Rooted → Window → List PathStep → End → Type 0
EndsIn side t w path end.Nowhere = sought_in side w t ≡ None
EndsIn side t w path (end.Leaf leaf) = EndsInLeaf side t w path leaf
EndsIn side t w path end.Branch = Unit {0}

-- the path leads to where the area starts, and this is there
pub record IsAreaAt (t : Rooted) (path : List PathStep) (area : SoughtArea) : Type 0 where
  pub way : path ≡ path_in t.table t.root area.start
  pub none : IsNone area.here ↔ (t.root ≡ 0)
  pub some : IfSome area.here (λ handle. handle ≡ handle_in t area.start)

-- ---- a search that goes into one node of each level

-- So many levels above a leaf, one child alone is asked, and so below that one.
abbrev pub GoesOneWay : Side → Window → Table → ℕ → Span → Type 0
GoesOneWay side w t zero x = named_kind x.word ≡ Some Leaf
GoesOneWay side w t (suc d) x = (named_kind x.word ≡ Some Gapped) × ((child : Child) × (asked_for side w (children_in t x) ≡ child ∷ []) × GoesOneWay side w t d child.span)

-- from the root down to a leaf
abbrev pub IsOneWay : Side → Window → Rooted → Type 0
IsOneWay side w t = (levels : ℕ) × GoesOneWay side w t.table levels (root_span t.table t.root)

-- What a search leaves that gives a place and the way there, or finds none. It only reads. It loads at most as many words as two
-- searches, and those of a walk to the place; on one way it loads the words of that way, and in the leaf a second search.
pub record HasFoundWay (side : Side) (w : Window) (s s' : Sheet) (path : List PathStep) (area : Option SoughtArea) (old new : ℕ) : Type 0 where
  pub way : IfSome area (λ x. IsAreaAt s.tree path x)
  pub rest : OnlyReads s s'
  pub reads : IsNone area → ReadsUpTo (2 * (3 * height_in s.tree.table s.tree.root * columns s.tree.table.width + 1)) s s'
  pub found : IfSome area (λ _. ReadsUpTo (2 * (3 * height_in s.tree.table s.tree.root * columns s.tree.table.width + 1) + loads_on path) s s')
  pub one : IsOneWay side w s.tree → IfSome area (λ _. ReadsUpTo (height_in s.tree.table s.tree.root * columns s.tree.table.width + loads_at (last_step path) + 2) s s')
  pub steps : new ≤ old + 3 * height_in s.tree.table s.tree.root

abbrev pub IsLeafEnd : End → Type 0
IsLeafEnd end.Nowhere = ⊥
IsLeafEnd (end.Leaf leaf) = Unit {0}
IsLeafEnd end.Branch = ⊥
