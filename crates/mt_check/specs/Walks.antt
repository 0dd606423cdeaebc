-- A walk through a tree: what it knows when it reaches a node, and what it returns.
-- Source: this project's own.
use Rattle.std.specs.Prelude.{◌≡◌, ℕ, ◌+◌, ◌-◌, List, [], Option, Some, None, Result, Ok, Err, length, unwrap_or, slice_get}
use Rattle.mt_check.specs.Prelude.{finds_room, deepest, RowKind, Leaf, Inner, Gapped, Item, Span, row_in, named_kind, ranges_of, rows_of, height_of, height_in, Tree, items_in, Rooted}
use Rattle.mt_check.specs.declared.faults.Fault.{Fault}
use Rattle.mt_check.specs.declared.walks.Walk.{Walk}
use Rattle.mt_check.specs.declared.walks.Visit.{Visit}
use Rattle.mt_check.specs.declared.walks.Row.{Row}
use Rattle.mt_check.specs.declared.walks.Below.{Below}
use Rattle.mt_check.specs.RowTests.{depth_at, longest_at}
use Rattle.mt_check.specs.Check.{Way, own_faults, faults_at}

-- the tree that is walked
abbrev pub tree_from : Walk → Rooted → Tree
tree_from walk t = record { rows = t.rows; gapped = finds_room walk.kind; table = t.table; root = walk.root }

abbrev pub way_of : Visit → Way
way_of visit = record { from = visit.from; parent = visit.parent }

abbrev pub height_from : Tree → ℕ
height_from t = height_in t.table t.root

-- ---- the depth of the first leaf

-- The first leaf has the depth that is known; where none is known, the walk has gone down along first children, and those
-- from here on lead to it.
abbrev pub LeadsToDepth : ℕ → ℕ → Option ℕ → Type 0
LeadsToDepth height here None = height ≡ here
LeadsToDepth height here (Some depth) = depth ≡ height

-- how deep first children lead from a node on
abbrev pub depth_from : Tree → ℕ → Span → ℕ
depth_from t left x = deepest - left + height_of t.table left x

-- what is known once a node of this kind was entered
abbrev pub depth_known : Option ℕ → ℕ → RowKind → Option ℕ
depth_known known left Leaf = Some (unwrap_or known (depth_at left))
depth_known known left Inner = known
depth_known known left Gapped = known

-- ---- nodes

abbrev pub no_item : Item
no_item = record { last = 0; word = 0; gap = 0 }

-- the node keeps all laws that its own words can break
pub record IsEntered (t : Tree) (visit : Visit) (row : Row) : Type 0 where
  pub named : named_kind visit.span.word ≡ Some row.kind
  pub number : row.number ≡ row_in visit.span.word
  pub items : row.items.items ≡ items_in t.table row.kind visit.span
  pub kept : own_faults t visit.left (way_of visit) visit.span ≡ []

-- what is below a node, itself counted
abbrev pub below_at : Tree → ℕ → Span → Below
below_at t left x = record { rows = length (rows_of t.table left x); ranges = length (ranges_of t.table left x); longest = longest_at t.table left x }

-- the first fault, or, if there is none, what is below the node
abbrev pub IsFaultOrBelow : List Fault → Below → Result Below Fault → Type 0
IsFaultOrBelow faults below (Ok found) = (faults ≡ []) × (found ≡ below)
IsFaultOrBelow faults below (Err fault) = slice_get faults 0 ≡ Some fault

abbrev pub IsAnswerAt : Tree → Visit → Result Below Fault → Type 0
IsAnswerAt t visit result = IsFaultOrBelow (faults_at t visit.left (way_of visit) visit.span) (below_at t visit.left visit.span) result
