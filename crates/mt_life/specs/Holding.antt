-- A node that a section holds (retired or live): what a pass (handle) knows of it, and when that is true.
-- Source: this project's own; the kernel's readers hold nodes by RCU.
use Rattle.std.specs.Prelude.{◌≡◌, ℕ, ◌+◌, ◌<◌, ◌≤◌, Option, Some, None}
use Rattle.mt_life.specs.Prelude.{columns, Kind, row_in, named_kind, kind_at, life_of, Table, column, Life, New, Draft, Live, Dead}
use Rattle.mt_life.specs.declared.views.Extent.{Extent}
use Rattle.mt_life.specs.declared.views.Held.{Held}
use Rattle.mt_life.specs.declared.views.Moment.{Moment}
use Rattle.mt_life.specs.Known.{State, calls, Alive, Later, HasRow, HasPart, Shape, SameForm}

-- the table as it was when the node's name was loaded, or since then a slot of it where it is a leaf
abbrev pub copy_of : Held → Table
copy_of x = record { width = x.width; words = x.copy }

-- A leaf of the node's width and form had what the map had at the moment.
pub record Snapshot (kind : Kind) (x : Held) (m : Moment) : Type 0 where
  pub table : Table
  pub width : table.width ≡ x.width
  pub form : SameForm (copy_of x) table (kind_at kind x.extent.level) x.row
  pub part : HasPart kind table x.row x.extent m

-- What is known of a node that is held. It was not dead when the root was loaded from which it was reached. It is where it was,
-- with its pivots and its empty slots unchanged.
pub record HoldsRow (kind : Kind) (s : State) (extents : ℕ → Extent) (moments : ℕ → Moment) (x : Held) : Type 0 where
  pub has : HasRow s.tree.rows x.row
  pub life : Later (x.since + 1) (life_of s.lives x.row)
  pub kept : s.cleared ≤ x.since
  pub old : x.since ≤ x.met
  pub met : x.met ≤ calls s
  pub extent : extents x.row ≡ x.extent
  pub width : x.width ≡ s.tree.table.width
  pub shape : Shape kind (copy_of x) x.row x.extent
  pub form : SameForm (copy_of x) s.tree.table (kind_at kind x.extent.level) x.row
  -- a node that was found dead stays as it is
  pub died : (d : ℕ) → x.died ≡ Some d → life_of s.lives x.row ≡ Dead d
  pub frozen : (d c : ℕ) → x.died ≡ Some d → c < columns s.tree.table.width → column s.tree.table x.row c ≡ column (copy_of x) x.row c
  -- while it was live a leaf of its form had what the map had
  pub past : x.extent.level ≡ 0 → (k : ℕ) → x.met ≤ k → Alive (life_of s.lives x.row) (calls s) k → Snapshot kind x (moments k)

-- a node that is reached now
abbrev pub come : State → ℕ → ℕ → Extent → Held
come s row since extent = record { row = row; since = since; met = calls s; extent = extent; width = s.tree.table.width; copy = s.tree.table.words; died = None }

abbrev pub died_by : Life → Option ℕ
died_by New = None
died_by Draft = None
died_by Live = None
died_by (Dead d) = Some d

-- a node that is held, as it is now
abbrev pub as_known_now : State → Held → Held
as_known_now s x = record x { width = s.tree.table.width; copy = s.tree.table.words; died = died_by (life_of s.lives x.row) }

-- What a word that was loaded leads to: a node that may be held, of the kind of its level.
pub record LeadsTo (kind : Kind) (s : State) (extents : ℕ → Extent) (moments : ℕ → Moment) (word since : ℕ) (e : Extent) : Type 0 where
  pub named : named_kind word ≡ Some (kind_at kind e.level)
  pub held : HoldsRow kind s extents moments (come s (row_in word) since e)

-- What a leaf that is held answers: what the map had there after k calls, no fewer than at the load of the root; after all
-- calls, where the leaf is not dead.
pub record LeafTells (kind : Kind) (s : State) (moments : ℕ → Moment) (x : Held) : Type 0 where
  pub k : ℕ
  pub low : x.since ≤ k
  pub high : k ≤ calls s
  pub now : died_by (life_of s.lives x.row) ≡ None → k ≡ calls s
  pub part : HasPart kind s.tree.table x.row x.extent (moments k)
