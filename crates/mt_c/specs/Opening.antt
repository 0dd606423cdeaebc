-- What an open leaves of what C keeps. Source: this project's own; the codes of kinds are those of images.
use Rattle.std.specs.Prelude.{◌≡◌, ◌≢◌, ◌⊎◌, ℕ, [], Option, Some, None, ◌<◌, ◌≤◌}
use Rattle.mt_c.specs.Prelude.{Kind, kind_width, most_rows, new_book, new_sheet, map_by, Parts, kind_code}
use Rattle.mt_c.specs.Own.{OwnTree}

-- an empty tree of this many nodes, none of which was used
pub record IsNewEngine (kind : Kind) (rows : ℕ) (t : Parts) : Type 0 where
  pub new : t ≡ record { sheet = new_sheet (kind_width kind) rows; book = new_book rows; kind = kind }
  pub empty : map_by t.sheet.tree ≡ []

-- what C may open: a kind of this code, with this many nodes
abbrev pub IsShape : ℕ → ℕ → Kind → Type 0
IsShape code rows kind = (kind_code kind ≡ code) × (rows ≤ most_rows)

-- A closed one is opened with an empty tree of such a shape. Or it stays closed: EINVAL if there is no such kind, EDOM if there
-- are too many nodes, and ENOMEM if memory ran out for such a shape.
abbrev pub OpenedNew : ℕ → ℕ → Option OwnTree → ℕ → Type 0
OpenedNew code rows (Some t) status = (status ≡ 0) × (kind : Kind) × IsShape code rows kind × IsNewEngine kind rows t.engine
OpenedNew code rows None status = ((status ≡ 22) × ((kind : Kind) → kind_code kind ≢ code)) ⊎ (((status ≡ 33) × (kind : Kind) × (kind_code kind ≡ code) × (most_rows < rows)) ⊎ ((status ≡ 12) × (kind : Kind) × IsShape code rows kind))

-- An open of what C keeps. One that is open is EALREADY, and stays as it was.
abbrev pub Opened : ℕ → ℕ → Option OwnTree → Option OwnTree → ℕ → Type 0
Opened code rows (Some t) after status = (after ≡ Some t) × (status ≡ 114)
Opened code rows None after status = OpenedNew code rows after status
