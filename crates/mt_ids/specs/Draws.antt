-- Numbers drawn in turn from a window of indexes (cyclic allocation). Each draw takes the lowest index that is free from the
-- position on. If there is none, it begins again at the window's first index.
-- Source: the kernel's lib/maple_tree.c, mtree_alloc_cyclic.
use Rattle.std.specs.Prelude.{◌≡◌, ℕ, ◌+◌, ◌-◌, ◌<◌, ◌≤◌, ◌==◌, ◌&&◌, ◌||◌, not, nat_lt, Bool, true, false, List, Option, Some, None, if◌then◌else◌, unwrap_or}
use Rattle.mt_ids.specs.Prelude.{Kind, Range, Alloc, Reply, Shortage, finds_room, reserved, low, over, IsRefused, greatest_of}
use Rattle.mt_base.specs.declared.replies.Reply.TheVariants as reply
use Rattle.mt_ids.specs.Allocation.{Allocation, limits_at}
use Rattle.mt_ids.specs.Window.{Draws}
use Rattle.mt_ids.specs.declared.ids.Drawn.{Drawn}
use Rattle.mt_ids.specs.declared.ids.Drawn.TheVariants.{Number, Busy, Invalid, NoNodes, Worn}

-- a number, and whether the search wrapped around to the window's first index
pub record Found : Type 0 where
  pub at : ℕ
  pub wrapped : Bool

-- the lowest free index from the position on
abbrev pub from_position : Kind → List Range → ℕ → Option ℕ → Option ℕ
from_position kind m hi None = None
from_position kind m hi (Some n) = low kind m 1 n hi

abbrev pub first_found : Option ℕ → Option ℕ → Option Found
first_found (Some s) again = Some (record { at = s; wrapped = false })
first_found None (Some s) = Some (record { at = s; wrapped = true })
first_found None None = None

-- the number that a draw takes from a map
abbrev pub drawn : Kind → List Range → Draws → Option Found
drawn kind m d = first_found (from_position kind m d.hi d.at) (low kind m 1 d.lo d.hi)

-- the position after a number
abbrev pub position_behind : Draws → ℕ → Draws
position_behind d s = record d { at = if s == d.hi then None else Some (s + 1) }

-- invalid arguments of a draw: the kind of the tree, the window's last index, or the entry
abbrev pub is_bad_draw : Kind → ℕ → ℕ → Bool
is_bad_draw kind hi entry = not (finds_room kind) || (nat_lt (greatest_of kind) hi || (reserved entry || (entry == 0)))

-- ---- the calls of a draw

-- there is a position, and no index is free from it on
abbrev pub is_past : Option ℕ → Option ℕ → Bool
is_past None found = false
is_past (Some n) (Some s) = false
is_past (Some n) None = true

-- whether a draw makes a second call, which searches from the window's first index on
abbrev pub is_twofold : Kind → List Range → Draws → ℕ → Bool
is_twofold kind m d entry = is_past d.at (from_position kind m d.hi d.at) && not (is_bad_draw kind d.hi entry)

-- how many calls a draw makes, and where the last of them begins to search
abbrev pub calls_of : Allocation → Draws → ℕ → ℕ
calls_of s d entry = if is_twofold s.kind s.map d entry then 2 else 1

abbrev pub last_start : Allocation → Draws → ℕ → ℕ
last_start s d entry = if is_twofold s.kind s.map d entry then d.lo else unwrap_or d.at d.lo

-- All calls of a draw were made, the last with this reply.
pub record AreMade (d : Draws) (s : Allocation) (entry : ℕ) (r : Reply) (s' : Allocation) : Type 0 where
  pub room : s.calls + calls_of s d entry ≤ s.limit
  pub calls : s'.calls ≡ s.calls + calls_of s d entry
  pub last : s'.last ≡ Some (record { call = Alloc 1 (last_start s d entry) d.hi entry; reply = r })

-- The last call of a draw was refused because nodes are short.
pub record IsDrawShort (d : Draws) (s : Allocation) (entry : ℕ) (shortage : Shortage) (s' : Allocation) : Type 0 where
  pub made : AreMade d s entry (reply.NoNodes shortage) s'
  pub refused : IsRefused s.kind (limits_at s (s'.calls - 1)) s.map (Alloc 1 (last_start s d entry) d.hi entry) (reply.NoNodes shortage)
  pub unheld : s.alone ≡ true → shortage.held ≡ 0

-- The tree has reached its limit of `calls` calls: fewer are left than the draw makes.
pub record LacksCalls (d : Draws) (s : Allocation) (entry calls : ℕ) (s' : Allocation) : Type 0 where
  pub limit : calls ≡ s.limit
  pub some : s.calls ≤ s.limit
  pub few : s.limit < s.calls + calls_of s d entry
  pub all : s'.calls ≡ s.limit

-- what a draw may return, and how it leaves the map and the position
abbrev pub IsDrawn : Draws → Allocation → ℕ → Drawn → Draws → Allocation → Type 0
IsDrawn d s entry (Number at wrapped) d' s' =
    AreMade d s entry (reply.Start at) s' × (is_bad_draw s.kind d.hi entry ≡ false) × (drawn s.kind s.map d ≡ Some (record { at = at; wrapped = wrapped })) × (s'.map ≡ over s.map at at entry) × (d' ≡ position_behind d at)
IsDrawn d s entry Busy d' s' = AreMade d s entry reply.Busy s' × (is_bad_draw s.kind d.hi entry ≡ false) × (drawn s.kind s.map d ≡ None) × (s'.map ≡ s.map) × (d' ≡ d)
IsDrawn d s entry Invalid d' s' = AreMade d s entry reply.Invalid s' × (is_bad_draw s.kind d.hi entry ≡ true) × (s'.map ≡ s.map) × (d' ≡ d)
IsDrawn d s entry (NoNodes shortage) d' s' = IsDrawShort d s entry shortage s' × (s'.map ≡ s.map) × (d' ≡ d)
IsDrawn d s entry (Worn calls) d' s' = LacksCalls d s entry calls s' × (s'.map ≡ s.map) × (d' ≡ d)
