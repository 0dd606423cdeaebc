-- A tree from which single indexes are taken, as its caller sees it.
-- Source: the kernel's lib/maple_tree.c, mas_alloc_cyclic, which takes one index at a time.
use Rattle.std.specs.Prelude.{◌≡◌, ℕ, ◌+◌, ◌/◌, ◌<◌, Bool, true, List, Option, Some}
use Rattle.mt_ids.specs.Prelude.{Kind, Range, Call, Reply, NoNodes, Shortage, Record, IsAnswered, map_after, Limits}

-- a call and its reply
pub record Made : Type 0 where
  pub call : Call
  pub reply : Reply

-- The tree's kind, its number of nodes, how many ranges it opened with and the greatest number of its calls. Whether no other
-- reader may hold nodes back. Its map, the number of its calls, and the last of them.
pub record Allocation : Type 0 where
  pub kind : Kind
  pub rows : ℕ
  pub opening : ℕ
  pub limit : ℕ
  pub alone : Bool
  pub map : List Range
  pub calls : ℕ
  pub last : Option Made

-- the limits of the tree's nodes after `ended` calls
abbrev pub limits_at : Allocation → ℕ → Limits
limits_at s ended = record { rows = s.rows; opened = s.opening / 2 + 2; ended = ended; may_hold = true }

-- the call as a record of the tree's history; the handle does not matter here
abbrev pub recorded : Call → Reply → Record
recorded call reply = record { pass = 0; call = call; reply = reply }

-- One more call: the map answered it, or it was refused because nodes are short. If no other reader may hold nodes back, none
-- is held.
pub record IsNextCall (s : Allocation) (call : Call) (reply : Reply) (s' : Allocation) : Type 0 where
  pub room : s.calls < s.limit
  pub answered : IsAnswered s.kind (limits_at s s.calls) s.map (recorded call reply)
  pub unheld : s.alone ≡ true → (shortage : Shortage) → reply ≡ NoNodes shortage → shortage.held ≡ 0
  pub after : s' ≡ record s { map = map_after s.kind s.map (recorded call reply); calls = s.calls + 1; last = Some (record { call = call; reply = reply }) }

-- since then there were only calls; and, in `IsSince`, they left the map
abbrev pub IsAfter : Allocation → Allocation → Type 0
IsAfter s t = t ≡ record s { map = t.map; calls = t.calls; last = t.last }

abbrev pub IsSince : Allocation → Allocation → Type 0
IsSince s t = t ≡ record s { calls = t.calls; last = t.last }
