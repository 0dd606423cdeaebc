-- Which calls need nodes, and what holds of a call that is refused because too few are free.
-- Source: the kernel's -ENOMEM of mas_alloc_nodes; how many nodes a call needs is this project's.
use Rattle.std.specs.Prelude.{◌≡◌, ◌≢◌, ◌↔◌, ◌⊎◌, ℕ, ◌+◌, ◌-◌, ◌*◌, ◌^◌, ◌<◌, ◌≤◌, ◌==◌, ◌&&◌, Bool, false, not, List, [], Option, Some, None, IsSome, IfSome, length, option_map}
use Rattle.mt_base.specs.declared.ranges.Range.{Range}
use Rattle.mt_base.specs.declared.kinds.Kind.{Kind}
use Rattle.mt_base.specs.declared.calls.Call.{Call}
use Rattle.mt_base.specs.declared.calls.Call.TheVariants.{Store, StorePre, Insert, Erase, Alloc, Ralloc, Gap, Rgap, Clear}
use Rattle.mt_base.specs.declared.replies.Reply.{Reply}
use Rattle.mt_base.specs.declared.replies.Reply.TheVariants.{NoNodes}
use Rattle.mt_base.specs.declared.replies.Shortage.{Shortage}
use Rattle.mt_base.specs.Map.{holding}
use Rattle.mt_base.specs.Width.{deepest, most_taken}
use Rattle.mt_base.specs.Call.{acted, is_invalid}

-- the range has exactly these indexes
abbrev pub is_exactly : ℕ → ℕ → Option Range → Bool
is_exactly first last None = false
is_exactly first last (Some r) = (r.first == first) && (r.last == last)

-- The store of an entry over exactly one range: it changes that range's entry alone.
abbrev pub is_exact_store : List Range → ℕ → ℕ → ℕ → Bool
is_exact_store m first last entry = not (entry == 0) && is_exactly first last (holding m first)

-- the call changes the map
abbrev pub Changes : Kind → List Range → Call → Type 0
Changes kind m call = (acted kind m call).0 ≢ m

-- The call needs nodes: it changes the map, and by more than one range's entry. A clear and a search alone need none.
-- `StorePre`, which asks for its nodes beforehand, needs them whatever it changes, unless it is invalid.
abbrev pub Wants : Kind → List Range → Call → Type 0
Wants kind m (Store first last entry) = Changes kind m (Store first last entry) × (is_exact_store m first last entry ≡ false)
Wants kind m (StorePre first last entry) = is_invalid kind first last entry ≡ false
Wants kind m (Insert first last entry) = Changes kind m (Insert first last entry)
Wants kind m (Erase index) = Changes kind m (Erase index)
Wants kind m (Alloc size min max entry) = Changes kind m (Alloc size min max entry)
Wants kind m (Ralloc size min max entry) = Changes kind m (Ralloc size min max entry)
Wants kind m (Gap size min max) = ⊥
Wants kind m (Rgap size min max) = ⊥
Wants kind m Clear = ⊥

-- What bounds a tree's nodes: how many there are, how many the tree had before its first call, how many calls have ended, and
-- whether readers may hold nodes back.
pub record Limits : Type 0 where
  pub rows : ℕ
  pub opened : ℕ
  pub ended : ℕ
  pub may_hold : Bool

-- Nodes are short: each is free, live or held (retired, but not yet reclaimable), and fewer are free than three a level and
-- one. The other fields bound these numbers by the map and the limits.
pub record IsShort (l : Limits) (m : List Range) (s : Shortage) : Type 0 where
  pub all : s.free + s.live + s.held ≡ l.rows
  pub levels : ℕ
  pub low : levels ≤ deepest
  pub need : s.need ≡ 3 * levels + 1
  pub few : s.free < s.need
  pub flat : (levels ≡ 0) ↔ (m ≡ [])
  pub tall : 2 ≤ levels → 3 * 4 ^ (levels - 1) ≤ 2 * length m + 1
  pub each : levels ≤ s.live
  pub none : (s.live ≡ 0) ↔ (m ≡ [])
  pub half : 2 * s.live ≤ length m + 4
  pub holder : IsSome s.by ↔ (0 < s.held)
  pub epoch : IfSome s.by (λ h. h.epoch ≤ l.ended)
  pub grown : s.held + s.live ≤ l.opened + most_taken * l.ended
  pub unheld : l.may_hold ≡ false → s.held ≡ 0

-- The call is refused because nodes are short: it needs some, and too few are free.
pub record IsRefused (kind : Kind) (l : Limits) (m : List Range) (call : Call) (reply : Reply) : Type 0 where
  pub shortage : Shortage
  pub told : reply ≡ NoNodes shortage
  pub wants : Wants kind m call
  pub short : IsShort l m shortage

-- refused, if the number of nodes is limited
abbrev pub MayRefuse : Kind → Option Limits → List Range → Call → Reply → Type 0
MayRefuse kind None m call reply = ⊥
MayRefuse kind (Some l) m call reply = IsRefused kind l m call reply

-- The call has its effect and returns its reply, or it is refused because nodes are short and leaves the map.
abbrev pub IsMade : Kind → Option Limits → List Range → Call → List Range → Reply → Type 0
IsMade kind limits m call m' reply = (acted kind m call ≡ (m', reply)) ⊎ (MayRefuse kind limits m call reply × (m' ≡ m))

-- one more call has ended
abbrev pub one_call_more : Option Limits → Option Limits
one_call_more limits = option_map (λ (l : Limits). record l { ended = l.ended + 1 }) limits
