-- The one history of a tree (its linearization order): its calls in the order of their numbers (versions), with their replies.
use Rattle.std.specs.Prelude.{◌≡◌, ◌⊎◌, ℕ, ◌+◌, ◌/◌, ◌≤◌, true, List, [], ◌∷◌, Option, length, take, fold}
use Rattle.mt_base.specs.declared.ranges.Range.{Range}
use Rattle.mt_base.specs.declared.kinds.Kind.{Kind}
use Rattle.mt_base.specs.declared.calls.Call.{Call}
use Rattle.mt_base.specs.declared.calls.Query.{Query}
use Rattle.mt_base.specs.declared.replies.Reply.{Reply}
use Rattle.mt_base.specs.declared.replies.Reply.TheVariants.{NoNodes}
use Rattle.mt_base.specs.Call.{acted, answer}
use Rattle.mt_base.specs.Nodes.{Limits, IsRefused}

-- a call: whose handle made it, what it was, and what it returned
pub record Record : Type 0 where
  pub pass : ℕ
  pub call : Call
  pub reply : Reply

-- a tree's kind, its number of nodes, the map that it opened with, and its calls, which are numbered from 1
pub record History : Type 0 where
  pub kind : Kind
  pub rows : ℕ
  pub opening : List Range
  pub records : List Record

-- a call that was refused because nodes are short leaves the map; any other has its effect
abbrev pub map_by_reply : Reply → List Range → List Range → List Range
map_by_reply (NoNodes shortage) before after = before
map_by_reply reply before after = after

-- the map after one more call
abbrev pub map_after : Kind → List Range → Record → List Range
map_after kind m r = map_by_reply r.reply m (acted kind m r.call).0

-- the map after all calls of a history
abbrev pub last_map : History → List Range
last_map h = fold (map_after h.kind) h.opening h.records

-- the history of the first k calls
abbrev pub until : History → ℕ → History
until h k = record h { records = take k h.records }

-- the map after the first k calls
abbrev pub map_at : History → ℕ → List Range
map_at h k = last_map (until h k)

-- the limits of a tree's nodes after `ended` calls: the opening map has at most half as many nodes as ranges, and two
abbrev pub limits_after : History → ℕ → Limits
limits_after h ended = record { rows = h.rows; opened = length h.opening / 2 + 2; ended = ended; may_hold = true }

-- the reply is what the map before the call gives, or the call was refused because nodes are short
abbrev pub IsAnswered : Kind → Limits → List Range → Record → Type 0
IsAnswered kind l m r = (r.reply ≡ (acted kind m r.call).1) ⊎ IsRefused kind l m r.call r.reply

-- each of these calls was answered by the map before it
abbrev pub AreLegalFrom : History → ℕ → List Range → List Record → Type 0
AreLegalFrom h ended m [] = Unit {0}
AreLegalFrom h ended m (r ∷ records) = IsAnswered h.kind (limits_after h ended) m r × AreLegalFrom h (ended + 1) (map_after h.kind m r) records

abbrev pub IsLegal : History → Type 0
IsLegal h = AreLegalFrom h 0 h.opening h.records

-- A read with the window `lo` to `hi` returned the answer of version k, the map after k calls, and k lies in the window.
pub record IsTrueRead (h : History) (k lo hi : ℕ) (query : Query) (value : Option Range) : Type 0 where
  pub from : lo ≤ k
  pub to : k ≤ hi
  pub made : k ≤ length h.records
  pub answered : value ≡ answer (map_at h k) query
