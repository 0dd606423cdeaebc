-- What the last reply of a draw leads to.
-- Source: this project's own.
use Rattle.std.specs.Prelude.{◌≡◌, ℕ, ◌+◌, ◌≤◌, Bool, None, Result, Ok, Err}
use Rattle.mt_ids.specs.Prelude.{Reply}
use Rattle.mt_base.specs.declared.replies.Reply.TheVariants as reply
use Rattle.mt_ids.specs.Allocation.{Allocation, IsSince}
use Rattle.mt_ids.specs.Draws.{position_behind, calls_of, from_position, last_start}
use Rattle.mt_ids.specs.Window.{Draws}
use Rattle.mt_ids.specs.declared.ids.Drawn.{Drawn}
use Rattle.mt_ids.specs.declared.ids.Drawn.TheVariants as drawn

abbrev pub came_by : Bool → Reply → Drawn
came_by wrapped (reply.Start at) = drawn.Number at wrapped
came_by wrapped reply.Busy = drawn.Busy
came_by wrapped (reply.NoNodes shortage) = drawn.NoNodes shortage
came_by wrapped reply.Ok = drawn.Invalid
came_by wrapped (reply.Over entry) = drawn.Invalid
came_by wrapped (reply.Was range) = drawn.Invalid
came_by wrapped reply.None = drawn.Invalid
came_by wrapped reply.Exists = drawn.Invalid
came_by wrapped reply.Invalid = drawn.Invalid

abbrev pub came_to : Bool → Result Reply ℕ → Drawn
came_to wrapped (Ok r) = came_by wrapped r
came_to wrapped (Err calls) = drawn.Worn calls

abbrev pub after_reply : Draws → Reply → Draws
after_reply d (reply.Start at) = position_behind d at
after_reply d reply.Busy = d
after_reply d (reply.NoNodes shortage) = d
after_reply d reply.Ok = d
after_reply d (reply.Over entry) = d
after_reply d (reply.Was range) = d
after_reply d reply.None = d
after_reply d reply.Exists = d
after_reply d reply.Invalid = d

abbrev pub after_answer : Draws → Result Reply ℕ → Draws
after_answer d (Ok r) = after_reply d r
after_answer d (Err calls) = d

-- a number lies in the window
abbrev pub LiesIn : Draws → Reply → Type 0
LiesIn d (reply.Start at) = (d.lo ≤ at) × (at ≤ d.hi)
LiesIn d reply.Busy = Unit {0}
LiesIn d (reply.NoNodes shortage) = Unit {0}
LiesIn d reply.Ok = Unit {0}
LiesIn d (reply.Over entry) = Unit {0}
LiesIn d (reply.Was range) = Unit {0}
LiesIn d reply.None = Unit {0}
LiesIn d reply.Exists = Unit {0}
LiesIn d reply.Invalid = Unit {0}

abbrev pub IsLastAnswer : Draws → Result Reply ℕ → Type 0
IsLastAnswer d (Ok r) = LiesIn d r
IsLastAnswer d (Err calls) = Unit {0}

-- All calls of a draw but the last are made, and the last one searches from the window's first index on.
pub record IsBeforeLast (d : Draws) (s : Allocation) (entry : ℕ) (t : Allocation) : Type 0 where
  pub since : IsSince s t
  pub none : from_position s.kind s.map d.hi d.at ≡ None
  pub calls : t.calls + 1 ≡ s.calls + calls_of s d entry
  pub some : s.calls ≤ t.calls
  pub start : last_start s d entry ≡ d.lo
