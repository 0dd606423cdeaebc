-- Which lines are reported as wrong, and for which causes.
-- Source: this project's own.
use Rattle.std.specs.Prelude.{◌≡◌, ℕ, ◌+◌, ◌≤◌, Bool, true, false, List, Option, Some, None, IfSome, if◌then◌else◌, nat_lt, slice_get}
use Rattle.mt_judge.specs.Prelude.{ToldLine, What, Wrote, Got, Copied, Lawful}
use Rattle.mt_judge.specs.Orders.{IsFirstOut, IsInOrder}
use Rattle.mt_judge.specs.declared.causes.Cause.{Cause}
use Rattle.mt_judge.specs.declared.causes.Cause.TheVariants.{Below, Form, NoEntry, Order}
use Rattle.mt_judge.specs.declared.causes.FoundFault.{FoundFault}

-- of two faults that at the lower line
abbrev pub earlier : FoundFault → Option FoundFault → FoundFault
earlier fault None = fault
earlier fault (Some other) = if nat_lt other.line fault.line then other else fault

-- ---- faults of form

-- a line of the log is not answered, or not in its form
abbrev pub is_of_form : Cause → Bool
is_of_form NoEntry = true
is_of_form Form = true
is_of_form cause = false

-- ---- faults of order

-- the cause is that of a line that is out of order with those before it
abbrev pub is_of_order : Cause → Bool
is_of_order Order = true
is_of_order Below = true
is_of_order cause = false

-- a call's number is too low, or the number with which a read's window begins
abbrev pub order_cause : What → Cause
order_cause (Wrote number call reply) = Order
order_cause (Got lo hi query answer) = Below
order_cause (Copied count) = Below
order_cause (Lawful count) = Below

-- the first line that is out of order is reported, with what is wrong with it
pub record IsOrderFault (told : List ToldLine) (fault : FoundFault) : Type 0 where
  pub place : ℕ
  pub first : IsFirstOut told place
  pub line : fault.line ≡ place + 1
  pub cause : IfSome (slice_get told place) (λ t. fault.cause ≡ order_cause t.what)

-- If a line is out of order, one is reported, none after the first. And what is reported as out of order is the first.
abbrev pub KeepsOrder : List ToldLine → Option FoundFault → Type 0
KeepsOrder told None = IsInOrder told
KeepsOrder told (Some fault) = ((place : ℕ) → IsFirstOut told place → fault.line ≤ place + 1) × (is_of_order fault.cause ≡ true → IsOrderFault told fault)
