-- What C keeps of a tree, and what it owns by that. Source: this project's own.
use base.Fml.{Fml, ftrue}
use denote.RattleType.{RattleType}
use denote.RawPtr.{Ptr}
use mir.Syntax.{Ty}
use Rattle.std.specs.Prelude.{ℕ, ◌==◌, Bool, true, false, Option, Some, None, if◌then◌else◌}
use Rattle.std.specs.contracts.impls.GlobalAllocator.TheImpl.{ghosts}
use Rattle.std_alloc.specs.Box.Ownership.{box_owns}

-- the right to give a block back to the C library
abbrev pub to_free : Ty → Ptr → Fml
to_free = ghosts.dealloc_token (record { memory = record { seal = tt } })

-- the box of what is kept, if something is
abbrev pub kept_owns : (R : RattleType) → Ptr → Option R.Denot → Fml
kept_owns R p None = ftrue
kept_owns R p (Some x) = box_owns to_free R p x

-- something is kept
abbrev pub IsOpenHandle : {A : Type 0} → Option A → Type 0
IsOpenHandle None = ⊥
IsOpenHandle (Some x) = Unit {0}

-- whether something is kept
abbrev pub is_kept : {A : Type 0} → Option A → Bool
is_kept None = false
is_kept (Some x) = true

-- The number for a handle of this state that has no user: EBADF where it is closed, and EDEADLK where a call works on that.
abbrev pub refusal : ℕ → ℕ
refusal state = if state == 0 then 9 else 35

-- The number for one that is to be opened and is not closed: EALREADY where it has a user.
abbrev pub unopened : ℕ → Option ℕ
unopened state = if state == 0 then None else (if state == 1 then Some 114 else Some 35)

-- how many are kept
abbrev pub open_count : {A : Type 0} → Option A → ℕ
open_count None = 0
open_count (Some x) = 1
