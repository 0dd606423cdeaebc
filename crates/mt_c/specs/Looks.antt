-- What C gets of the whole of a shared tree, which is looked at under its lock if that is free.
-- Source: this project's own; the kernel's lib/maple_tree.c, mt_validate.
use Rattle.std.specs.Prelude.{◌≡◌, ◌⊎◌, ℕ, ◌<◌, ◌≤◌, List, ◌++◌, Option, Some, None, Result, Ok, Err, Vec, drop, length}
use Rattle.std.specs.Global.{Global}
use Rattle.mt_base.specs.declared.memory.NoMemory.{NoMemory}
use Rattle.mt_base.specs.Passes as known
use Rattle.mt_c.specs.Prelude.{Form, Busy, Look, Stats, Tree, IsFormBehind, IsImagedBehind, IsOldest, IsStatsOf, opened, IsBusyOf}
use Rattle.mt_c.specs.declared.forms.OutForm.{OutForm}
use Rattle.mt_c.specs.declared.receipts.Receipts.{Receipts}
use Rattle.mt_c.specs.declared.stats.OutStats.{OutStats}
use Rattle.mt_c.specs.declared.user.User.{User}
use Rattle.mt_c.specs.declared.user_handle.UserHandle.{UserHandle}
use Rattle.mt_c.specs.Copying.{no_form, out_form}
use Rattle.mt_c.specs.Shared.{OnUser}
use Rattle.mt_c.specs.Stats.{no_stats}
use Rattle.mt_c.specs.Users.{known_to, rested, user_tree}
use Rattle.mt_c.specs.Walkers.{IsOnNoWalk, TriedShut}

-- ---- a look under the lock

-- What a look found, and its receipt; or the lock was found taken.
abbrev pub FoundOrTaken : Type 0 → Type 0
FoundOrTaken A = Result (A × Look) Busy

-- The handle has seen the whole history, and what was found is true of what the lock protected then, which the receipt has; or
-- the lock was found taken.
abbrev pub IsFoundIn : {A : Type 0} → (Tree → known.Pass → A × Look → Type 0) → Tree → known.Pass → FoundOrTaken A → known.Pass → Type 0
IsFoundIn is t p (Ok found) q = known.Saw (opened t) p q × is t q found
IsFoundIn is t p (Err busy) q = IsBusyOf t busy × (q ≡ p)

-- the receipt of the look, or of finding the lock taken, is what the user then has
abbrev pub when_found : {A : Type 0} → FoundOrTaken A → Receipts → Receipts
when_found (Ok found) r = record r { looked = Some found.1 }
when_found (Err busy) r = record r { locked = Some busy }

-- What was found is told as C has it (0), or that the lock was taken (EAGAIN).
abbrev pub TellsFound : {A B : Type 0} → (A → B) → B → ℕ → B → FoundOrTaken A → Type 0
TellsFound shown none status out (Ok found) = (status ≡ 0) × (out ≡ shown found.0)
TellsFound shown none status out (Err busy) = (status ≡ 11) × (out ≡ none)

-- A user has looked so, for which it closed its section and went for the lock once. It keeps no walk and has no section open, and
-- makes no step at the purse.
abbrev pub HasFoundOrTaken : {A : Type 0} → (Tree → known.Pass → A × Look → Type 0) → (FoundOrTaken A → Type 0) → User → User → Type 0
HasFoundOrTaken {A} is tells u v =
    (found : FoundOrTaken A) × IsFoundIn is (user_tree u) (rested u) found (known_to v) × TriedShut u.walker v.walker × IsOnNoWalk v.walker × (v.chair ≡ u.chair) × (v.receipts ≡ when_found found u.receipts) × tells found

-- ---- a check: the form is that of the words that the lock protects

abbrev pub TellsForm : ℕ → OutForm → FoundOrTaken Form → Type 0
TellsForm status out found = TellsFound out_form no_form status out found

abbrev pub SharedChecked : UserHandle → UserHandle → ℕ → OutForm → Type 0
SharedChecked before after status out = OnUser before after status (out ≡ no_form) (HasFoundOrTaken IsFormBehind (TellsForm status out))

-- ---- how the nodes are used

abbrev pub out_stats : Stats → OutStats
out_stats s = record { rows = s.rows; free = s.free; live = s.live; held = s.held; height = s.height; calls = s.calls }

abbrev pub TellsStats : ℕ → OutStats → FoundOrTaken Stats → Type 0
TellsStats status out found = TellsFound out_stats no_stats status out found

abbrev pub SharedStats : UserHandle → UserHandle → ℕ → OutStats → Type 0
SharedStats before after status out = OnUser before after status (out ≡ no_stats) (HasFoundOrTaken IsStatsOf (TellsStats status out))

-- ---- since when sections are open

abbrev pub TellsCalls : ℕ → ℕ → FoundOrTaken ℕ → Type 0
TellsCalls status out found = TellsFound (λ (calls : ℕ). calls) 0 status out found

-- how many calls had ended at least when a section that is open was opened
abbrev pub SharedOldest : UserHandle → UserHandle → ℕ → ℕ → Type 0
SharedOldest before after status out = OnUser before after status (out ≡ 0) (HasFoundOrTaken IsOldest (TellsCalls status out))

-- ---- an image: the bytes are that of the words that the lock protects, if memory did not run out

abbrev pub MadeImage : Type 0
MadeImage = Result (Vec ℕ Global) NoMemory

-- the buffer begins with it, and is else as before; or it is too short (ERANGE), and as before
abbrev pub PutsBytes : List ℕ → List ℕ → ℕ → ℕ → List ℕ → Type 0
PutsBytes out out' used status bytes =
    (used ≡ length bytes) × (((status ≡ 0) × (length bytes ≤ length out) × (out' ≡ bytes ++ drop (length bytes) out)) ⊎ ((status ≡ 34) × (length out < length bytes) × (out' ≡ out)))

-- ENOMEM if memory ran out: the buffer is as before then
abbrev pub TellsMade : List ℕ → List ℕ → ℕ → ℕ → MadeImage → Type 0
TellsMade out out' used status (Ok bytes) = PutsBytes out out' used status bytes.items
TellsMade out out' used status (Err none) = (status ≡ 12) × (used ≡ 0) × (out' ≡ out)

-- EAGAIN if the lock was taken: the buffer is as before then
abbrev pub TellsBytes : List ℕ → List ℕ → ℕ → ℕ → FoundOrTaken MadeImage → Type 0
TellsBytes out out' used status (Ok found) = TellsMade out out' used status found.0
TellsBytes out out' used status (Err busy) = (status ≡ 11) × (used ≡ 0) × (out' ≡ out)

abbrev pub SharedImaged : List ℕ → List ℕ → ℕ → UserHandle → UserHandle → ℕ → Type 0
SharedImaged out out' used before after status = OnUser before after status ((out' ≡ out) × (used ≡ 0)) (HasFoundOrTaken IsImagedBehind (TellsBytes out out' used status))
