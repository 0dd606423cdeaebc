-- What C gets of a call that keeps the reserve of a shared tree.
-- Source: this project's own; the kernel's trees take a node from memory whenever a call needs one.
use Rattle.std.specs.Prelude.{◌≡◌, ℕ, Some, None, Result, Ok, Err}
use Rattle.mt_base.specs.Passes as known
use Rattle.mt_c.specs.Prelude.{Call, Busy, Look, Tree, Worn, IsBusyOf}
use Rattle.mt_tree.specs.Kept.{WasKept}
use Rattle.mt_tree.specs.declared.kept.Kept.{Kept}
use Rattle.mt_tree.specs.declared.kept.Kept.TheVariants as kept
use Rattle.mt_c.specs.declared.receipts.Receipts.{Receipts}
use Rattle.mt_c.specs.declared.shared_told.Outcome.{Outcome}
use Rattle.mt_c.specs.declared.user.User.{User}
use Rattle.mt_c.specs.declared.user_handle.UserHandle.{UserHandle}
use Rattle.mt_c.specs.Calls.{status_of}
use Rattle.mt_c.specs.Shared.{OnUser, done_outcome, done_status, no_outcome}
use Rattle.mt_c.specs.Users.{known_to, paused, user_tree}
use Rattle.mt_c.specs.Walkers.{TriedOnce}

-- What came of the call, and the look at what the lock protected; or the lock was found taken.
abbrev pub TriedKept : Type 0
TriedKept = Result (Result Kept Worn × Look) Busy

abbrev pub IsTriedKept : Tree → known.Pass → Call → TriedKept → known.Pass → Type 0
IsTriedKept t p call (Ok r) q = WasKept t p call r.1 r.0 q
IsTriedKept t p call (Err busy) q = IsBusyOf t busy × (q ≡ p)

-- the number that C gets: ENOMEM, and no call, if it would break the reserve
abbrev pub made_status : Result Kept Worn → ℕ
made_status (Ok kept.Broken) = 12
made_status (Ok (kept.Made d)) = done_status d
made_status (Err w) = status_of None

abbrev pub kept_status : TriedKept → ℕ
kept_status (Ok r) = made_status r.0
kept_status (Err busy) = 11

abbrev pub made_outcome : Result Kept Worn → Outcome
made_outcome (Ok kept.Broken) = no_outcome
made_outcome (Ok (kept.Made d)) = done_outcome d
made_outcome (Err w) = no_outcome

abbrev pub kept_outcome : TriedKept → Outcome
kept_outcome (Ok r) = made_outcome r.0
kept_outcome (Err busy) = no_outcome

-- what the user has found then: the look, or that the lock was taken
abbrev pub when_kept : TriedKept → Receipts → Receipts
when_kept (Ok r) receipts = record receipts { looked = Some r.1 }
when_kept (Err busy) receipts = record receipts { locked = Some busy }

-- A user has tried such a call, and went for the lock once. It keeps no walk, and makes no step at the purse.
abbrev pub HasTriedKept : Call → ℕ → Outcome → User → User → Type 0
HasTriedKept call status out u v =
    (tried : TriedKept) × IsTriedKept (user_tree u) (paused u) call tried (known_to v) × TriedOnce u.walker v.walker × (v.walker.walk ≡ None) × (v.chair ≡ u.chair) × (v.receipts ≡ when_kept tried u.receipts) × (status ≡ kept_status tried) × (out ≡ kept_outcome tried)

abbrev pub SharedTriedKept : Call → UserHandle → UserHandle → ℕ → Outcome → Type 0
SharedTriedKept call before after status out = OnUser before after status (out ≡ no_outcome) (HasTriedKept call status out)
