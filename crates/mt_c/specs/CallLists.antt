-- What C gets of several calls that a user of a shared tree makes under one lock.
-- Source: this project's own; the kernel's mas_lock, under which a caller makes several calls, and its sendmmsg, which writes
-- the answer of each call of an array beside that call.
use Rattle.std.specs.Prelude.{◌≡◌, ◌==◌, ℕ, Bool, true, false, List, Option, Some, None, Result, Ok, Err, is_some, length, unwrap_or, if◌then◌else◌}
use Rattle.std.specs.List.{list_all}
use Rattle.mt_base.specs.Passes as known
use Rattle.mt_base.specs.declared.calls.Call.TheVariants as verbs
use Rattle.mt_c.specs.Prelude.{Call, Busy, Done, Tree, Worn, IsBusyOf, LacksCalls, WereMade}
use Rattle.mt_c.specs.declared.call_lists.OutCall.{OutCall}
use Rattle.mt_c.specs.declared.receipts.Receipts.{Receipts}
use Rattle.mt_c.specs.declared.user.User.{User}
use Rattle.mt_c.specs.declared.user_handle.UserHandle.{UserHandle}
use Rattle.mt_c.specs.Shared.{OnUser, done_outcome, done_status}
use Rattle.mt_c.specs.Users.{known_to, paused, user_tree}
use Rattle.mt_c.specs.Walkers.{TriedOnce}

-- ---- calls that C asks for

-- The call of a verb: a store of an entry over a range, one of its sisters, an erase at an index, a search of a window for
-- `size` free indexes, or the clearing of the tree. Any other verb means no call.
abbrev pub asked_call : OutCall → Option Call
asked_call c =
    if c.verb == 1 then Some (verbs.Store c.first c.last c.entry)
    else (if c.verb == 2 then Some (verbs.StorePre c.first c.last c.entry)
    else (if c.verb == 3 then Some (verbs.Insert c.first c.last c.entry)
    else (if c.verb == 4 then Some (verbs.Erase c.first)
    else (if c.verb == 5 then Some (verbs.Alloc c.size c.first c.last c.entry)
    else (if c.verb == 6 then Some (verbs.Ralloc c.size c.first c.last c.entry)
    else (if c.verb == 7 then Some (verbs.Gap c.size c.first c.last)
    else (if c.verb == 8 then Some (verbs.Rgap c.size c.first c.last)
    else (if c.verb == 9 then Some verbs.Clear
    else None))))))))

-- each of them has a verb that means a call
abbrev pub are_meant : List OutCall → Bool
are_meant calls = list_all (λ (c : OutCall). is_some (asked_call c)) calls

-- the call, if its verb means one; else a call that is never made
abbrev pub call_meant : OutCall → Call
call_meant c = unwrap_or (asked_call c) (verbs.Gap 0 0 0)

-- the call with its status and its results; its arguments are unchanged
abbrev pub told_call : OutCall → Done → OutCall
told_call c d = record c { status = done_status d; done = done_outcome d }

-- ---- their answers

-- The lock was found taken; or the tree may not have that many calls more; or all were made.
abbrev pub TriedEach : Type 0
TriedEach = Result (Result (Unit {0}) Worn) Busy

-- They were made one after another, and each has its own answer beside it; or none was made, and all are unchanged.
abbrev pub IsTriedEach : Tree → known.Pass → List OutCall → List OutCall → TriedEach → known.Pass → Type 0
IsTriedEach t p calls calls' (Ok (Ok all)) q = (n : ℕ) × WereMade call_meant told_call t n p calls calls' q
IsTriedEach t p calls calls' (Ok (Err w)) q = LacksCalls t p (length calls) w q × (calls' ≡ calls)
IsTriedEach t p calls calls' (Err busy) q = IsBusyOf t busy × (q ≡ p) × (calls' ≡ calls)

-- 0 if they were made, whatever each returned; else EOVERFLOW or EAGAIN
abbrev pub each_status : TriedEach → ℕ
each_status (Ok (Ok all)) = 0
each_status (Ok (Err w)) = 75
each_status (Err busy) = 11

-- if the lock was found taken, the user then has the receipt of that
abbrev pub when_each : TriedEach → Receipts → Receipts
when_each (Ok each) r = r
when_each (Err busy) r = record r { locked = Some busy }

-- A user has tried this, and went for the lock once. It keeps no walk, and makes no step at the purse.
abbrev pub HasTriedEach : List OutCall → List OutCall → ℕ → User → User → Type 0
HasTriedEach calls calls' status u v =
    (tried : TriedEach) × IsTriedEach (user_tree u) (paused u) calls calls' tried (known_to v) × TriedOnce u.walker v.walker × (v.walker.walk ≡ None) × (v.chair ≡ u.chair) × (v.receipts ≡ when_each tried u.receipts) × (status ≡ each_status tried)

-- If a verb means no call, that is EINVAL: none is made, the user is as it was, and all calls are unchanged.
abbrev pub TriesIf : Bool → List OutCall → List OutCall → ℕ → User → User → Type 0
TriesIf false calls calls' status u v = (v ≡ u) × (calls' ≡ calls) × (status ≡ 22)
TriesIf true calls calls' status u v = HasTriedEach calls calls' status u v

abbrev pub SharedTriedEach : List OutCall → List OutCall → UserHandle → UserHandle → ℕ → Type 0
SharedTriedEach calls calls' before after status = OnUser before after status (calls' ≡ calls) (TriesIf (are_meant calls) calls calls' status)
