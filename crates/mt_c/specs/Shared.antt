-- What the calls of C on a shared tree say. Each user of it has a pass (handle), which knows a beginning of the tree's one
-- history.
-- Source: this project's own; EBADF, EAGAIN, EDOM, EOVERFLOW, EUSERS, EALREADY and EINPROGRESS are of the kernel's
-- include/uapi/asm-generic/errno-base.h and errno.h.
use Rattle.std.specs.Prelude.{◌≡◌, ◌≢◌, ◌⊎◌, ◌+◌, ℕ, [], Option, Some, None, Result, Ok, Err, nat_le, if◌then◌else◌, IfErr}
use Rattle.mt_c.specs.Prelude.{Range, Holder, Call, Kind, Query, kind_code, Given, Busy, Done, Field, Read, Shape, Tree, most_made, first_bad, Takes, place_behind}
use Rattle.mt_tree.specs.declared.shapes.Field.TheVariants as fields
use Rattle.mt_c.specs.declared.purse.Purse.{Purse}
use Rattle.mt_c.specs.declared.steps.OutWalk.{OutWalk}
use Rattle.mt_c.specs.declared.user.User.{User}
use Rattle.mt_c.specs.declared.user_handle.UserHandle.{UserHandle}
use Rattle.mt_c.specs.declared.told.OutRange.{OutRange}
use Rattle.mt_c.specs.declared.user_acts.Settling.{Settling}
use Rattle.mt_c.specs.declared.user_opens.Left.{Left}
use Rattle.mt_c.specs.declared.user_opens.Unchanged.{Unchanged}
use Rattle.mt_c.specs.declared.user_opens.Unchanged.TheVariants as unchanged
use Rattle.mt_c.specs.declared.shared_told.Outcome.{Outcome}
use Rattle.mt_c.specs.declared.shared_told.CallWindow.{CallWindow}
use Rattle.mt_c.specs.Calls.{found_status, no_range, out_of, range_in_c, shortage_of, status_of, word_in_c}
use Rattle.mt_c.specs.KeptWalks.{last_index}
use Rattle.mt_c.specs.Owned.{refusal, unopened}
use Rattle.mt_c.specs.Receipts.{when_given, when_settled, when_synced, when_tried, when_unchanged}
pub use Rattle.mt_c.specs.Users.{HasLeft, IsFirstUser, IsOfPurse, IsSame, IsSettledUser, IsSynced, IsWhy, OnlyWalks, WantsNoPlace, WentToSettle, common_of, cuts, known_to, paused, rested, user_tree}
use Rattle.mt_c.specs.Walkers.{Answer, GaveUp, IsEntry, IsWalkAnswer, IsOnNoWalk, StepsFrom, Took, Tried, IsTried, TriedOnce, WentOnce}
use Rattle.mt_c.specs.Walking.{walk_index, walk_from}

-- ---- users

-- A call on what C keeps. One that has a user still has it, and that is of the same tree and at the same purse.
abbrev pub OnKept : Option User → Option User → Type 0 → (User → User → Type 0) → Type 0
OnKept None after none says = none
OnKept (Some u) None none says = ⊥
OnKept (Some u) (Some v) none says = (common_of v ≡ common_of u) × says u v

-- One that has no user stays as it was, and the number says why: it is closed (EBADF), or a call works on its user (EDEADLK).
abbrev pub StaysAs : UserHandle → UserHandle → ℕ → Type 0
StaysAs before after status = (after ≡ before) × (status ≡ refusal after.state)

-- A call on what C keeps of a user. Without a user it stays as it was, with a blank beside.
abbrev pub OnUser : UserHandle → UserHandle → ℕ → Type 0 → (User → User → Type 0) → Type 0
OnUser before after status blank says = OnKept before.kept.value after.kept.value (StaysAs before after status × blank) says

-- A handle that keeps no user after an open is closed: no call works on a user of it.
pub record IsLeftClosed (h : UserHandle) : Type 0 where
  pub closed : h.kept.value ≡ None → h.state ≡ 0

-- An open of what C keeps of a user. One that is not closed stays as it was: it is open (EALREADY), or a call works on its user.
abbrev pub IfClosed : Option ℕ → UserHandle → UserHandle → ℕ → Type 0 → Type 0
IfClosed None before after status opens = IsLeftClosed after × opens
IfClosed (Some number) before after status opens = (after ≡ before) × (status ≡ number)

abbrev pub OnClosed : UserHandle → UserHandle → ℕ → Type 0 → Type 0
OnClosed before after status opens = IfClosed (unopened before.state) before after status opens

-- ---- reads

abbrev pub no_window : CallWindow
no_window = record { lo = 0; hi = 0; first = 0; last = 0; entry = 0 }

abbrev pub window : ℕ → ℕ → OutRange → CallWindow
window lo hi r = record { lo = lo; hi = hi; first = r.first; last = r.last; entry = r.entry }

-- what C gets of it: EAGAIN if it was given up (retry)
abbrev pub answer_status : Answer → ℕ
answer_status (Ok r) = found_status r.value
answer_status (Err m) = 11

abbrev pub window_of : Answer → CallWindow
window_of (Ok r) = window r.lo r.hi (out_of r.value)
window_of (Err m) = window m.lo m.begun no_range

-- A query of a user of a shared tree, which is then on no walk. It takes at most this many steps and does not go for the lock.
-- It is given up only for a leaf that was found marked as dead. It makes no step at the purse, and so leaves all other handles.
abbrev pub SharedAsked : Query → UserHandle → UserHandle → ℕ → CallWindow → Type 0
SharedAsked query before after status out =
    OnUser before after status (out ≡ no_window) (λ u v. (answer : Answer) × IsWalkAnswer (user_tree u) (known_to u) query answer (known_to v) × IsOnNoWalk v.walker × Took (most_made query) u.walker v.walker.pass × IfErr answer (GaveUp query u.walker v.walker) × OnlyWalks u v × (status ≡ answer_status answer) × (out ≡ window_of answer))

-- the walk that goes on after what was found
abbrev pub went_on : Option Range → OutWalk
went_on found = walk_from (place_behind found last_index)

-- The user has given up its walk: no section of it is open. Its handle has made one step for that, and has not gone for the
-- lock.
abbrev pub SharedPaused : UserHandle → UserHandle → ℕ → Type 0
SharedPaused before after status = OnUser before after status (Unit {0}) (λ u v. (known_to v ≡ rested u) × IsOnNoWalk v.walker × Takes 1 u.walker.pass v.walker.pass × OnlyWalks u v × (status ≡ 0))

-- A step of a walk of C's: it goes on after what was found, and the user keeps its place if a range was found. If the user is
-- closed, the walk is as it was.
abbrev pub SharedStepped : OutWalk → OutWalk → UserHandle → UserHandle → ℕ → CallWindow → Type 0
SharedStepped w w' before after status out =
    OnUser before after status ((out ≡ no_window) × (w' ≡ w)) (λ u v. (r : Read (Option Range)) × StepsFrom (user_tree u) u.walker (walk_index w) r v.walker × OnlyWalks u v × (status ≡ answer_status (Ok r)) × (out ≡ window_of (Ok r)) × (w' ≡ went_on r.value))

-- The user read how many calls had ended, and has seen those: 0 if they are as many as it was to learn, else EINPROGRESS.
abbrev pub SharedLearned : ℕ → UserHandle → UserHandle → ℕ → Type 0
SharedLearned calls before after status =
    OnUser before after status (Unit {0}) (λ u v. (r : Read ℕ) × IsEntry (user_tree u) (paused u) 0 r (known_to v) × IsOnNoWalk v.walker × Took 95 u.walker v.walker.pass × OnlyWalks u v × (status ≡ (if nat_le calls r.lo then 0 else 115)))

-- ---- calls

abbrev pub no_outcome : Outcome
no_outcome = record { call = 0; word = 0; first = 0; last = 0; entry = 0; need = 0; free = 0; live = 0; held = 0; by = 0; epoch = 0 }

-- the place of a user whose section holds nodes back, from 1, and how many calls had ended when that was opened; zeros of none
abbrev pub holder_place : Option Holder → ℕ
holder_place None = 0
holder_place (Some h) = h.pass + 1

abbrev pub epoch_of : Option Holder → ℕ
epoch_of None = 0
epoch_of (Some h) = h.epoch

-- the number of the call in the history, the one word of the reply, and its range; and what it says of nodes
abbrev pub done_outcome : Done → Outcome
done_outcome d =
    let r = range_in_c (Some d.reply) in
    let s = shortage_of d.reply in
    record { call = d.call; word = word_in_c (Some d.reply); first = r.first; last = r.last; entry = r.entry; need = s.need; free = s.free; live = s.live; held = s.held; by = holder_place s.by; epoch = epoch_of s.by }

abbrev pub done_status : Done → ℕ
done_status d = status_of (Some d.reply)

-- what C gets of a try: EAGAIN if the lock was found taken, EOVERFLOW if the tree is worn (its budget of calls is used up)
abbrev pub tried_status : Tried → ℕ
tried_status (Ok (Ok d)) = done_status d
tried_status (Ok (Err w)) = status_of None
tried_status (Err busy) = 11

abbrev pub outcome_of : Tried → Outcome
outcome_of (Ok (Ok d)) = done_outcome d
outcome_of (Ok (Err w)) = no_outcome
outcome_of (Err busy) = no_outcome

-- A call of a user, made under the tree's lock if that is free, for which it goes once. If the lock was found taken, the user
-- then has the receipt of that. It makes no step at the purse, so no other handle has made a call.
abbrev pub HasTried : Call → ℕ → Outcome → User → User → Type 0
HasTried call status out u v = (tried : Tried) × IsTried (user_tree u) (paused u) call tried (known_to v) × TriedOnce u.walker v.walker × (v.chair ≡ u.chair) × (v.receipts ≡ when_tried tried u.receipts) × (status ≡ tried_status tried) × (out ≡ outcome_of tried)

abbrev pub SharedTried : Call → UserHandle → UserHandle → ℕ → Outcome → Type 0
SharedTried call before after status out = OnUser before after status (out ≡ no_outcome) (HasTried call status out)

-- ---- users that come and go

-- An open of a shared tree: of a kind of this code, with this many nodes, for this many users, and for this many calls.
abbrev pub IsMeant : ℕ → ℕ → ℕ → ℕ → Shape → Type 0
IsMeant code rows passes calls shape = (kind_code shape.kind ≡ code) × (shape.rows ≡ rows) × (shape.passes ≡ passes) × (shape.calls ≡ calls)

abbrev pub IsShape : ℕ → ℕ → ℕ → ℕ → Shape → Type 0
IsShape code rows passes calls shape = IsMeant code rows passes calls shape × (first_bad shape ≡ None)

-- the number for a field that is out of range: EDOM, EUSERS or EOVERFLOW
abbrev pub field_status : Field → ℕ
field_status fields.Rows = 33
field_status fields.Passes = 87
field_status fields.Calls = 75

abbrev pub IsBadShape : Shape → ℕ → Type 0
IsBadShape shape status = (field : Field) × (first_bad shape ≡ Some field) × (status ≡ field_status field)

-- Why there is none: EINVAL if there is no such kind, the number of a field if that is out of range, and ENOMEM if memory ran
-- out for such a shape.
abbrev pub LacksShape : ℕ → ℕ → ℕ → ℕ → ℕ → Type 0
LacksShape code rows passes calls status =
    ((status ≡ 22) × ((kind : Kind) → kind_code kind ≢ code)) ⊎ (((shape : Shape) × IsMeant code rows passes calls shape × IsBadShape shape status) ⊎ ((status ≡ 12) × (shape : Shape) × IsShape code rows passes calls shape))

-- A closed one is opened so, or stays closed.
abbrev pub SharedNew : ℕ → ℕ → ℕ → ℕ → Option User → ℕ → Type 0
SharedNew code rows passes calls (Some u) status = (status ≡ 0) × (shape : Shape) × IsShape code rows passes calls shape × IsFirstUser shape [] u
SharedNew code rows passes calls None status = LacksShape code rows passes calls status

abbrev pub SharedOpened : ℕ → ℕ → ℕ → ℕ → UserHandle → UserHandle → ℕ → Type 0
SharedOpened code rows passes calls before after status = OnClosed before after status (SharedNew code rows passes calls after.kept.value status)

-- Why no user was opened, or none has left: another had the purse (EAGAIN), it was empty (EUSERS), or memory ran out (ENOMEM).
abbrev pub unchanged_status : Unchanged → ℕ
unchanged_status (unchanged.Busy busy) = 11
unchanged_status (unchanged.NoPlace given) = 87
unchanged_status (unchanged.NoMemory given) = 12

-- By this number no user was opened, and the user has what it found at the purse, by the one step that it made there.
abbrev pub IsUnchanged : User → User → ℕ → Type 0
IsUnchanged u v status = (why : Unchanged) × IsWhy (common_of u) (cuts u) why × (cuts v ≡ cuts u + 1) × (v.receipts ≡ when_unchanged why u.receipts) × (status ≡ unchanged_status why)

-- By this number it has not left: it has made one step at the purse.
abbrev pub HasStayed : User → User → ℕ → Type 0
HasStayed u v status = (why : Unchanged) × IsWhy (common_of u) (cuts u) why × WantsNoPlace why × (cuts v ≡ cuts u + 1) × (v.receipts ≡ when_unchanged why u.receipts) × (status ≡ unchanged_status why)

-- The user has taken the purse and given it back, and this is the one that was opened from it, with a chair of its own: two
-- steps.
abbrev pub HasShared : User → User → User → Type 0
HasShared u v w = (given : Given Purse Tree) × IsOfPurse (common_of u) (cuts u) w given × (cuts v ≡ cuts u + 2) × (v.receipts ≡ when_given given u.receipts)

-- One user is opened beside another, of the same tree, with a handle of its purse; or none is.
abbrev pub OpensBeside : User → User → Option User → ℕ → Type 0
OpensBeside u v (Some w) status = (status ≡ 0) × IsSame u v × (common_of w ≡ common_of u) × HasShared u v w
OpensBeside u v None status = IsSame u v × IsUnchanged u v status

-- Where the other is not closed the user is as it was.
abbrev pub OpensOther : Option ℕ → User → User → UserHandle → UserHandle → ℕ → Type 0
OpensOther None u v other other' status = IsLeftClosed other' × OpensBeside u v other'.kept.value status
OpensOther (Some number) u v other other' status = (v ≡ u) × (other' ≡ other) × (status ≡ number)

abbrev pub SharedKept : Option User → Option User → Type 0 → (User → User → Type 0) → Type 0
SharedKept None after none says = none
SharedKept (Some u) None none says = ⊥
SharedKept (Some u) (Some v) none says = says u v

abbrev pub SharedWith : UserHandle → UserHandle → UserHandle → UserHandle → ℕ → Type 0
SharedWith before after other other' status =
    SharedKept before.kept.value after.kept.value (StaysAs before after status × (other' ≡ other)) (λ u v. OpensOther (unopened other.state) u v other other' status)

-- A user has left its handle in the purse, with no section open, and is closed. Or it is open as it was, except that its walk
-- is paused.
abbrev pub LeftBy : Option User → Option User → Type 0 → ℕ → ℕ → Type 0
LeftBy None after none state status = none
LeftBy (Some u) None none state status = (status ≡ 0) × (state ≡ 0) × (left : Left) × HasLeft (common_of u) (cuts u + 1) (rested u) left
LeftBy (Some u) (Some v) none state status = (common_of v ≡ common_of u) × (known_to v ≡ paused u) × Took 0 u.walker v.walker.pass × HasStayed u v status

abbrev pub SharedLeft : UserHandle → UserHandle → ℕ → Type 0
SharedLeft before after status = LeftBy before.kept.value after.kept.value (StaysAs before after status) after.state status

-- A user is closed at once; one on which a call works stays as it was.
abbrev pub IsShut : Option User → UserHandle → UserHandle → Type 0
IsShut None before after = after ≡ before
IsShut (Some u) before after = (after.kept.value ≡ None) × (after.state ≡ 0)

abbrev pub SharedClosed : UserHandle → UserHandle → Type 0
SharedClosed before after = IsShut before.kept.value before after

abbrev pub synced_status : Result ℕ Busy → ℕ
synced_status (Ok calls) = 0
synced_status (Err busy) = 11

abbrev pub calls_in_c : Result ℕ Busy → ℕ
calls_in_c (Ok calls) = calls
calls_in_c (Err busy) = 0

abbrev pub HasSynced : ℕ → ℕ → User → User → Type 0
HasSynced status calls u v = (synced : Result ℕ Busy) × IsSynced (user_tree u) (paused u) synced (known_to v) × WentOnce u.walker v.walker × (v.chair ≡ u.chair) × (v.receipts ≡ when_synced synced u.receipts) × (status ≡ synced_status synced) × (calls ≡ calls_in_c synced)

abbrev pub SharedSynced : UserHandle → UserHandle → ℕ → ℕ → Type 0
SharedSynced before after status calls = OnUser before after status (calls ≡ 0) (HasSynced status calls)

abbrev pub SettleResult : Type 0
SettleResult = Result (ℕ × ℕ × Given Purse Tree) Settling

abbrev pub settled_status : SettleResult → ℕ
settled_status (Ok r) = 0
settled_status (Err why) = 11

abbrev pub settled_told : SettleResult → ℕ × ℕ
settled_told (Ok r) = (r.0, r.1)
settled_told (Err why) = (0, 0)

abbrev pub HasSettled : ℕ → ℕ → ℕ → User → User → Type 0
HasSettled status calls passes u v =
    (settled : SettleResult) × IsSettledUser (common_of u) (cuts u) (paused u) settled (known_to v) × WentToSettle settled u.walker v.walker × (cuts v ≡ cuts u + 1) × (v.receipts ≡ when_settled settled u.receipts) × (status ≡ settled_status settled) × (calls ≡ (settled_told settled).0) × (passes ≡ (settled_told settled).1)

abbrev pub SharedSettled : UserHandle → UserHandle → ℕ → ℕ → ℕ → Type 0
SharedSettled before after status calls passes = OnUser before after status ((calls ≡ 0) × (passes ≡ 0)) (HasSettled status calls passes)
