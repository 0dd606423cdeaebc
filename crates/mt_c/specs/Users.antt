-- What is said of a user of a shared tree: it has a pass (handle), which knows a beginning of the tree's one history.
-- Source: this project's own.
use Rattle.std.specs.Prelude.{◌≡◌, ◌+◌, ℕ, List, [], ◌∷◌, None, map, ◌++◌, Result, Ok, Err, length}
use Rattle.std.specs.Arc.{arc_value}
use Rattle.std.specs.List.{range_with_len}
use Rattle.mt_c.specs.Prelude.{Range, Given, cuts_of, Busy, Tree, Shape, HaveMet, opened, limit_of, passes_of, IsBusyOf}
use Rattle.mt_base.specs.Passes as known
use Rattle.mt_c.specs.declared.purse.Common.{Common}
use Rattle.mt_c.specs.declared.purse.Purse.{Purse}
use Rattle.mt_c.specs.declared.user.User.{User}
use Rattle.mt_c.specs.declared.user_acts.Settling.{Settling}
use Rattle.mt_c.specs.declared.user_acts.Settling.TheVariants as settling
use Rattle.mt_c.specs.declared.user_opens.Left.{Left}
use Rattle.mt_c.specs.declared.user_opens.Unchanged.{Unchanged}
use Rattle.mt_c.specs.declared.user_opens.Unchanged.TheVariants as unchanged
use Rattle.mt_c.specs.Purses.{IsPurseBusy, IsChairAtPurse, RestsInPurse, WasGiven, WasGivenBack, first_in, known_in}
use Rattle.mt_c.specs.Receipts.{no_receipts}
use Rattle.mt_c.specs.Walkers.{IsOnNoWalk, Took, WentOnce, halted, knows}
use Rattle.mt_c.specs.declared.walker.Walker.{Walker}

-- what the users of a tree own together
abbrev pub common_of : User → Common
common_of u = arc_value u.common

-- the tree of a user
abbrev pub user_tree : User → Tree
user_tree u = (common_of u).tree

-- what a user's handle knows
abbrev pub known_to : User → known.Pass
known_to u = knows u.walker

-- what it knows when its walk is paused: each of its calls but a step pauses that first
abbrev pub paused : User → known.Pass
paused u = halted u.walker

-- what it knows once it has no section open
abbrev pub rested : User → known.Pass
rested u = record (known_to u) { standing = None }

-- How many cuts its chair (token) at the purse is away from the first one. Only a step at the purse moves a chair further, so
-- this counts the steps of a user there. A call that leaves it leaves all handles but the user's own.
abbrev pub cuts : User → ℕ
cuts u = cuts_of u.chair

-- Nothing of a user has changed but its walker: it has made no step at the purse, and found nothing there or at the lock.
pub record OnlyWalks (u v : User) : Type 0 where
  pub common : common_of v ≡ common_of u
  pub chair : v.chair ≡ u.chair
  pub receipts : v.receipts ≡ u.receipts

-- ---- users that come and go

-- The first user of a tree of this shape that opens with this map. Its handle and those that the purse began with are all that
-- the tree has, and have seen nothing. Its chair is the first, so nobody has taken the purse. Nor has it found anything at the
-- lock or the purse.
pub record IsFirstUser (shape : Shape) (opening : List Range) (u : User) : Type 0 where
  pub tree : opened (user_tree u) ≡ record { kind = shape.kind; rows = shape.rows; opening = opening; records = [] }
  pub calls : limit_of (user_tree u) ≡ shape.calls
  pub users : passes_of (user_tree u) ≡ shape.passes
  pub passes : known_in (first_in (common_of u)) ++ known_to u ∷ [] ≡ map known.new_pass (range_with_len 0 shape.passes)
  pub chair : cuts u ≡ 0
  pub walk : u.walker.walk ≡ None
  pub none : u.receipts ≡ no_receipts

-- A user is as it was: its handle has done nothing, and its walk goes on.
pub record IsSame (u v : User) : Type 0 where
  pub common : common_of v ≡ common_of u
  pub walker : v.walker ≡ u.walker

-- The user was opened by one whose chair was this many cuts away from the first: by two steps at the purse, one to take it and
-- one to make a chair. It has the handle that was the last in the purse, and is at rest. The others were given back. It has
-- found nothing yet.
pub record IsOfPurse (c : Common) (before : ℕ) (u : User) (given : Given Purse Tree) : Type 0 where
  pub others : List known.Pass
  pub out : WasGiven c (before + 1) (others ++ known_to u ∷ []) others given
  pub chair : cuts u ≡ before + 2
  pub rests : IsOnNoWalk u.walker
  pub none : u.receipts ≡ no_receipts

-- A handle that knows this was put into the purse, after those that were there, by a seat this many cuts away from the first
-- chair. So is the chair that was left, which made no later step.
pub record HasLeft (c : Common) (cuts : ℕ) (p : known.Pass) (left : Left) : Type 0 where
  pub others : List known.Pass
  pub into : WasGiven c cuts others (others ++ p ∷ []) left.given
  pub seated : IsChairAtPurse c left.chair
  pub chair : cuts_of left.chair ≡ cuts

-- By a step of such a chair at the purse of this tree: another had it; or it was empty, or memory ran out, and who took it gave
-- it back as it was.
abbrev pub IsWhy : Common → ℕ → Unchanged → Type 0
IsWhy c before (unchanged.Busy busy) = IsPurseBusy c (before + 1) busy
IsWhy c before (unchanged.NoPlace given) = WasGiven c (before + 1) [] [] given
IsWhy c before (unchanged.NoMemory given) = WasGivenBack c (before + 1) given

-- who leaves needs no place
abbrev pub WantsNoPlace : Unchanged → Type 0
WantsNoPlace (unchanged.Busy busy) = Unit {0}
WantsNoPlace (unchanged.NoPlace given) = ⊥
WantsNoPlace (unchanged.NoMemory given) = Unit {0}

-- ---- under the lock

-- Under the lock the user has seen the whole history, of this many calls; or the lock was found taken.
abbrev pub IsSynced : Tree → known.Pass → Result ℕ Busy → known.Pass → Type 0
IsSynced t p (Ok calls) q = known.Saw (opened t) p q × (length q.seen ≡ calls)
IsSynced t p (Err busy) q = IsBusyOf t busy × (q ≡ p)

-- A user and all handles in the purse, this many, have met under the lock. Or the purse or the lock was found taken, and the
-- purse given back as it was. It made one step at the purse, by a chair this many cuts away from the first, and no handle of
-- the purse went for the lock.
abbrev pub IsSettledUser : Common → ℕ → known.Pass → Result (ℕ × ℕ × Given Purse Tree) Settling → known.Pass → Type 0
IsSettledUser c cut p (Ok r) q = (before : List known.Pass) × (after : List known.Pass) × HaveMet c.tree (p ∷ before) (q ∷ after) r.0 × (r.1 ≡ length after) × WasGiven c (cut + 1) before after r.2 × RestsInPurse r.2
IsSettledUser c cut p (Err (settling.Unpursed busy)) q = IsPurseBusy c (cut + 1) busy × (q ≡ p)
IsSettledUser c cut p (Err (settling.Locked busy given)) q = IsBusyOf c.tree busy × WasGivenBack c (cut + 1) given × RestsInPurse given × (q ≡ p)

-- The user itself went for the lock once, if it had the purse.
abbrev pub WentToSettle : Result (ℕ × ℕ × Given Purse Tree) Settling → Walker → Walker → Type 0
WentToSettle (Ok r) w w' = WentOnce w w'
WentToSettle (Err (settling.Unpursed busy)) w w' = Took 0 w w'.pass
WentToSettle (Err (settling.Locked busy given)) w w' = WentOnce w w'
