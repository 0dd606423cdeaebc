-- Copies of shared trees, which open with the map that a tree has under its lock.
-- Source: this project's own; the kernel's lib/maple_tree.c, mtree_dup.
use Rattle.std.specs.Prelude.{◌≡◌, ◌⊎◌, ℕ, ◌<◌, ◌≤◌, List, Option, Some, None, Result, Ok, Err, Vec}
use Rattle.std.specs.Global.{Global}
use Rattle.mt_base.specs.Passes as known
use Rattle.mt_c.specs.Prelude.{Busy, DupError, Look, Shape, Tree, IsLookAt, first_bad, IsNew, Pass, Takes, live_rows, map_seen, opened, looked_words, IsBusyOf}
use Rattle.mt_tree.specs.declared.shapes.DupError.TheVariants as errors
use Rattle.mt_c.specs.declared.receipts.Receipts.{Receipts}
use Rattle.mt_c.specs.declared.user.User.{User}
use Rattle.mt_c.specs.declared.user_handle.UserHandle.{UserHandle}
use Rattle.mt_c.specs.declared.walker.Walker.{Walker}
use Rattle.mt_c.specs.Owned.{unopened}
use Rattle.mt_c.specs.Shared.{IsBadShape, IsLeftClosed, SharedKept, StaysAs}
use Rattle.mt_c.specs.SharedMaps.{IsFirstWith, shape_for}
use Rattle.mt_c.specs.Users.{common_of, known_to, user_tree}
use Rattle.mt_c.specs.Walkers.{IsOnNoWalk, TriedShut, knows, shut}

-- ---- under the lock

-- a new tree and its passes (handles), or why there is none
abbrev pub MadeOrWhy : Type 0
MadeOrWhy = Result (Tree × Vec Pass Global) DupError

-- The handle has not gone for the lock, and knows what it knew. Its section is closed.
abbrev pub KeptOff : Walker → Walker → Type 0
KeptOff w w' = Takes 1 w.pass w'.pass × (knows w' ≡ shut w)

-- It has gone for the lock once, and seen the whole history: the tree after that is what it looked at.
abbrev pub LookedOnce : Tree → Walker → Look → Walker → Type 0
LookedOnce t w look w' = TriedShut w w' × known.Saw (opened t) (shut w) (knows w') × IsLookAt t (knows w') look

-- It has gone for the lock once, and found it taken.
abbrev pub FoundIt : Tree → Walker → Busy → Walker → Type 0
FoundIt t w busy w' = TriedShut w w' × IsBusyOf t busy × (knows w' ≡ shut w)

-- Why no copy of this shape was begun: the first field that is out of range; or memory ran out for one that is in range.
abbrev pub IsUnmade : Shape → MadeOrWhy → Type 0
IsUnmade shape (Ok r) = ⊥
IsUnmade shape (Err (errors.BadShape field)) = first_bad shape ≡ Some field
IsUnmade shape (Err errors.Invalid) = ⊥
IsUnmade shape (Err (errors.NoNodes rows live)) = ⊥
IsUnmade shape (Err errors.NoMemory) = first_bad shape ≡ None

-- A tree of the shape was made with the map that the handle has then seen. Or its nodes are fewer than those in use in the words
-- that the lock protected; or memory ran out.
abbrev pub IsMadeBy : Shape → Tree → known.Pass → Look → MadeOrWhy → Type 0
IsMadeBy shape t q look (Ok r) = (live_rows (looked_words look) ≤ shape.rows) × IsNew shape (map_seen t q) r.0 r.1.items
IsMadeBy shape t q look (Err (errors.BadShape field)) = ⊥
IsMadeBy shape t q look (Err errors.Invalid) = ⊥
IsMadeBy shape t q look (Err (errors.NoNodes rows live)) = shape.rows < live_rows (looked_words look)
IsMadeBy shape t q look (Err errors.NoMemory) = Unit {0}

-- The handle looked for a copy of a shape that is in range, and this came of it.
pub record IsMadeLooking (shape : Shape) (t : Tree) (w : Walker) (look : Look) (made : MadeOrWhy) (w' : Walker) : Type 0 where
  pub looked : LookedOnce t w look w'
  pub good : first_bad shape ≡ None
  pub by : IsMadeBy shape t (knows w') look made

abbrev pub IsMadeIn : Shape → Tree → Walker → MadeOrWhy → Option Look → Walker → Type 0
IsMadeIn shape t w made None w' = KeptOff w w' × IsUnmade shape made
IsMadeIn shape t w made (Some look) w' = IsMadeLooking shape t w look made w'

-- A shape that is out of range does not find the lock taken.
abbrev pub IsTriedCopy : Shape → Tree → Walker → Result (MadeOrWhy × Option Look) Busy → Walker → Type 0
IsTriedCopy shape t w (Ok found) w' = IsMadeIn shape t w found.0 found.1 w'
IsTriedCopy shape t w (Err busy) w' = FoundIt t w busy w' × (first_bad shape ≡ None)

-- ---- what C keeps

-- the receipt of a look, if there was one
abbrev pub when_looked : Option Look → Receipts → Receipts
when_looked None r = r
when_looked (Some look) r = record r { looked = Some look }

-- the user has not gone for the lock
abbrev pub KeepsOff : User → User → Type 0
KeepsOff u v = KeptOff u.walker v.walker × (v.receipts ≡ u.receipts)

-- it has looked under the lock, by one try, and has the receipt
abbrev pub HasLooked : Look → User → User → Type 0
HasLooked look u v = LookedOnce (user_tree u) u.walker look v.walker × (v.receipts ≡ record u.receipts { looked = Some look })

-- it found the lock taken, by one try, and has what says so
abbrev pub FoundTaken : User → User → Type 0
FoundTaken u v = (busy : Busy) × FoundIt (user_tree u) u.walker busy v.walker × (v.receipts ≡ record u.receipts { locked = Some busy })

-- Why there is no copy of a shape that is in range: EAGAIN if the lock was found taken; EDOM if the nodes are fewer than those in
-- use in the words that the lock protected; or ENOMEM.
abbrev pub LacksCopy : Shape → ℕ → User → User → Type 0
LacksCopy shape status u v =
    ((status ≡ 11) × FoundTaken u v) ⊎ (((status ≡ 33) × (look : Look) × HasLooked look u v × (shape.rows < live_rows (looked_words look))) ⊎ ((status ≡ 12) × (KeepsOff u v ⊎ ((look : Look) × HasLooked look u v))))

-- the user has looked under the lock, and a tree of the shape was made with the map that it has then seen
abbrev pub HasMade : Shape → Tree → List Pass → User → User → Type 0
HasMade shape t ps u v = (look : Look) × HasLooked look u v × (first_bad shape ≡ None) × (live_rows (looked_words look) ≤ shape.rows) × IsNew shape (map_seen (user_tree u) (known_to v)) t ps

-- there is a copy: by what it has then seen the user opened this one, the first of a tree with that map
abbrev pub HasOpened : Shape → User → User → User → Type 0
HasOpened shape w u v = (look : Look) × HasLooked look u v × (live_rows (looked_words look) ≤ shape.rows) × IsFirstWith shape (map_seen (user_tree u) (known_to v)) w

-- A user has copied its tree, or says by a number why not. A shape that is out of range gives the number of its first such
-- field, and then the user has not gone for the lock.
abbrev pub HasCopied : Shape → Option User → ℕ → User → User → Type 0
HasCopied shape (Some w) status u v = (status ≡ 0) × HasOpened shape w u v
HasCopied shape None status u v = (IsBadShape shape status × KeepsOff u v) ⊎ ((first_bad shape ≡ None) × LacksCopy shape status u v)

-- An open of one user with a copy of the tree of another, which makes no step at the purse (the pool of free handles), and then has
-- no section open. Where the first is not closed all stay as they were.
abbrev pub CopiesTo : Option ℕ → Shape → User → User → UserHandle → UserHandle → ℕ → Type 0
CopiesTo None shape u v other other' status = IsLeftClosed other' × (common_of v ≡ common_of u) × (v.chair ≡ u.chair) × IsOnNoWalk v.walker × HasCopied shape other'.kept.value status u v
CopiesTo (Some number) shape u v other other' status = (v ≡ u) × (other' ≡ other) × (status ≡ number)

abbrev pub SharedCopied : ℕ → ℕ → ℕ → UserHandle → UserHandle → UserHandle → UserHandle → ℕ → Type 0
SharedCopied rows passes calls before after other other' status =
    SharedKept before.kept.value after.kept.value (StaysAs before after status × (other' ≡ other)) (λ u v. CopiesTo (unopened other.state) (shape_for (opened (user_tree u)).kind rows passes calls) u v other other' status)
