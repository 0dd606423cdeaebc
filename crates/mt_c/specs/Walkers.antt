-- What a pass (handle) of a shared tree does on its walk and off it: reads without the lock, and calls that try for it.
-- Source: this project's own; the kernel's documentation of the maple tree, mas_find over a struct ma_state that the caller keeps.
use Rattle.std.specs.Prelude.{◌≡◌, ℕ, ◌+◌, ◌≤◌, ◌==◌, Bool, true, false, Option, Some, None, Result, Ok, Err}
use Rattle.mt_c.specs.Prelude.{Call, Query, Load, Range, Cursor, Moved, place_behind, find_at, WasLeftMarked, WasMoved, HasRead, Busy, part_of, turn_seat, Done, Read, Worn, Tree, IsForNeighbour, unbounded, Pass, Takes, pass_in, steps_made, opened, IsBusyOf, WasMade, HasWalked, entry_or_zero}
use Rattle.mt_base.specs.Passes as known
use Rattle.mt_rule.specs.Turns as turns
use Rattle.mt_c.specs.declared.walker.Walker.{Walker}
pub use Rattle.mt_c.specs.KeptWalks.{IsKeptWalk, last_index, walks_coded}

-- ---- what it knows

-- what a walker's handle knows
abbrev pub knows : Walker → known.Pass
knows w = pass_in w.pass

-- what a handle knows once the section of a walk is closed, if there is one
abbrev pub closed_by : Option Cursor → known.Pass → known.Pass
closed_by None p = p
closed_by (Some w) p = record p { standing = None }

-- what it knows when its walk is paused: each of its calls but a step pauses that first
abbrev pub halted : Walker → known.Pass
halted w = closed_by w.walk (knows w)

-- what it knows once no section of it is open, whichever was: a look at the whole tree closes that first
abbrev pub shut : Walker → known.Pass
shut w = record (knows w) { standing = None }

-- a handle knows what another does, whichever section is open
pub record KnowsAs (p q : known.Pass) : Type 0 where
  pub same : record p { standing = None } ≡ record q { standing = None }

-- ---- steps without the lock, and tries for it

-- how many steps it takes to pause a walk: one that closes its section, if there is one
abbrev pub pausing : Option Cursor → ℕ
pausing None = 0
pausing (Some w) = 1

-- Its handle has then made at most this many steps, beside the one that pauses its walk, and has not gone for the lock.
abbrev pub Took : ℕ → Walker → Pass → Type 0
Took most w q = Takes (pausing w.walk + most) w.pass q

-- It has gone for the lock once.
abbrev pub WentOnce : Walker → Walker → Type 0
WentOnce w w' = turn_seat w'.pass ≡ turn_seat (turns.tried w.pass)

-- It has gone for the lock once, and made no step but the one that pauses its walk.
pub record TriedOnce (w w' : Walker) : Type 0 where
  pub steps : steps_made w'.pass ≤ steps_made w.pass + pausing w.walk
  pub went : WentOnce w w'

-- It has gone for the lock once, and made at most one step beside that, which closes its section.
pub record TriedShut (w w' : Walker) : Type 0 where
  pub steps : steps_made w'.pass ≤ steps_made w.pass + 1
  pub went : WentOnce w w'

-- ---- reads

-- What a read returns: the answer of the map after some number of calls in its window. Or it was given up (retry), as only a
-- search for a neighbour is. The handle has opened one section, where the window begins, and closed it.
abbrev pub Answer : Type 0
Answer = Result (Read (Option Range)) Moved

abbrev pub IsWalkAnswer : Tree → known.Pass → Query → Answer → known.Pass → Type 0
IsWalkAnswer t p query (Ok r) q = ((k : ℕ) × known.Read (opened t) p r.lo r.hi k query r.value q) × HasRead r.lo r.hi p q
IsWalkAnswer t p query (Err m) q = WasMoved (opened t) p m.lo m.begun q × IsForNeighbour query × HasRead m.lo m.begun p q

-- The entry that an index holds was read, 0 for an index in a hole, in a section that was opened where the window begins, and
-- closed.
pub record IsEntry (t : Tree) (p : known.Pass) (index : ℕ) (r : Read ℕ) (q : known.Pass) : Type 0 where
  pub k : ℕ
  pub range : Option Range
  pub read : known.Read (opened t) p r.lo r.hi k (Load index) range q
  pub entry : r.value ≡ entry_or_zero range
  pub section : HasRead r.lo r.hi p q

-- When its walk was paused, it left a leaf of the query's index that it then found marked as dead.
pub record GaveUp (query : Query) (w w' : Walker) (m : Moved) : Type 0 where
  pub pass : Pass
  pub paused : pass_in pass ≡ halted w
  pub took : Took 0 w pass
  pub left : WasLeftMarked (unbounded (part_of pass).shape.kind query) m.lo m.begun (part_of pass) (part_of w'.pass)

-- Its walk was paused, and is forgotten.
abbrev pub IsPaused : Walker → Type 0
IsPaused w = w.walk ≡ None

-- It is on no walk, and has no section open.
abbrev pub IsOnNoWalk : Walker → Type 0
IsOnNoWalk w = IsPaused w × ((knows w).standing ≡ None)

-- ---- steps of a walk

-- It is on a walk, which is at this place.
abbrev pub IsOnAt : Option Cursor → Option ℕ → Type 0
IsOnAt None place = ⊥
IsOnAt (Some walk) place = walk.at ≡ place

-- A walk that has found a range is kept, and is after it; one that has found none is forgotten.
abbrev pub WalkGoesOn : Option Range → Walker → Type 0
WalkGoesOn (Some range) w = (walk : Cursor) × (w.walk ≡ Some walk) × (walk.at ≡ place_behind (Some range) last_index)
WalkGoesOn None w = IsOnNoWalk w

-- a walk from an index that has opened no section yet
abbrev pub new_walk : ℕ → Cursor
new_walk from = record { at = Some from; max = last_index; leaf = None; epoch = None }

-- a new walk is gone, when the one that was kept was paused
abbrev pub IsAnew : ℕ → Walker → Pass → Cursor → Type 0
IsAnew from w p walk = (pass_in p ≡ halted w) × Took 0 w p × (walk ≡ new_walk from)

-- whether a walk is at this index
abbrev pub walk_is_at : Option ℕ → ℕ → Bool
walk_is_at None from = false
walk_is_at (Some at) from = at == from

abbrev pub stands_at : Option Cursor → ℕ → Bool
stands_at None from = false
stands_at (Some walk) from = walk_is_at walk.at from

-- The walk that a step from an index continues, and its handle: the one that is kept, if it is there, with its leaf and its
-- section.
abbrev pub GoesFrom : Bool → ℕ → Walker → Pass → Cursor → Type 0
GoesFrom true from w p walk = (p ≡ w.pass) × (w.walk ≡ Some walk)
GoesFrom false from w p walk = IsAnew from w p walk

abbrev pub Continues : ℕ → Walker → Pass → Cursor → Type 0
Continues from w p walk = GoesFrom (stands_at w.walk from) from w p walk

-- Where it has found a range it is kept as it then is; where none, it is paused.
abbrev pub IsLeftBy : Option Range → Pass → Cursor → Walker → Type 0
IsLeftBy (Some range) p walk w = (w.pass ≡ p) × (w.walk ≡ Some walk)
IsLeftBy None p walk w = (knows w ≡ record (pass_in p) { standing = None }) × Takes 1 p w.pass × (w.walk ≡ None)

-- The handle made a read, in whichever section.
abbrev pub IsReadBy : Tree → known.Pass → Query → Read (Option Range) → known.Pass → Type 0
IsReadBy t p query r q = (k : ℕ) × known.Read (opened t) p r.lo r.hi k query r.value q

-- One step from an index: the find from there, by one step of the walk that is there, or of a new one. One more step closes the
-- section at the end of the walk.
pub record IsStep (t : Tree) (w : Walker) (from : ℕ) (r : Read (Option Range)) (w' : Walker) : Type 0 where
  pub read : IsReadBy t (knows w) (find_at (Some from) last_index) r (knows w')
  pub goes : WalkGoesOn r.value w'
  pub pass : Pass
  pub walk : Cursor
  pub begins : Continues from w pass walk
  pub pass' : Pass
  pub walk' : Cursor
  pub walked : HasWalked t pass walk r pass' walk'
  pub left : IsLeftBy r.value pass' walk' w'
  pub took : Took 221 w w'.pass

-- A step from a place. Where there is no place nothing is found, by a read.
abbrev pub StepsFrom : Tree → Walker → Option ℕ → Read (Option Range) → Walker → Type 0
StepsFrom t w None r w' = IsWalkAnswer t (knows w) (find_at None last_index) (Ok r) (knows w') × IsOnNoWalk w' × Took 175 w w'.pass
StepsFrom t w (Some from) r w' = IsStep t w from r w'

-- ---- calls

-- The result of a try: the lock was found taken; or the tree has had as many calls as it may have; or the call was made.
abbrev pub Tried : Type 0
Tried = Result (Result Done Worn) Busy

abbrev pub IsTried : Tree → known.Pass → Call → Tried → known.Pass → Type 0
IsTried t p call (Ok made) q = WasMade t p call made q
IsTried t p call (Err busy) q = IsBusyOf t busy × (q ≡ p)
