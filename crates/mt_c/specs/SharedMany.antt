-- What the calls of C on a shared tree say that read an entry alone, many entries, or many ranges.
-- Source: this project's own; the kernel's readers ask for one index, or one range, at a time.
use Rattle.std.specs.Prelude.{◌≡◌, ◌+◌, ◌*◌, ℕ, List, [], ◌∷◌, ◌++◌, Option, Some, None, Ok, length, min, drop, map}
use Rattle.mt_c.specs.Prelude.{Range, Cursor, find_at, Pass, Takes, pass_in, Read, Tree}
use Rattle.mt_tree.specs.Many.{HasLoadedMany, HasWalkedMany}
use Rattle.mt_c.specs.declared.shared_many.OutWindow.{OutWindow}
use Rattle.mt_c.specs.declared.steps.OutWalk.{OutWalk}
use Rattle.mt_c.specs.declared.told.OutRange.{OutRange}
use Rattle.mt_c.specs.declared.user.User.{User}
use Rattle.mt_c.specs.declared.user_handle.UserHandle.{UserHandle}
use Rattle.mt_c.specs.declared.walker.Walker.{Walker}
use Rattle.mt_c.specs.Calls.{many_status, range_out}
use Rattle.mt_c.specs.KeptWalks.{last_index}
use Rattle.mt_c.specs.Shared.{OnKept, OnUser, OnlyWalks, known_to, paused, user_tree}
use Rattle.mt_c.specs.Walkers.{Continues, IsEntry, IsOnNoWalk, IsWalkAnswer, Took, knows}
use Rattle.mt_c.specs.Walking.{walk_from, walk_index}

-- ---- windows

abbrev pub no_times : OutWindow
no_times = record { lo = 0; hi = 0 }

abbrev pub times_of : Read ℕ → OutWindow
times_of r = record { lo = r.lo; hi = r.hi }

-- ---- an entry alone

-- A user that cannot be used gives no entry, and the window is zeros.
abbrev pub SharedEntry : ℕ → UserHandle → UserHandle → ℕ → OutWindow → Type 0
SharedEntry index before after entry out =
    OnKept before.kept.value after.kept.value ((after ≡ before) × (entry ≡ 0) × (out ≡ no_times)) (λ u v. (r : Read ℕ) × IsEntry (user_tree u) (paused u) index r (known_to v) × IsOnNoWalk v.walker × Took 95 u.walker v.walker.pass × OnlyWalks u v × (entry ≡ r.value) × (out ≡ times_of r))

-- ---- many entries

abbrev pub SharedLoadedMany : List ℕ → List ℕ → List ℕ → UserHandle → UserHandle → ℕ → OutWindow → Type 0
SharedLoadedMany indexes old new before after status out =
    OnUser before after status ((out ≡ no_times) × (new ≡ old)) (λ u v. (r : Read ℕ) × HasLoadedMany (user_tree u) (paused u) indexes old r new (known_to v) × IsOnNoWalk v.walker × Took (91 * r.value + 4) u.walker v.walker.pass × OnlyWalks u v × (status ≡ 0) × (out ≡ times_of r))

-- ---- many steps of a walk

-- one call finds at most this many ranges
abbrev pub most_found : ℕ
most_found = 32

-- The walk found ranges by one batch. They are in the first places of C's, whose others are unchanged.
pub record HasWalkedOut (t : Tree) (p : Pass) (w : Cursor) (old new : List OutRange) (r : Read ℕ) (q : Pass) (w' : Cursor) : Type 0 where
  pub found : List Range
  pub walked : HasWalkedMany t p w (min most_found (length old)) found r q w'
  pub put : new ≡ map range_out found ++ drop (length found) old

-- If the walk is at a place, it is kept as it is; if it has ended, it is paused.
abbrev pub IsLeftAt : Option ℕ → Pass → Cursor → Walker → Type 0
IsLeftAt (Some at) p walk w = (w.pass ≡ p) × (w.walk ≡ Some walk)
IsLeftAt None p walk w = (knows w ≡ record (pass_in p) { standing = None }) × Takes 1 p w.pass × (w.walk ≡ None)

-- The ranges from an index on, with room for `room`, found by one batch of the walk that is there, or of a new one.
pub record IsStepMany (t : Tree) (w : Walker) (from room : ℕ) (found : List Range) (r : Read ℕ) (at : Option ℕ) (w' : Walker) : Type 0 where
  pub pass : Pass
  pub walk : Cursor
  pub begins : Continues from w pass walk
  pub pass' : Pass
  pub walk' : Cursor
  pub walked : HasWalkedMany t pass walk room found r pass' walk'
  pub at_is : at ≡ walk'.at
  pub left : IsLeftAt at pass' walk' w'
  pub took : Took (198 * room + 4) w w'.pass

-- If there is no place, nothing is found, by a read.
abbrev pub StepsMany : Tree → Walker → Option ℕ → ℕ → List Range → Read ℕ → Option ℕ → Walker → Type 0
StepsMany t w None room found r at w' =
    IsWalkAnswer t (knows w) (find_at None last_index) (Ok (record { lo = r.lo; hi = r.hi; value = None })) (knows w') × IsOnNoWalk w' × Took 175 w w'.pass × (found ≡ []) × (r.value ≡ 0) × (at ≡ None)
StepsMany t w (Some from) room found r at w' = IsStepMany t w from room found r at w'

-- where a walk goes on; no walk, no place
abbrev pub cursor_place : Option Cursor → Option ℕ
cursor_place None = None
cursor_place (Some walk) = walk.at

-- The ranges that were found are in the first places of C's, whose others are unchanged.
abbrev pub PutsMany : Tree → Walker → Option ℕ → List OutRange → List OutRange → Read ℕ → Option ℕ → Walker → Type 0
PutsMany t w place old new r at w' = (found : List Range) × StepsMany t w place (min most_found (length old)) found r at w' × (r.value ≡ length found) × (new ≡ map range_out found ++ drop (length found) old)

-- A batch of steps of a walk of C's, which goes on after what was found.
abbrev pub SharedSteppedMany : OutWalk → OutWalk → List OutRange → List OutRange → UserHandle → UserHandle → ℕ → ℕ → OutWindow → Type 0
SharedSteppedMany w w' old new before after status count out =
    OnUser before after status ((out ≡ no_times) × (count ≡ 0) × (new ≡ old) × (w' ≡ w))
    (λ u v. (r : Read ℕ) × (at : Option ℕ) × PutsMany (user_tree u) u.walker (walk_index w) old new r at v.walker × OnlyWalks u v × (count ≡ r.value) × (status ≡ many_status r.value at) × (out ≡ times_of r) × (w' ≡ walk_from at))
