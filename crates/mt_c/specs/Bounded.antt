-- Steps of walks that look no further than an index.
-- Source: the kernel's documentation of the maple tree, mas_find, which looks no further than its max.
use Rattle.std.specs.Prelude.{◌≡◌, ℕ, Option, Some, None, Ok, nat_le, if◌then◌else◌}
use Rattle.mt_c.specs.Prelude.{Range, place_behind, Read, Tree, index_behind, up_to}
use Rattle.mt_c.specs.declared.shared_told.CallWindow.{CallWindow}
use Rattle.mt_c.specs.declared.steps.OutWalk.{OutWalk}
use Rattle.mt_c.specs.declared.told.OutRange.{OutRange}
use Rattle.mt_c.specs.declared.user.User.{User}
use Rattle.mt_c.specs.declared.user_handle.UserHandle.{UserHandle}
use Rattle.mt_c.specs.declared.walker.Walker.{Walker}
use Rattle.mt_c.specs.Calls.{found_status, no_range, out_of}
use Rattle.mt_c.specs.Own.{OwnTree}
use Rattle.mt_c.specs.Shared.{OnUser, OnlyWalks, answer_status, no_window, user_tree, window_of}
use Rattle.mt_c.specs.Walkers.{StepsFrom, knows}
use Rattle.mt_c.specs.Walking.{IsStepped, walk_index, last_index_of, walk_from}

-- the index, where it is max or below
abbrev pub place_to : ℕ → Option ℕ → Option ℕ
place_to max None = None
place_to max (Some index) = if nat_le index max then Some index else None

-- A step on what C keeps of a tree of one thread: the walk's next range, if it begins at max or below. The walk has ended if
-- the index after it is above max.
abbrev pub SteppedTo : ℕ → OutWalk → Option OwnTree → Option OwnTree → ℕ → OutRange → OutWalk → Type 0
SteppedTo max walk None after status out walk' = (after ≡ None) × (status ≡ 9) × (out ≡ no_range) × (walk' ≡ walk)
SteppedTo max walk (Some t) None status out walk' = ⊥
SteppedTo max walk (Some t) (Some t') status out walk' =
    (found : Option Range) × IsStepped t t' (place_to max (walk_index walk)) found × (status ≡ found_status (up_to max found)) × (out ≡ out_of (up_to max found)) × (walk' ≡ walk_from (place_to max (index_behind (last_index_of t) found)))

-- If the walk goes on, it is as the step left it; if it has ended, its handle has no section open.
abbrev pub IsLeftTo : Option ℕ → Walker → Walker → Type 0
IsLeftTo (Some at) v w = w ≡ v
IsLeftTo None v w = (knows w ≡ record (knows v) { standing = None }) × (w.walk ≡ None)

-- A step of a walk of a handle, of which a range that begins above max is not returned.
pub record StepsTo (t : Tree) (w : Walker) (max : ℕ) (place : Option ℕ) (r : Read (Option Range)) (w' : Walker) : Type 0 where
  pub found : Read (Option Range)
  pub there : Walker
  pub steps : StepsFrom t w place found there
  pub told : r ≡ record { lo = found.lo; hi = found.hi; value = up_to max found.value }
  pub left : IsLeftTo (place_behind r.value max) there w'

-- `SteppedTo` of a user of a shared tree. Where the user is closed the walk is as it was.
abbrev pub SharedSteppedTo : ℕ → OutWalk → OutWalk → UserHandle → UserHandle → ℕ → CallWindow → Type 0
SharedSteppedTo max w w' before after status out =
    OnUser before after status ((out ≡ no_window) × (w' ≡ w)) (λ u v. (r : Read (Option Range)) × StepsTo (user_tree u) u.walker max (place_to max (walk_index w)) r v.walker × OnlyWalks u v × (status ≡ answer_status (Ok r)) × (out ≡ window_of (Ok r)) × (w' ≡ walk_from (place_behind r.value max)))
