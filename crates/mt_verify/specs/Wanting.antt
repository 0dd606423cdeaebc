-- Whether a call needs nodes, as a test of the map before it.
-- Source: this project's own.
use Rattle.std.specs.Prelude.{ℕ, Bool, true, false, not, ◌==◌, ◌||◌, ◌&&◌, List, is_some, if◌then◌else◌}
use Rattle.mt_verify.specs.Prelude.{Range, Kind, Call, Store, StorePre, Insert, Erase, Alloc, Ralloc, Gap, Rgap, Clear, Reply, is_invalid, is_bad_area, low, high, holding, is_held, is_exactly}
use Rattle.mt_base.specs.declared.replies.Reply.TheVariants as replies

-- a store of a hole where a range is met, or of an entry over other indexes than just those of one range
abbrev pub store_wants : List Range → ℕ → ℕ → ℕ → Bool
store_wants m first last entry =
    if entry == 0 then is_held m first last else not (is_exactly first last (holding m first))

abbrev pub wants : Kind → List Range → Call → Bool
wants kind m (Store first last entry) = not (is_invalid kind first last entry) && store_wants m first last entry
wants kind m (StorePre first last entry) = not (is_invalid kind first last entry)
wants kind m (Insert first last entry) =
    not (is_invalid kind first last entry || (entry == 0)) && not (is_held m first last)
wants kind m (Erase index) = is_some (holding m index)
wants kind m (Alloc size min max entry) = not (is_bad_area kind size min max entry) && is_some (low kind m size min max)
wants kind m (Ralloc size min max entry) =
    not (is_bad_area kind size min max entry) && is_some (high kind m size min max)
wants kind m (Gap size min max) = false
wants kind m (Rgap size min max) = false
wants kind m Clear = false

-- a start was found
abbrev pub is_start : Reply → Bool
is_start (replies.Start start) = true
is_start reply = false
