-- The purse (the pool of free handles) of a tree that users own together: who has a chair (token) at it, who has taken it, and
-- the receipts of finding it taken and of giving it back.
-- Source: this project's own; the kernel's spin_trylock.
use Rattle.std.specs.Prelude.{◌≡◌, ℕ, List, Option, map}
use Rattle.std.specs.declared.snapshot.Snapshot.{Snapshot}
use Rattle.atomic_table.specs.declared.badge.Badge.{Badge}
use Rattle.atomic_table.specs.declared.shared.Seat.{Seat}
use Rattle.mt_base.specs.Passes as known
use Rattle.mt_keep.specs.declared.keep.Busy.{Busy}
use Rattle.mt_c.specs.Prelude.{Given, Sight, turn_seat, Tree, pass_in}
use Rattle.mt_keep.specs.Keeping as keep
use Rattle.mt_c.specs.declared.purse.Common.{Common}
use Rattle.mt_c.specs.declared.purse.Purse.{Purse}

-- the chair (token) is at the purse
abbrev pub IsChairAtPurse : Common → Badge (Sight Purse Tree) → Type 0
IsChairAtPurse c chair = keep.IsSeatedAt c.purse.table.shared.table_id c.purse.table.shared.key chair

-- the seat has the purse, which was this when it took it
abbrev pub HasPurse : Common → Snapshot Purse → Seat (Option Purse) (Sight Purse Tree) → Type 0
HasPurse c took seat = keep.IsTakenOf c.purse.table.shared.table_id c.purse.table.shared.key took seat

-- the receipt of finding the purse taken, by a seat this many cuts from the first chair
abbrev pub IsPurseBusy : Common → ℕ → Busy Purse Tree → Type 0
IsPurseBusy c cuts busy = keep.IsBusyAt c.purse.table.shared.table_id c.purse.table.shared.key busy × (keep.cuts_of busy.seat ≡ cuts)

-- what the handles of a purse know
abbrev pub known_in : Purse → List known.Pass
known_in purse = map pass_in purse.passes.items

-- the handles that the purse began with
abbrev pub first_in : Common → Purse
first_in c = c.purse.table.shared.key.first.value

-- The receipt says that the purse was taken with handles that knew the one, and given back with handles that know the other, by
-- a seat this many cuts from the first chair.
pub record WasGiven (c : Common) (cuts : ℕ) (found left : List known.Pass) (given : Given Purse Tree) : Type 0 where
  pub at : keep.IsGivenAt c.purse.table.shared.table_id c.purse.table.shared.key given
  pub cut : keep.cuts_of given.seat ≡ cuts
  pub took : known_in given.took.value ≡ found
  pub gave : known_in given.gave.value ≡ left

-- It was given back as it was found.
abbrev pub WasGivenBack : Common → ℕ → Given Purse Tree → Type 0
WasGivenBack c cuts given = WasGiven c cuts (known_in given.took.value) (known_in given.took.value) given

-- No handle of the purse went for the tree's lock meanwhile.
abbrev pub RestsInPurse : Given Purse Tree → Type 0
RestsInPurse given = map turn_seat given.gave.value.passes.items ≡ map turn_seat given.took.value.passes.items
