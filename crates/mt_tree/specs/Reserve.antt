-- The reserve of a tree that can always be emptied: nodes that are surely enough for all its ranges.
-- Source: this project's own; the kernel's trees take a node from memory whenever a call needs one.
use Rattle.std.specs.Prelude.{◌≡◌, ◌↔◌, ℕ, ◌+◌, ◌-◌, ◌<◌, ◌≤◌, ◌==◌, Bool, true, false, IsTrue, List, Option, Some, None, IfSome, length, nat_lt, if◌then◌else◌}
use Rattle.mt_base.specs.declared.calls.Call.TheVariants.{Store, StorePre, Insert, Erase, Alloc, Ralloc, Gap, Rgap, Clear}
use Rattle.mt_tree.specs.Prelude.{Call, Kind, Range, Reply, Parts, acted, map_by, over, is_refusal}
use Rattle.mt_tree.specs.RowsFor.{rows_for}
use Rattle.mt_tree.specs.declared.counts.Change.{Change}
use Rattle.mt_tree.specs.declared.reserve.ReserveVerdict.{ReserveVerdict}

-- how many ranges a tree has
abbrev pub range_count : Parts → ℕ
range_count t = length (map_by t.sheet.tree)

-- A tree has its reserve: its nodes are surely enough for all its ranges. Then no call of it lacks nodes while none is held.
abbrev pub HasReserve : Parts → Type 0
HasReserve t = rows_for (range_count t) ≤ t.sheet.tree.rows

-- How many ranges there may be after a call: those that it leaves. An insert and an allocation are taken to find their place.
abbrev pub ranges_after : Kind → List Range → Call → ℕ
ranges_after kind m (Store first last entry) = length (acted kind m (Store first last entry)).0
ranges_after kind m (StorePre first last entry) = length (acted kind m (StorePre first last entry)).0
ranges_after kind m (Insert first last entry) = length m + 1
ranges_after kind m (Erase index) = length (acted kind m (Erase index)).0
ranges_after kind m (Alloc size min max entry) = length m + 1
ranges_after kind m (Ralloc size min max entry) = length m + 1
ranges_after kind m (Gap size min max) = length m
ranges_after kind m (Rgap size min max) = length m
ranges_after kind m Clear = 0

-- how many there may be after a call of a tree
abbrev pub most_after : Parts → Call → ℕ
most_after t call = ranges_after t.kind (map_by t.sheet.tree) call

-- A call breaks the reserve: it may add ranges, and the nodes are not surely enough for those that there may be then.
pub record BreaksReserve (t : Parts) (call : Call) : Type 0 where
  pub adds : range_count t < most_after t call
  pub few : t.sheet.tree.rows < rows_for (most_after t call)

-- What is found before a call: whether it breaks the reserve, and how many ranges there are, and will be if it is made, where these
-- numbers are known.
pub record IsReserveVerdict (t : Parts) (call : Call) (v : ReserveVerdict) : Type 0 where
  pub breaks : IsTrue v.breaks ↔ BreaksReserve t call
  pub before : IfSome v.before (λ n. n ≡ range_count t)
  pub after : IfSome v.after (λ n. n ≡ length (acted t.kind (map_by t.sheet.tree) call).0)

-- ---- how many ranges a call adds

-- so many may be added by it, and at most three
abbrev pub IsGain : Parts → Call → ℕ → Type 0
IsGain t call gain = (gain ≡ most_after t call - range_count t) × (gain ≤ 3)

-- one, if the range that holds an index begins below it, or ends above it
abbrev pub part_before : ℕ → Option Range → ℕ
part_before index None = 0
part_before index (Some r) = if nat_lt r.first index then 1 else 0

abbrev pub part_behind : ℕ → Option Range → ℕ
part_behind index None = 0
part_behind index (Some r) = if nat_lt index r.last then 1 else 0

-- one, if the store is of an entry
abbrev pub part_own : ℕ → ℕ
part_own entry = if entry == 0 then 0 else 1

-- So many ranges are gone by a store, and so many are there in their place: its own, and a part on either side.
pub record IsChange (m : List Range) (first last entry : ℕ) (c : Change) : Type 0 where
  pub gone : c.gone ≤ length m
  pub kept : c.kept ≤ 3
  pub all : length (over m first last entry) + c.gone ≡ length m + c.kept

-- So many are gone by a call that is such a store, and so many are there in their place.
pub record TellsChange (t : Parts) (call : Call) (c : Change) : Type 0 where
  pub gone : c.gone ≤ range_count t
  pub kept : c.kept ≤ 3
  pub most : most_after t call ≡ length (acted t.kind (map_by t.sheet.tree) call).0
  pub all : length (acted t.kind (map_by t.sheet.tree) call).0 + c.gone ≡ range_count t + c.kept

-- ---- how their number is kept

-- Where it is known then it was known before, and has changed so.
abbrev pub IsCountBy : (ℕ → ℕ) → Option ℕ → Option ℕ → Type 0
IsCountBy change before None = Unit {0}
IsCountBy change None (Some n) = ⊥
IsCountBy change (Some k) (Some n) = n ≡ change k

-- after a call that changed what it was to change: it is not known of a store
abbrev pub IsCountDone : Option ℕ → Call → Option ℕ → Type 0
IsCountDone before (Store first last entry) after = after ≡ None
IsCountDone before (StorePre first last entry) after = after ≡ None
IsCountDone before (Insert first last entry) after = IsCountBy (λ k. k + 1) before after
IsCountDone before (Erase index) after = IsCountBy (λ k. k - 1) before after
IsCountDone before (Alloc size min max entry) after = IsCountBy (λ k. k + 1) before after
IsCountDone before (Ralloc size min max entry) after = IsCountBy (λ k. k + 1) before after
IsCountDone before (Gap size min max) after = after ≡ before
IsCountDone before (Rgap size min max) after = after ≡ before
IsCountDone before Clear after = after ≡ Some 0

-- after one of which the number is given, or not
abbrev pub IsCountGiven : Option ℕ → Option ℕ → Call → Option ℕ → Type 0
IsCountGiven None before call after = IsCountDone before call after
IsCountGiven (Some n) before call after = after ≡ Some n

-- after one that was refused, or not
abbrev pub IsCountIf : Bool → Option ℕ → Option ℕ → Call → Option ℕ → Type 0
IsCountIf true given before call after = after ≡ before
IsCountIf false given before call after = IsCountGiven given before call after

abbrev pub IsCountAfter : Option ℕ → Option ℕ → Call → Reply → Option ℕ → Type 0
IsCountAfter given before call reply after = IsCountIf (is_refusal reply) given before call after
