-- What each call (write) returns and does to a map, and what each query (read) returns.
-- Source: the kernel's documentation of the maple tree, its normal API; the refusals of reserved entries, and of 0 where room
-- is sought for an entry, are this project's.
use Rattle.std.specs.Prelude.{ℕ, Bool, true, false, not, ◌+◌, ◌-◌, List, [], Option, Some, None, ◌==◌, ◌||◌, ◌&&◌, nat_lt, nat_le, filter, if◌then◌else◌}
use Rattle.mt_base.specs.declared.ranges.Range.{Range}
use Rattle.mt_base.specs.declared.kinds.Kind.{Kind}
use Rattle.mt_base.specs.declared.kinds.Kind.TheVariants as kinds
use Rattle.mt_base.specs.declared.calls.Call.{Call}
use Rattle.mt_base.specs.declared.calls.Call.TheVariants.{Store, StorePre, Insert, Erase, Alloc, Ralloc, Gap, Rgap, Clear}
use Rattle.mt_base.specs.declared.calls.Query.{Query}
use Rattle.mt_base.specs.declared.calls.Query.TheVariants.{Load, Find, Next, Prev, Rfind}
use Rattle.mt_base.specs.declared.replies.Reply.{Reply}
use Rattle.mt_base.specs.declared.replies.Reply.TheVariants as reply
use Rattle.mt_base.specs.Entry.{reserved}
use Rattle.mt_base.specs.Width.{greatest_of}
use Rattle.mt_base.specs.Holes.{low, high}
use Rattle.mt_base.specs.Map.{over, holding, is_held, first_met, without, first_range, last_range}

-- invalid arguments of a call that stores: the range ends before it begins or above the greatest index, or the entry is
-- reserved
abbrev pub is_invalid : Kind → ℕ → ℕ → ℕ → Bool
is_invalid kind first last entry = nat_lt last first || (nat_lt (greatest_of kind) last || reserved entry)

-- what a store returns: the entry of the first range that it meets, or `Ok` if it meets none
abbrev pub replied : Option Range → Reply
replied None = reply.Ok
replied (Some r) = reply.Over r.entry

-- the map and the reply after an erase, given the range that holds the index
abbrev pub erased : List Range → ℕ → Option Range → List Range × Reply
erased m index None = (m, reply.None)
erased m index (Some r) = (without m index, reply.Was r)

-- whether the tree keeps gap words, by which its holes (gaps) are searched
abbrev pub finds_room : Kind → Bool
finds_room kinds.Range = false
finds_room kinds.Alloc = true
finds_room kinds.Range32 = false
finds_room kinds.Alloc32 = true

-- invalid arguments of a search for `size` indexes in a window: the tree does not search holes, or the size is 0, or the window
-- ends before it begins or above the greatest index, or has fewer indexes
abbrev pub is_no_area : Kind → ℕ → ℕ → ℕ → Bool
is_no_area kind size lo hi = not (finds_room kind) || (nat_lt hi lo || (nat_lt (greatest_of kind) hi || ((size == 0) || nat_lt (hi - lo) (size - 1))))

-- invalid arguments of a call that stores an entry where it finds room: those of the search, or a reserved entry, or 0
abbrev pub is_bad_area : Kind → ℕ → ℕ → ℕ → ℕ → Bool
is_bad_area kind size lo hi entry = is_no_area kind size lo hi || (reserved entry || (entry == 0))

-- the map and the reply after a store of `size` indexes at the start that a search found
abbrev pub placed : List Range → ℕ → ℕ → Option ℕ → List Range × Reply
placed m size entry None = (m, reply.Busy)
placed m size entry (Some start) = (over m start (start + size - 1) entry, reply.Start start)

-- what a search for room returns
abbrev pub found : Option ℕ → Reply
found None = reply.Busy
found (Some start) = reply.Start start

-- the map and the reply after a call on a tree of this kind
abbrev pub acted : Kind → List Range → Call → List Range × Reply
acted kind m (Store first last entry) = if is_invalid kind first last entry then (m, reply.Invalid) else (over m first last entry, replied (first_met m first last))
acted kind m (StorePre first last entry) = if is_invalid kind first last entry then (m, reply.Invalid) else (over m first last entry, replied (first_met m first last))
acted kind m (Insert first last entry) =
    if is_invalid kind first last entry || (entry == 0) then (m, reply.Invalid)
    else (if is_held m first last then (m, reply.Exists)
    else (over m first last entry, reply.Ok))
acted kind m (Erase index) = erased m index (holding m index)
acted kind m (Alloc size min max entry) = if is_bad_area kind size min max entry then (m, reply.Invalid) else placed m size entry (low kind m size min max)
acted kind m (Ralloc size min max entry) = if is_bad_area kind size min max entry then (m, reply.Invalid) else placed m size entry (high kind m size min max)
acted kind m (Gap size min max) = (m, if is_no_area kind size min max then reply.Invalid else found (low kind m size min max))
acted kind m (Rgap size min max) = (m, if is_no_area kind size min max then reply.Invalid else found (high kind m size min max))
acted kind m Clear = ([], reply.Ok)

-- the range that a query returns
abbrev pub answer : List Range → Query → Option Range
answer m (Load index) = holding m index
answer m (Find index max) = if nat_lt max index then None else first_range (filter (λ r. nat_le index r.last && nat_le r.first max) m)
answer m (Next index max) = first_range (filter (λ r. nat_lt index r.first && nat_le r.first max) m)
answer m (Prev index min) = last_range (filter (λ r. nat_lt r.last index && nat_le min r.last) m)
answer m (Rfind index min) = if nat_lt index min then None else last_range (filter (λ r. nat_le r.first index && nat_le min r.last) m)
