-- Maps whose numbers are of 64 bits, as calls of 64 bits leave them.
use Rattle.mt_verify.proofs.Prelude.{ℕ, zero, suc, ◌+◌, ◌<◌, ◌≤◌, ◌^◌, ◌==◌, ◌||◌, ◌&&◌, nat_lt, nat_le, if◌then◌else◌, Bool, true, false, List, [], ◌∷◌, ◌++◌, Option, Some, None, map, fold, take, filter, find, slice_get, arith, cond_both, AllByRecursion, Kind, Range, Call, Store, StorePre, Insert, Erase, Alloc, Ralloc, Gap, Rgap, Clear, Query, Load, Find, Next, Prev, Rfind, Reply, NoNodes, acted, answer, erased, placed, is_invalid, is_bad_area, Record, History, map_after, map_at, map_by_reply, low, high, IsMap, IsMapFrom, cut_below, cut_above, first_range, last_range, holding, holds, is_held, over, part_stored, parts_above, parts_below, greatest_of, kind_width, acted_is_map, greatest_fits, IsSmallRange}

-- the entry of a call is of 64 bits
abbrev pub EntryFits : Call → Type 0
EntryFits (Store first last entry) = entry < 2 ^ 64
EntryFits (StorePre first last entry) = entry < 2 ^ 64
EntryFits (Insert first last entry) = entry < 2 ^ 64
EntryFits (Erase index) = Unit {0}
EntryFits (Alloc size min max entry) = entry < 2 ^ 64
EntryFits (Ralloc size min max entry) = entry < 2 ^ 64
EntryFits (Gap size min max) = Unit {0}
EntryFits (Rgap size min max) = Unit {0}
EntryFits Clear = Unit {0}

abbrev EntriesFit : List Range → Type 0
EntriesFit m = AllByRecursion (λ (r : Range). r.entry < 2 ^ 64) m

-- ---- what calls leave

entries_append : (m n : List Range) → EntriesFit m → EntriesFit n → EntriesFit (m ++ n)
entries_append [] n first rest = rest
entries_append (r ∷ m) n first rest = (first.0, entries_append m n first.1 rest)

entries_filter : (test : Range → Bool) (m : List Range) → EntriesFit m → EntriesFit (filter test m)
entries_filter test [] fit = tt
entries_filter test (r ∷ m) fit = cond_both (test r) (r ∷ filter test m) (filter test m) EntriesFit (λ yes. (fit.0, entries_filter test m fit.1)) (λ not. entries_filter test m fit.1)

entries_below : (first : ℕ) (m : List Range) → EntriesFit m → EntriesFit (map (cut_below first) m)
entries_below first [] fit = tt
entries_below first (r ∷ m) fit = (fit.0, entries_below first m fit.1)

entries_above : (last : ℕ) (m : List Range) → EntriesFit m → EntriesFit (map (cut_above last) m)
entries_above last [] fit = tt
entries_above last (r ∷ m) fit = (fit.0, entries_above last m fit.1)

entries_over : (m : List Range) (first last entry : ℕ) → entry < 2 ^ 64 → EntriesFit m → EntriesFit (over m first last entry)
entries_over m first last entry small fit =
    entries_append (parts_below m first) (part_stored first last entry ++ parts_above m last) (entries_below first _ (entries_filter _ m fit))
    (entries_append (part_stored first last entry) (parts_above m last) (cond_both (entry == 0) [] (record { first = first; last = last; entry = entry } ∷ []) EntriesFit (λ none. tt) (λ some. (small, tt))) (entries_above last _ (entries_filter _ m fit)))

entries_erased : (m : List Range) (index : ℕ) (held : Option Range) → EntriesFit m → EntriesFit (erased m index held).0
entries_erased m index None fit = fit
entries_erased m index (Some r) fit = entries_filter _ m fit

entries_placed : (m : List Range) (size entry : ℕ) (start : Option ℕ) → entry < 2 ^ 64 → EntriesFit m → EntriesFit (placed m size entry start).0
entries_placed m size entry None small fit = fit
entries_placed m size entry (Some start) small fit = entries_over m start _ entry small fit

entries_acted : (kind : Kind) (m : List Range) (call : Call) → EntryFits call → EntriesFit m → EntriesFit (acted kind m call).0
entries_acted kind m (Store first last entry) small fit = cond_both (is_invalid kind first last entry) _ _ (λ (after : List Range × Reply). EntriesFit after.0) (λ invalid. fit) (λ valid. entries_over m first last entry small fit)
entries_acted kind m (StorePre first last entry) small fit = cond_both (is_invalid kind first last entry) _ _ (λ (after : List Range × Reply). EntriesFit after.0) (λ invalid. fit) (λ valid. entries_over m first last entry small fit)
entries_acted kind m (Insert first last entry) small fit =
    cond_both (is_invalid kind first last entry || (entry == 0)) _ _ (λ (after : List Range × Reply). EntriesFit after.0) (λ invalid. fit)
    (λ valid. cond_both (is_held m first last) _ _ (λ (after : List Range × Reply). EntriesFit after.0) (λ held. fit) (λ free. entries_over m first last entry small fit))
entries_acted kind m (Erase index) small fit = entries_erased m index (holding m index) fit
entries_acted kind m (Alloc size min max entry) small fit = cond_both (is_bad_area kind size min max entry) _ _ (λ (after : List Range × Reply). EntriesFit after.0) (λ bad. fit) (λ good. entries_placed m size entry (low kind m size min max) small fit)
entries_acted kind m (Ralloc size min max entry) small fit = cond_both (is_bad_area kind size min max entry) _ _ (λ (after : List Range × Reply). EntriesFit after.0) (λ bad. fit) (λ good. entries_placed m size entry (high kind m size min max) small fit)
entries_acted kind m (Gap size min max) small fit = fit
entries_acted kind m (Rgap size min max) small fit = fit
entries_acted kind m Clear small fit = tt

-- ---- a history's maps

-- a map of a tree of this kind, with entries of 64 bits
pub record IsSmallMap (kind : Kind) (m : List Range) : Type 0 where
  pub ordered : IsMap kind m
  pub entries : AllByRecursion (λ (r : Range). r.entry < 2 ^ 64) m

pub nothing_is_small : (kind : Kind) → IsSmallMap kind []
nothing_is_small kind = record { ordered = record { rise = tt; within = tt }; entries = tt }

by_reply : (kind : Kind) (reply : Reply) (before after : List Range) → IsSmallMap kind before → IsSmallMap kind after → IsSmallMap kind (map_by_reply reply before after)
by_reply kind (NoNodes shortage) before after old new = old
by_reply kind _ before after old new = new

pub fold_is_small : (kind : Kind) (m : List Range) (records : List Record) → AllByRecursion (λ (r : Record). EntryFits r.call) records → IsSmallMap kind m → IsSmallMap kind (fold (map_after kind) m records)
fold_is_small kind m [] fit small = small
fold_is_small kind m (r ∷ records) fit small =
    fold_is_small kind (map_after kind m r) records fit.1
    (by_reply kind r.reply m (acted kind m r.call).0 small (record { ordered = acted_is_map kind m r.call small.ordered; entries = entries_acted kind m r.call fit.0 small.entries }))

first_fit : (k : ℕ) (records : List Record) → AllByRecursion (λ (r : Record). EntryFits r.call) records → AllByRecursion (λ (r : Record). EntryFits r.call) (take k records)
first_fit zero records fit = tt
first_fit (suc k) [] fit = tt
first_fit (suc k) (r ∷ records) fit = (fit.0, first_fit k records fit.1)

pub map_at_is_small : (h : History) (k : ℕ) → AllByRecursion (λ (r : Record). EntryFits r.call) h.records → IsSmallMap h.kind h.opening → IsSmallMap h.kind (map_at h k)
map_at_is_small h k fit small = fold_is_small h.kind h.opening (take k h.records) (first_fit k h.records fit) small

-- ---- what queries are answered

abbrev Small : Range → Type 0
Small r = (r.first < 2 ^ 64) × (r.last < 2 ^ 64) × (r.entry < 2 ^ 64)

ranges_small : (top low : ℕ) (m : List Range) → top < 2 ^ 64 → IsMapFrom low m → AllByRecursion (λ (r : Range). r.last ≤ top) m → EntriesFit m → AllByRecursion Small m
ranges_small top low [] fits rise within entries = tt
ranges_small top low (r ∷ m) fits rise within entries =
    ((omega (arith, fits, rise.1, within.0), omega (arith, fits, within.0), entries.0), ranges_small top (r.last + 1) m fits rise.3 within.1 entries.1)

small_filter : (test : Range → Bool) (m : List Range) → AllByRecursion Small m → AllByRecursion Small (filter test m)
small_filter test [] small = tt
small_filter test (r ∷ m) small = cond_both (test r) (r ∷ filter test m) (filter test m) (AllByRecursion Small) (λ yes. (small.0, small_filter test m small.1)) (λ not. small_filter test m small.1)

small_get : (m : List Range) (i : ℕ) → AllByRecursion Small m → IsSmallRange (slice_get m i)
small_get [] i small = tt
small_get (r ∷ m) zero small = small.0
small_get (r ∷ m) (suc i) small = small_get m i small.1

small_find : (test : Range → Bool) (m : List Range) → AllByRecursion Small m → IsSmallRange (find test m)
small_find test [] small = tt
small_find test (r ∷ m) small = cond_both (test r) (Some r) (find test m) IsSmallRange (λ yes. small.0) (λ not. small_find test m small.1)

small_first : (b : Bool) (test : Range → Bool) (m : List Range) → AllByRecursion Small m → IsSmallRange (if b then None else first_range (filter test m))
small_first true test m small = tt
small_first false test m small = small_get (filter test m) 0 (small_filter test m small)

small_last : (b : Bool) (test : Range → Bool) (m : List Range) → AllByRecursion Small m → IsSmallRange (if b then None else last_range (filter test m))
small_last true test m small = tt
small_last false test m small = small_get (filter test m) _ (small_filter test m small)

small_answer : (m : List Range) (query : Query) → AllByRecursion Small m → IsSmallRange (answer m query)
small_answer m (Load index) small = small_find (holds index) m small
small_answer m (Find index max) small = small_first (nat_lt max index) (λ r. nat_le index r.last && nat_le r.first max) m small
small_answer m (Next index max) small = small_first false (λ r. nat_lt index r.first && nat_le r.first max) m small
small_answer m (Prev index min) small = small_last false (λ r. nat_lt r.last index && nat_le min r.last) m small
small_answer m (Rfind index min) small = small_last (nat_lt index min) (λ r. nat_le r.first index && nat_le min r.last) m small

pub answer_is_small : (kind : Kind) (m : List Range) (query : Query) → IsSmallMap kind m → IsSmallRange (answer m query)
answer_is_small kind m query small = small_answer m query (ranges_small (greatest_of kind) 0 m (greatest_fits (kind_width kind)) small.ordered.rise small.ordered.within small.entries)
