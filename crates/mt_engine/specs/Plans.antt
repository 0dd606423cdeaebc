-- What a call does to a tree: nothing, a store, or the end of all ranges.
-- Source: the kernel's documentation of the maple tree; an erase is a store of no entry over the range.
use Rattle.std.specs.Prelude.{◌≡◌, ◌≢◌, ◌≤◌, ◌||◌, ◌==◌, not, ℕ, Bool, false, List, Option, Some, None, nat_lt}
use Rattle.mt_engine.specs.Prelude.{Call, Store, StorePre, Insert, Erase, Alloc, Ralloc, Gap, Rgap, Clear, Kind, Range, Reply, acted, first_met, is_held, Wants, greatest, Rooted, Sheet, RoseUpTo, map_by, Handle, PathStep, path_in, IsStoreBy}
use Rattle.mt_engine.specs.Engine.{is_refusal, OnlySearches, most_searched}
use Rattle.mt_engine.specs.Here.{IsHereAt}
use Rattle.mt_engine.specs.StoreBy.{IsWriteAt}
use Rattle.mt_engine.specs.declared.plans.Plan.{Plan}
use Rattle.mt_engine.specs.declared.plans.Plan.TheVariants as plans
use Rattle.mt_engine.specs.declared.store_by.Write.{Write}

-- an entry is stored where no range holds an index
pub record IsPlacing (m : List Range) (own first last entry : ℕ) : Type 0 where
  pub entry_is : own ≡ entry
  pub some : entry ≢ 0
  pub free : is_held m first last ≡ false

-- the store is the call's own, or makes a hole of the range that the call erases, or fills a place that was found
abbrev pub IsStoreOf : List Range → Call → ℕ → ℕ → ℕ → Type 0
IsStoreOf m (Store f l e) first last entry = (f ≡ first) × (l ≡ last) × (e ≡ entry)
IsStoreOf m (StorePre f l e) first last entry = (f ≡ first) × (l ≡ last) × (e ≡ entry)
IsStoreOf m (Insert f l e) first last entry = (f ≡ first) × (l ≡ last) × (e ≡ entry)
IsStoreOf m (Erase index) first last entry = entry ≡ 0
IsStoreOf m (Alloc size min max e) first last entry = IsPlacing m e first last entry
IsStoreOf m (Ralloc size min max e) first last entry = IsPlacing m e first last entry
IsStoreOf m (Gap size min max) first last entry = ⊥
IsStoreOf m (Rgap size min max) first last entry = ⊥
IsStoreOf m Clear first last entry = ⊥

-- The call is done by this store, which can be carried out so; the path leads to its first index.
pub record IsStorePlan (kind : Kind) (t : Rooted) (call : Call) (path : List PathStep) (write : Write) (reply : Reply) : Type 0 where
  pub store : IsStoreBy kind (greatest t.table.width) (map_by t) call reply write.edit.first write.edit.last write.edit.entry
  pub own : IsStoreOf (map_by t) call write.edit.first write.edit.last write.edit.entry
  pub success : is_refusal reply ≡ false
  pub way : path ≡ path_in t.table t.root write.edit.first
  pub by : IsWriteAt t write

abbrev pub IsPlan : Kind → Rooted → Call → List PathStep → Plan → Type 0
IsPlan kind t call path (plans.Nothing reply) = (acted kind (map_by t) call ≡ (map_by t, reply)) × (Wants kind (map_by t) call → ⊥)
IsPlan kind t call path (plans.Store write reply) = IsStorePlan kind t call path write reply
IsPlan kind t call path plans.Empty = (call ≡ Clear) × (t.root ≢ 0)

-- a call that changes nothing and only searched has loaded few words
abbrev pub IsSearched : Sheet → Sheet → Call → Plan → Type 0
IsSearched s s' call (plans.Nothing reply) = OnlySearches call reply → RoseUpTo (most_searched s.tree) s.reads s'.reads
IsSearched s s' call (plans.Store write reply) = Unit {0}
IsSearched s s' call plans.Empty = Unit {0}

-- the range is the first that a store meets which begins at an index of the slot and ends at `last`
abbrev pub IsMet : Rooted → Option Handle → ℕ → Option Range → Type 0
IsMet t here last met = (first : ℕ) → first ≤ last → last ≤ greatest t.table.width → IsHereAt t first here → met ≡ first_met (map_by t) first last

-- A range holds an index from that of a slot up to `last`: it is in the slot, or right after a hole there that ends before
-- `last`.
abbrev pub is_range_met : Option Handle → ℕ → Bool
is_range_met None last = false
is_range_met (Some handle) last = not (handle.span.word == 0) || nat_lt handle.span.last last
