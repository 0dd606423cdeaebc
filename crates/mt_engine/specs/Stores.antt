-- What a store is and leaves whose nodes are at hand, so that it makes no scan.
-- Source: this project's own; the kernel's mas_store_prealloc stores with the nodes that mas_preallocate asked for.
use Rattle.std.specs.Prelude.{◌≡◌, Bool, true, false}
use Rattle.mt_engine.specs.Prelude.{Call, Store, StorePre, Insert, Erase, Alloc, Ralloc, Gap, Rgap, Clear, Kind, Reply, acted, Book, Sheet, MayFinish, map_by, finished}
use Rattle.mt_engine.specs.Engine.{IsEnded, TookRows, Replaces}
use Rattle.mt_engine.specs.Rooms.{HasRoom}
use Rattle.mt_engine.specs.declared.store_by.StoreBy.{StoreBy}
use Rattle.mt_engine.specs.declared.store_by.StoreBy.TheVariants.{NoWord, OneWord, NewRows}

-- enough nodes are free, where the call replaces some
abbrev pub HasRoomFor : Kind → Sheet → Book → Call → Type 0
HasRoomFor kind s book call = Replaces kind (map_by s.tree) call → HasRoom s.tree book

-- nothing was scanned
pub record IsUnscanned (s s' : Sheet) : Type 0 where
  pub scans : s'.scans ≡ s.scans
  pub scan : s'.scan ≡ s.scan

-- A call in flight has done what it says by a store, with no scan, and may end so. It took nodes only where it replaces some.
pub record IsDoneByStore (kind : Kind) (s s' : Sheet) (book book' : Book) (call : Call) (reply : Reply) : Type 0 where
  pub may : MayFinish kind s' call reply
  pub ended : IsEnded kind s (finished s' call reply) book' call reply
  pub acts : acted kind (map_by s.tree) call ≡ (map_by s'.tree, reply)
  pub unscanned : IsUnscanned s s'
  pub took : TookRows kind s book.free book' call

abbrev pub is_by_rows : StoreBy → Bool
is_by_rows NoWord = false
is_by_rows (OneWord at) = false
is_by_rows NewRows = true

-- `StorePre` asks for its nodes however it is carried out, any other store only if it is carried out by new nodes
abbrev pub wants_by : Call → StoreBy → Bool
wants_by (StorePre first last entry) by = true
wants_by (Store first last entry) by = is_by_rows by
wants_by (Insert first last entry) by = is_by_rows by
wants_by (Erase index) by = is_by_rows by
wants_by (Alloc size min max entry) by = is_by_rows by
wants_by (Ralloc size min max entry) by = is_by_rows by
wants_by (Gap size min max) by = is_by_rows by
wants_by (Rgap size min max) by = is_by_rows by
wants_by Clear by = is_by_rows by
