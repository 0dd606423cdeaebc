-- What a store leaves for which nodes were found free beforehand.
-- Source: the kernel's documentation of the maple tree, mas_preallocate and mas_store_prealloc.
use Rattle.std.specs.Prelude.{◌≡◌, true}
use Rattle.mt_engine.specs.Prelude.{Call, Kind, Reply, acted, Book, Sheet, map_by}
use Rattle.mt_engine.specs.Engine.{IsEnded, TookRows, is_refusal}

-- The store did what it says, and one that is refused as invalid left every word. It made no scan, so that no held node is free
-- by it; of the free nodes it took few, and none where it replaces none.
pub record IsPrestored (kind : Kind) (s s' : Sheet) (book book' : Book) (call : Call) (reply : Reply) : Type 0 where
  pub ended : IsEnded kind s s' book' call reply
  pub acts : acted kind (map_by s.tree) call ≡ (map_by s'.tree, reply)
  pub kept : is_refusal reply ≡ true → s'.tree ≡ s.tree
  pub scans : s'.scans ≡ 0
  pub scan : s'.scan ≡ s.scan
  pub took : TookRows kind s book.free book' call
