-- What a scan and the freeing of held nodes leave, and what is reported if too few nodes are then free.
-- Source: this project's own; the kernel's mas_alloc_nodes asks for the nodes of a whole write at once.
use Rattle.std.specs.Prelude.{◌≡◌, ◌+◌, ◌*◌, ◌≤◌, length}
use Rattle.mt_engine.specs.Prelude.{Kind, Shortage, IsShort, Book, after_reclaim, height_in, Rooted, Sheet, IsScan, limits_of, scanned, IsRealShortage, map_by}
use Rattle.mt_engine.specs.Engine.{IsEngineState, TellsBook}

-- the nodes were scanned, with an answer that a scan may give, and those that no section holds are free
pub record IsScanned (kind : Kind) (s s' : Sheet) (book book' : Book) : Type 0 where
  pub rest : s' ≡ scanned s s'.scan s'.cleared
  pub answer : IsScan s.shared s.told s'.scan
  pub rises : s.cleared ≤ s'.cleared
  pub freed : book' ≡ after_reclaim book s'.scan.least
  pub state : IsEngineState kind s' book'

-- three nodes for each level, and one, are free
abbrev pub HasRoom : Rooted → Book → Type 0
HasRoom t book = 3 * height_in t.table t.root + 1 ≤ length book.free

-- they are not
pub record IsShortOf (s : Sheet) (book : Book) (shortage : Shortage) : Type 0 where
  pub short : IsShort (limits_of s) (map_by s.tree) shortage
  pub counted : IsRealShortage s shortage
  pub tells : TellsBook book shortage
