-- Which place is sought of those that have room, and by which call.
-- Source: the kernel's lib/maple_tree.c, mas_empty_area, which finds the lowest, and mas_empty_area_rev, the highest.
use Rattle.std.specs.Prelude.{◌≡◌, ℕ, List, Option, IsNone, IfSome, option_map}
use Rattle.mt_engine.specs.Prelude.{Call, Alloc, Ralloc, Gap, Rgap, Range, PathStep, Sheet, greatest, low_to, high_to, map_by, OnlyReads, ReadsUpTo}
use Rattle.mt_gap.specs.declared.searches.SoughtArea.{SoughtArea}
use Rattle.mt_gap.specs.Ways.{IsAreaAt}
use Rattle.mt_engine.specs.declared.areas.Sought.{Sought}
use Rattle.mt_engine.specs.declared.areas.Sought.TheVariants.{Lowest, Highest}
use Rattle.mt_engine.specs.declared.areas.Wanted.{Wanted}
use Rattle.mt_engine.specs.Engine.{most_searched}

-- the start of `size` indexes in one hole up to an index and in a window; and in a tree of this kind
abbrev pub start_to : Sought → ℕ → List Range → ℕ → ℕ → ℕ → Option ℕ
start_to Lowest top m n lo hi = low_to top m n lo hi
start_to Highest top m n lo hi = high_to top m n lo hi

-- the call that stores an entry there
abbrev pub allocation : Sought → ℕ → ℕ → ℕ → ℕ → Call
allocation Lowest size min max entry = Alloc size min max entry
allocation Highest size min max entry = Ralloc size min max entry

-- the call that only searches for it
abbrev pub search : Sought → ℕ → ℕ → ℕ → Call
search Lowest size min max = Gap size min max
search Highest size min max = Rgap size min max

-- The place that is sought was found, with the path to it, or there is none. The tree was only read.
pub record FindsArea (s s' : Sheet) (sought : Sought) (wanted : Wanted) (path : List PathStep) (found : Option SoughtArea) : Type 0 where
  pub start : option_map (λ (area : SoughtArea). area.start) found ≡ start_to sought (greatest s.tree.table.width) (map_by s.tree) wanted.size wanted.min wanted.max
  pub way : IfSome found (λ area. IsAreaAt s.tree path area)
  pub rest : OnlyReads s s'
  pub reads : IsNone found → ReadsUpTo (most_searched s.tree) s s'
