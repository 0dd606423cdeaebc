-- A tree of a log whose history was gone through, and why one cannot be.
-- Source: this project's own.
use Rattle.std.specs.Prelude.{◌≡◌, ◌⊎◌, ℕ, List, length, map}
use Rattle.std.specs.List.{range_with_len}
use Rattle.mt_verify.specs.Prelude.{Kind, Range, Contents, ToldLine, most_lanes}
use Rattle.mt_verify.specs.declared.calls.Numbered.{Numbered}
use Rattle.mt_verify.specs.declared.looks.ToldRead.{ToldRead}
use Rattle.mt_verify.specs.declared.noted.Noted.{Noted}
use Rattle.mt_verify.specs.Going.{AllLeast, AllStopped, AreAnswered, IsLastMap, Lane, SomeHasNone, looks_of}
use Rattle.mt_verify.specs.Hearing.{AreNotedOf, SomeMisheard}
use Rattle.mt_verify.specs.Histories.{map_of_noted}
use Rattle.mt_verify.specs.OwnLines.{lines_on, looks_by_lane, stops_told}
use Rattle.mt_verify.specs.Stops.{SomeMiscounted}
use Rattle.mt_verify.specs.ToldCalls.{AreCallsOf}

-- a tree: its kind, the map with which it opened, its calls, and the reads of each lane with their numbers
pub record GoneTree : Type 0 where
  pub kind : Kind
  pub opening : List Range
  pub noted : List Noted
  pub lanes : List Lane

-- the map after `k` calls of the tree
abbrev pub gone_map : GoneTree → ℕ → List Range
gone_map g k = map_of_noted g.kind g.opening g.noted k

-- the reads of each lane of a log on a tree, as the text reports them
abbrev pub lane_looks : ℕ → List ToldLine → List (List ToldRead)
lane_looks tree told = map (looks_by_lane (lines_on tree told)) (range_with_len 0 most_lanes)

-- The tree's calls are in the order of their numbers, and the maps before them answered them. The reads of each lane have the
-- least numbers that they can have. Each check and copy reports how many ranges the tree had.
pub record HasGone (version rows : ℕ) (told : List ToldLine) (tree : ℕ) (g : GoneTree) : Type 0 where
  pub calls : List Numbered
  pub are : AreCallsOf tree told calls
  pub heard : AreNotedOf told tree calls g.noted
  pub answered : AreAnswered g.kind version rows g.opening g.noted (length g.noted)
  pub looks : looks_of g.lanes ≡ lane_looks tree told
  pub least : AllLeast (gone_map g) g.lanes
  pub counted : AllStopped (gone_map g) (stops_told (lines_on tree told))

-- from this map on, with that one at its end
pub record IsGoneFrom (version rows : ℕ) (told : List ToldLine) (tree : ℕ) (from : Contents) (g : GoneTree)
    (to : Contents) : Type 0 where
  pub gone : HasGone version rows told tree g
  pub of_kind : g.kind ≡ from.kind
  pub opening : g.opening ≡ from.ranges
  pub last : IsLastMap g.kind g.opening g.noted to

-- What can be wrong with a tree of this kind that opens with this map. Its calls do not have the numbers from 1 on. A call is
-- reported as refused because nodes are short, and cannot be. The map before a call did not answer it so. The reads of some
-- lane can have no numbers. Or a check or a copy reports another number of ranges.
pub record IsHindered (version rows : ℕ) (told : List ToldLine) (tree : ℕ) (kind : Kind)
    (opening : List Range) : Type 0 where
  pub calls : List Numbered
  pub are : AreCallsOf tree told calls
  pub noted : List Noted
  pub heard : AreNotedOf told tree calls noted
  pub lanes : List Lane
  pub looks : looks_of lanes ≡ lane_looks tree told
  pub why : (AreAnswered kind version rows opening noted (length noted) → ⊥)
      ⊎ (SomeHasNone (map_of_noted kind opening noted) lanes
      ⊎ SomeMiscounted (map_of_noted kind opening noted) (stops_told (lines_on tree told)))

pub record AreMisheard (told : List ToldLine) (tree : ℕ) : Type 0 where
  pub calls : List Numbered
  pub are : AreCallsOf tree told calls
  pub some : SomeMisheard told tree calls

abbrev pub CannotGo : ℕ → ℕ → List ToldLine → ℕ → Kind → List Range → Type 0
CannotGo version rows told tree kind opening = ((list : List Numbered) → AreCallsOf tree told list → ⊥)
    ⊎ (AreMisheard told tree ⊎ IsHindered version rows told tree kind opening)
