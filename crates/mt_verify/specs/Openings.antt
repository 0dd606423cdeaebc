-- The map with which a tree opens.
-- Source: this project's own.
use Rattle.std.specs.Prelude.{ℕ, ◌==◌, ◌&&◌, Bool, List, [], nat_lt}
use Rattle.mt_verify.specs.Prelude.{Contents, Declared, ToldLine}
use Rattle.mt_verify.specs.AllGone.{OpensGone}
use Rattle.mt_verify.specs.ToldReads.{is_wrote}
use Rattle.mt_verify.specs.GoneTrees.{GoneTree}

-- the line reports a call on this tree in a phase before this one
abbrev pub is_call_before : ℕ → ℕ → ToldLine → Bool
is_call_before tree phase t = (t.tree == tree) && (nat_lt t.phase phase && is_wrote t.what)

-- a tree that has just opened with this map
abbrev pub just_opened : Contents → GoneTree
just_opened map = record { kind = map.kind; opening = map.ranges; noted = []; lanes = [] }

-- the map is the one with which a tree opens that is declared so
abbrev pub OpensAsMap : List ToldLine → List GoneTree → Declared → Contents → Type 0
OpensAsMap told gone d map = OpensGone told gone d.opening (just_opened map)
