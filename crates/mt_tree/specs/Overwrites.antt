-- The ranges that a store meets, and how its caller's places take them.
-- Source: this project's own; the kernel's mas_store returns the first entry that it overwrites, and mas_for_each visits the
-- others.
use Rattle.std.specs.Prelude.{◌≡◌, ℕ, ◌-◌, List, [], ◌++◌, Result, Ok, Err, drop, filter, if◌then◌else◌, length, map, nat_le, take}
use Rattle.mt_tree.specs.Prelude.{Range, overlaps, Done, Worn}
use Rattle.mt_base.specs.Passes as known
use Rattle.mt_tree.specs.declared.trees.Tree.{Tree}
use Rattle.mt_tree.specs.Trees.{map_seen}

-- the ranges of a map that hold some index of first..last: none if first is above last
abbrev pub ranges_met : List Range → ℕ → ℕ → List Range
ranges_met m first last = if nat_le first last then filter (overlaps first last) m else []

-- All of them are counted, and shown in the first of these places, as far as there are places. The others are unchanged.
pub record TellsMet {A : Type 0} (shows : Range → A) (ranges : List Range) (met met' : List A) (count : ℕ) : Type 0 where
  pub told : met' ≡ take (length met) (map shows ranges) ++ drop (length ranges) met
  pub counted : count ≡ length ranges

-- the map that a call met: after all calls before it, or, if none was made, after all that its handle has seen
abbrev pub map_met : Tree → Result Done Worn → known.Pass → List Range
map_met t (Ok d) q = map_seen t (record q { seen = take (d.call - 1) q.seen })
map_met t (Err w) q = map_seen t q
