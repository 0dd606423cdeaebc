use Rattle.mt_c.proofs.Prelude.{◌≡◌, map, take}
use Rattle.mt_c.specs.Building as defined
use Rattle.mt_c.proofs.building.taken.Given as goal

-- the ranges so far
abbrev pub invariant-loop-range : goal.invariant-loop-range
invariant-loop-range l = l.taken.items ≡ map defined.range_from_c (take l.range-index l.ranges)
