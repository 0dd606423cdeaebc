-- How wide rows are and how large indexes are, as far as proofs rest on it.
use Rattle.mt_base.proofs.Prelude.{◌^◌, ◌<◌, ◌≤◌, arith, Width, Long, Short, columns, greatest, deepest}

-- an index, and one index more, is a number of the machine
pub greatest_fits : (width : Width) → greatest width < 2 ^ 64
greatest_fits Long = omega arith
greatest_fits Short = omega arith

-- a row has so many words at least, and so many at the most
pub many_columns : (width : Width) → 32 ≤ columns width
many_columns Long = omega arith
many_columns Short = omega arith

pub few_columns : (width : Width) → columns width ≤ 64
few_columns Long = omega arith
few_columns Short = omega arith

-- as many rows as the deepest tree could have can be counted
pub deepest_fits : (width : Width) → columns width ^ deepest < 2 ^ 64
deepest_fits Long = omega arith
deepest_fits Short = omega arith
