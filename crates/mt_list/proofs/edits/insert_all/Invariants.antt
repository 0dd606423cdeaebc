use Rattle.mt_list.proofs.Prelude.{◌≡◌, ◌+◌, ◌≤◌, ◌++◌, length, take, drop, vec_len, vec_capacity}
use Rattle.mt_list.proofs.edits.insert_all.Given as goal

abbrev pub invariant-loop-i : goal.invariant-loop-i
invariant-loop-i l =
    (l.ranges.items ≡ take l.at l.fn.ranges.items ++ (take l.i l.pieces ++ drop l.at l.fn.ranges.items))
    × (vec_len l.ranges ≡ vec_len l.fn.ranges + l.i)
    × (vec_len l.fn.ranges + length l.pieces ≤ vec_capacity l.ranges)
