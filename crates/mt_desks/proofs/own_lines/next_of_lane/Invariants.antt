use Rattle.mt_desks.proofs.Prelude.{◌≡◌, length, lines_of_lane}
use Rattle.mt_desks.proofs.own_lines.next_of_lane.Given as goal

abbrev pub invariant-loop-line : goal.invariant-loop-line
invariant-loop-line l = lines_of_lane l.lane l.here l.rest ≡ lines_of_lane l.lane l.fn.here l.lines

abbrev pub decreases-loop-line : goal.decreases-loop-line
decreases-loop-line l = length l.rest
