use Rattle.mt_desks.proofs.Prelude.{◌≡◌, ◌+◌, ◌≤◌, drop, length, lines_of_lane, room_of}
use Rattle.mt_desks.proofs.own_lines.needs_of.Given as goal

abbrev pub invariant-loop-line : goal.invariant-loop-line
invariant-loop-line l =
    (l.steps + length (lines_of_lane l.lane l.here (drop l.line-index l.lines)) ≡ length (lines_of_lane l.lane 0 l.lines))
    × (l.room + room_of (lines_of_lane l.lane l.here (drop l.line-index l.lines)) ≡ room_of (lines_of_lane l.lane 0 l.lines))
    × (l.steps ≤ l.line-index)
