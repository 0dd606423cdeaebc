use Rattle.mt_replay.proofs.Prelude.{◌≡◌, ◌≤◌, length, vec_capacity, AreLanesFor, room_before}
use Rattle.mt_replay.proofs.lanes.lay_lanes.Given as goal

abbrev pub invariant-loop-lane : goal.invariant-loop-lane
invariant-loop-lane g l =
    (length l.laid.items ≡ l.lane) × (l.lanes ≤ vec_capacity l.laid) × (l.room.items ≡ room_before l.fn.first.items l.lane)
    × AreLanesFor l.trees l.phase l.lines l.fn.first.items l.laid.items
