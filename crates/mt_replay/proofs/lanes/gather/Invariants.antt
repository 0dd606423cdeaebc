use Rattle.mt_replay.proofs.Prelude.{◌≡◌, ◌≤◌, length, map, take, vec_capacity}
use Rattle.mt_replay.proofs.lanes.gather.Given as goal

abbrev pub invariant-loop-lane : goal.invariant-loop-lane
invariant-loop-lane g l = (length l.rooms.items ≡ l.lane-index) × (length l.lanes ≤ vec_capacity l.rooms) × (map (λ r. r.now) l.rooms.items ≡ map (λ x. x.desk.room.items) (take l.lane-index l.lanes))
