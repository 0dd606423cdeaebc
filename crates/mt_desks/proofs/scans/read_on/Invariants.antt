use Rattle.mt_desks.proofs.Prelude.{◌≡◌, ℕ, ◌+◌, ◌-◌, ◌*◌, ◌≤◌, vec_len, vec_capacity, Item, KeepsOne, Walk}
use Rattle.mt_desks.proofs.Scanning.{IsSameWalk, ScansSoFar}
use Rattle.mt_desks.proofs.scans.read_on.Given as goal

abbrev pub invariant-loop-read : goal.invariant-loop-read
invariant-loop-read g l =
    let w : Walk = g.W.Walks.walk l.initial.walk in
    let here : Walk = g.W.Walks.walk l.walk in
    ((lane phase number : ℕ) (item : Item) → ScansSoFar (record { line = l.line; lane = lane; phase = phase; item = item }) number w.max l.count w.at (l.count - l._read) here.at w.history w.pass here.pass l.initial.room.items l.room.items)
    × IsSameWalk w here
    × KeepsOne w.pass here
    × g.W.Walks.own l.walk
    × ((tree : g.row.T.Denot) → g.W.Walks.on l.initial.walk tree → g.W.Walks.on l.walk tree)
    × (vec_len l.room + (l.count - l._read) ≤ vec_capacity l.room)
    × (vec_len l.room ≤ vec_len l.initial.room + l._read)
    × (vec_capacity l.room ≡ vec_capacity l.initial.room)
    × (here.steps ≤ w.steps + 220 * l._read)
