use Rattle.mt_engine.proofs.Measured.{measured_scanned}
use Rattle.mt_engine.proofs.engine.Engine.preallocate.Goals as goal

pub invariant_of-self : goal.invariant_of-self
invariant_of-self g c =
    let s = g.R.Rows.sheet c.self.inside.rows in
    let s' = g.R.Rows.sheet c.make_room.new.rows in
    measured_scanned c.self.inside.kind s s' c.self.inside.book c.make_room.new.book c.self.inside.height c.self.invariant (c.make_room.ensures.scanned c.self.inside.kind c.self.invariant.idle.state)
