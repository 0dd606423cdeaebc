use Rattle.mt_engine.proofs.Prelude.{ℕ, ◌+◌, ◌*◌, ◌≤◌, length, subst, ◌↔◌, IsTrue, Parts, HasRoom}
use Rattle.mt_engine.proofs.Shortages.{low_height}
use Rattle.mt_engine.proofs.engine.Engine.ready.Goals as goal

pub has_room-requires : goal.has_room-requires
has_room-requires g c = low_height c.self.inside.kind (g.R.Rows.sheet c.self.inside.rows) c.self.inside.book c.self.inside.height c.self.invariant.idle.state c.self.invariant.measured

pub returns : goal.returns
returns g c =
    subst (λ (e : Parts). IsTrue c.has_room.result ↔ HasRoom e.sheet.tree e.book) c.self.view_is
    (subst (λ (n : ℕ). IsTrue c.has_room.result ↔ (3 * n + 1 ≤ length c.self.inside.book.free)) c.self.invariant.measured c.has_room.ensures)
