use Rattle.mt_engine.proofs.Prelude.{sym, subst, Parts, HasRoom}
use Rattle.mt_engine.proofs.engine.Engine.store_prealloc.Goals as goal

pub store_prepared-requires-clause-room : goal.store_prepared-requires-clause-room
store_prepared-requires-clause-room g c = subst (λ (e : Parts). HasRoom e.sheet.tree e.book) (sym c.self.view_is) c.requires.ready
