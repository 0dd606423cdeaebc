use Rattle.mt_engine.proofs.Prelude.{ap, ◌∙◌, length, take, map_by, Parts, entries_at, put_first}
use Rattle.mt_engine.proofs.Measured.{measured_if_read}
use Rattle.mt_engine.proofs.engine.Engine.load_many.Goals as goal

pub invariant_of-self : goal.invariant_of-self
invariant_of-self g c = measured_if_read c.self.inside.kind (g.R.Rows.sheet c.self.inside.rows) (g.R.Rows.sheet c.load_many.new.rows) c.self.inside.book c.self.inside.height c.load_many.ensures.rest c.self.invariant

pub returns-clause-entries : goal.returns-clause-entries
returns-clause-entries g c = c.load_many.ensures.entries ∙ ap (λ (e : Parts). put_first (entries_at (map_by e.sheet.tree) (take (length c.args.entries.now) c.args.indexes.now)) c.args.entries.now) c.self.view_is
