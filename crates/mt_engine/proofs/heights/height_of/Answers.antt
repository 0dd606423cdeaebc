use Rattle.mt_engine.proofs.Prelude.{ℕ, ◌+◌, ◌*◌, refl, sym, ap, ◌∙◌, subst, ReadsUpTo}
use Rattle.mt_engine.proofs.FirstWay.{loads_on_first, way_height}
use Rattle.mt_engine.proofs.heights.height_of.Goals as goal

pub returns-clause-height : goal.returns-clause-height
returns-clause-height g c = c.len.ensures.value ∙ way_height c.requires.tree.0 (g.R.Rows.sheet c.args.rows.now).tree c.walk.result.items 0 c.requires.tree.1 refl c.walk.ensures.path

pub returns-clause-reads : goal.returns-clause-reads
returns-clause-reads g c =
    subst (λ (n : ℕ). ReadsUpTo n (g.R.Rows.sheet c.args.rows.now) (g.R.Rows.sheet c.walk.new.rows))
    (loads_on_first (g.R.Rows.sheet c.args.rows.now).tree c.walk.result.items c.walk.ensures.path ∙ ap (λ (n : ℕ). 14 * n + 1) (sym c.len.ensures.value)) c.walk.ensures.reads
