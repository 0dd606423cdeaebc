use Rattle.mt_engine.proofs.Prelude.{ℕ, ◌<◌, subst, ◌∙◌}
use Rattle.mt_engine.proofs.IndexesAbove.{find_above}
use Rattle.mt_engine.proofs.SlotQueries.{handle_up_to, handle_found, find_found}
use Rattle.mt_engine.proofs.queries.find.Goals as goal

pub returns-then-index-top_of-clause-answer : goal.returns-then-index-top_of-clause-answer
returns-then-index-top_of-clause-answer g c =
    find_above _ c.requires.tree c.args.index (subst (λ (n : ℕ). n < c.args.index) c.top_of.ensures c.if-index-top_of.true) c.args.max

pub nearest_from-requires-clause-here : goal.nearest_from-requires-clause-here
nearest_from-requires-clause-here g c = let ok = c.in_ok-here in handle_found (g.R.Rows.sheet c.args.rows.now) (g.R.Rows.sheet c.handle_at.new.rows) c.args.index _ _ ok.ensures.rest c.top_of.ensures c.if-index-top_of.false ok.ensures.none ok.ensures.some

pub returns-clause-answer : goal.returns-clause-answer
returns-clause-answer g c =
    let ok = c.in_ok-here in
    c.up_to.ensures
    ∙ find_found (g.R.Rows.sheet c.args.rows.now) (g.R.Rows.sheet c.handle_at.new.rows) c.requires.tree c.args.index _ (handle_up_to _ _ _ _ c.top_of.ensures c.if-index-top_of.false ok.ensures.none ok.ensures.some) ok.ensures.rest
    c.args.max c.nearest_from.result c.if-index-max.false c.nearest_from.ensures.range
