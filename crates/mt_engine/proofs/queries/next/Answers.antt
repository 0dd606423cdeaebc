use Rattle.mt_engine.proofs.Prelude.{ℕ, ◌<◌, subst, ◌∙◌, refl}
use Rattle.mt_engine.proofs.IndexesAbove.{next_above}
use Rattle.mt_engine.proofs.SlotQueries.{handle_up_to, handle_found, not_none, next_none, above_kept, next_found}
use Rattle.mt_engine.proofs.queries.next.Goals as goal

pub returns-then-index-top_of-clause-answer : goal.returns-then-index-top_of-clause-answer
returns-then-index-top_of-clause-answer g c =
    next_above _ c.requires.tree c.args.index (subst (λ (n : ℕ). n < c.args.index) c.top_of.ensures c.if-index-top_of.true) c.args.max

pub behind-requires-clause-here : goal.behind-requires-clause-here
behind-requires-clause-here g c = let ok = c.in_ok-here in handle_found (g.R.Rows.sheet c.args.rows.now) (g.R.Rows.sheet c.handle_at.new.rows) c.args.index _ _ ok.ensures.rest c.top_of.ensures c.if-index-top_of.false ok.ensures.none ok.ensures.some

pub returns-in_err-above-clause-answer : goal.returns-in_err-above-clause-answer
returns-in_err-above-clause-answer g c =
    let ok = c.in_ok-here in
    c.from_residual-in_err-above.ensures
    ∙ next_none (g.R.Rows.sheet c.args.rows.now) (g.R.Rows.sheet c.handle_at.new.rows) c.requires.tree c.args.index _ (handle_up_to _ _ _ _ c.top_of.ensures c.if-index-top_of.false ok.ensures.none ok.ensures.some) ok.ensures.rest
    c.args.max (c.in_err-above.ensures.none.0 refl)

pub nearest_from-requires-clause-here : goal.nearest_from-requires-clause-here
nearest_from-requires-clause-here g c =
    let ok = c.in_ok-here in
    let up = c.in_ok-above in
    above_kept (g.R.Rows.sheet c.args.rows.now) (g.R.Rows.sheet c.handle_at.new.rows) c.requires.tree c.args.index _ (handle_up_to _ _ _ _ c.top_of.ensures c.if-index-top_of.false ok.ensures.none ok.ensures.some) ok.ensures.rest
    (g.R.Rows.sheet c.behind.new.rows) up.above up.ensures.rest (not_none up.above _ up.ensures.none) up.ensures.some

pub returns-clause-answer : goal.returns-clause-answer
returns-clause-answer g c =
    let ok = c.in_ok-here in
    let up = c.in_ok-above in
    c.up_to.ensures
    ∙ next_found (g.R.Rows.sheet c.args.rows.now) (g.R.Rows.sheet c.handle_at.new.rows) c.requires.tree c.args.index _ (handle_up_to _ _ _ _ c.top_of.ensures c.if-index-top_of.false ok.ensures.none ok.ensures.some) ok.ensures.rest
    (g.R.Rows.sheet c.behind.new.rows) up.above up.ensures.rest (not_none up.above _ up.ensures.none) up.ensures.some c.args.max c.nearest_from.result c.nearest_from.ensures.range
