use Rattle.mt_engine.proofs.Prelude.{ℕ, ◌<◌, subst, ap, ◌∙◌, refl, Rfind, answer, map_by}
use Rattle.mt_engine.proofs.IndexesAbove.{prev_above}
use Rattle.mt_engine.proofs.SlotQueries.{handle_up_to, handle_found, not_none, prev_none, below_kept, prev_found}
use Rattle.mt_engine.proofs.queries.prev.Goals as goal

pub returns-then-index-top-clause-answer : goal.returns-then-index-top-clause-answer
returns-then-index-top-clause-answer g c =
    let t = (g.R.Rows.sheet c.args.rows.now).tree in
    c.rfind.ensures.answer
    ∙ (ap (λ (i : ℕ). answer (map_by t) (Rfind i c.args.min)) c.top_of-top.ensures ∙ prev_above t c.requires.tree c.args.index (subst (λ (n : ℕ). n < c.args.index) c.top_of-top.ensures c.if-index-top.true) c.args.min)

pub before-requires-clause-here : goal.before-requires-clause-here
before-requires-clause-here g c = let ok = c.in_ok-here in handle_found (g.R.Rows.sheet c.args.rows.now) (g.R.Rows.sheet c.handle_at.new.rows) c.args.index _ _ ok.ensures.rest c.top_of-top.ensures c.if-index-top.false ok.ensures.none ok.ensures.some

pub returns-in_err-below-clause-answer : goal.returns-in_err-below-clause-answer
returns-in_err-below-clause-answer g c =
    let ok = c.in_ok-here in
    c.from_residual-in_err-below.ensures
    ∙ prev_none (g.R.Rows.sheet c.args.rows.now).tree c.requires.tree c.args.index _ (handle_up_to _ _ _ _ c.top_of-top.ensures c.if-index-top.false ok.ensures.none ok.ensures.some)
    c.args.min (c.in_err-below.ensures.none.0 refl)

pub nearest_up_to-requires-clause-here : goal.nearest_up_to-requires-clause-here
nearest_up_to-requires-clause-here g c =
    let ok = c.in_ok-here in
    let down = c.in_ok-below in
    below_kept (g.R.Rows.sheet c.args.rows.now) (g.R.Rows.sheet c.handle_at.new.rows) c.requires.tree c.args.index _ (handle_up_to _ _ _ _ c.top_of-top.ensures c.if-index-top.false ok.ensures.none ok.ensures.some) ok.ensures.rest
    (g.R.Rows.sheet c.before-2.new.rows) down.below down.ensures.rest (not_none down.below _ down.ensures.none) down.ensures.some

pub returns-clause-answer : goal.returns-clause-answer
returns-clause-answer g c =
    let ok = c.in_ok-here in
    let down = c.in_ok-below in
    c.down_to.ensures
    ∙ prev_found (g.R.Rows.sheet c.args.rows.now) (g.R.Rows.sheet c.handle_at.new.rows) c.requires.tree c.args.index _ (handle_up_to _ _ _ _ c.top_of-top.ensures c.if-index-top.false ok.ensures.none ok.ensures.some) ok.ensures.rest
    (g.R.Rows.sheet c.before-2.new.rows) down.below down.ensures.rest (not_none down.below _ down.ensures.none) down.ensures.some c.args.min c.nearest_up_to.result c.nearest_up_to.ensures.range
