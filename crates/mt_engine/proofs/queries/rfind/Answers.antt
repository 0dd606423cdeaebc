use Rattle.mt_engine.proofs.Prelude.{min, arith, ap, ◌∙◌}
use Rattle.mt_engine.proofs.IndexesAbove.{rfind_from, rfind_none}
use Rattle.mt_engine.proofs.SlotQueries.{handle_of, handle_kept, rfind_found}
use Rattle.mt_engine.proofs.queries.rfind.Goals as goal

pub handle_at-requires-clause-index : goal.handle_at-requires-clause-index
handle_at-requires-clause-index g c = omega (arith, c.top_of.ensures, c.min-from.ensures)

pub returns-then-from-min-clause-answer : goal.returns-then-from-min-clause-answer
returns-then-from-min-clause-answer g c =
    let t = (g.R.Rows.sheet c.args.rows.now).tree in
    rfind_none t c.requires.tree c.args.index c.min-from.result c.args.min (c.min-from.ensures ∙ ap (min c.args.index) c.top_of.ensures) c.if-from-min.true

pub nearest_up_to-requires-clause-here : goal.nearest_up_to-requires-clause-here
nearest_up_to-requires-clause-here g c =
    let ok = c.in_ok-here in
    handle_kept (g.R.Rows.sheet c.args.rows.now) (g.R.Rows.sheet c.handle_at.new.rows) c.min-from.result _ ok.ensures.rest (handle_of _ _ _ (omega (arith, c.top_of.ensures, c.min-from.ensures)) ok.ensures.none ok.ensures.some)

pub returns-clause-answer : goal.returns-clause-answer
returns-clause-answer g c =
    let ok = c.in_ok-here in
    let t = (g.R.Rows.sheet c.args.rows.now).tree in
    c.down_to.ensures
    ∙ (rfind_found (g.R.Rows.sheet c.args.rows.now) (g.R.Rows.sheet c.handle_at.new.rows) c.requires.tree c.min-from.result _ (handle_of _ _ _ (omega (arith, c.top_of.ensures, c.min-from.ensures)) ok.ensures.none ok.ensures.some) ok.ensures.rest
    c.args.min c.nearest_up_to.result c.if-from-min.false c.nearest_up_to.ensures.range
    ∙ rfind_from t c.requires.tree c.args.index c.min-from.result c.args.min (c.min-from.ensures ∙ ap (min c.args.index) c.top_of.ensures))
