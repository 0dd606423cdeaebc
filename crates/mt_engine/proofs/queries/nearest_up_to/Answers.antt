use Rattle.mt_engine.proofs.Prelude.{ap, ◌∙◌, Some, refl}
use Rattle.mt_engine.proofs.SlotQueries.{last_here, last_none, last_before, not_none}
use Rattle.mt_engine.proofs.queries.nearest_up_to.Goals as goal

pub returns-then-here-ne0-clause-range : goal.returns-then-here-ne0-clause-range
returns-then-here-ne0-clause-range g c = λ index within is.
    ap Some c.range_in.ensures ∙ last_here _ c.requires.tree index _ (record { some = c.requires.here.some; within = within; is = is }) c.if-here-ne0.true

pub returns-in_err-found-clause-range : goal.returns-in_err-found-clause-range
returns-in_err-found-clause-range g c = λ index within is.
    c.from_residual.ensures ∙ last_none _ c.requires.tree index _ (record { some = c.requires.here.some; within = within; is = is }) c.if-here-ne0.false (c.in_err-found.ensures.none.0 refl)

pub returns-clause-range : goal.returns-clause-range
returns-clause-range g c = λ index within is.
    let ok = c.in_ok-found in
    ap Some c.range_in-2.ensures
    ∙ last_before _ c.requires.tree index _ (record { some = c.requires.here.some; within = within; is = is }) ok.found c.if-here-ne0.false (not_none ok.found _ ok.ensures.none) ok.ensures.some
