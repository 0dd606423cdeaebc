use Rattle.mt_engine.proofs.Prelude.{ap, ◌∙◌, Some}
use Rattle.mt_engine.proofs.queries.nearest_from.Goals as goal

pub returns-in_err-found-clause-range : goal.returns-in_err-found-clause-range
returns-in_err-found-clause-range g c = λ index within is. c.from_residual.ensures ∙ c.in_err-found.ensures.range index within is

pub returns-clause-range : goal.returns-clause-range
returns-clause-range g c = λ index within is. ap Some c.range_in.ensures ∙ c.in_ok-found.ensures.range index within is
