use Rattle.mt_list.proofs.Prelude.{arith, ◌∙◌}
use Rattle.mt_list.proofs.HolesSought.{none_up_at, none_found}
use Rattle.mt_list.proofs.areas.lowest.Goals as goal

pub returns-in_err-first : goal.returns-in_err-first
returns-in_err-first c =
    c.from_residual.ensures
    ∙ none_up_at c.args.kind c.args.ranges.now c.args.window.size c.args.window.min c.args.window.max c.loop-range.first c.loop-range.range-index _ c.loop-range-test.true c.loop-range.invariant
    (omega (arith, c.in_err-first.ensures)) (none_found c.lowest_below.result c.in_default.not-Some ∙ c.lowest_below.ensures)
