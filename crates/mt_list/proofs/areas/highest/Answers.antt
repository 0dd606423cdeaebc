use Rattle.mt_list.proofs.Prelude.{arith, sym, ◌∙◌}
use Rattle.mt_list.proofs.HolesSought.{found_down, sought_on_down, none_down, none_found}
use Rattle.mt_list.proofs.areas.highest.Goals as goal

pub returns-in-Some-highest_above : goal.returns-in-Some-highest_above
returns-in-Some-highest_above c =
    found_down c.args.kind c.args.ranges.now c.args.window.size c.args.window.min c.args.window.max c.loop-range.last c.loop-range.rest.now c.in-Some.below.now c.in-Some.range.now c.in-Some.ensures.cases.0 c.loop-range.invariant
    c.in-Some-highest_above.start (sym c.in-Some-highest_above.is ∙ c.highest_above.ensures)

pub returns-in_err-last : goal.returns-in_err-last
returns-in_err-last c =
    c.from_residual.ensures
    ∙ none_down c.args.kind c.args.ranges.now c.args.window.size c.args.window.min c.args.window.max c.loop-range.last c.loop-range.rest.now c.in-Some.below.now c.in-Some.range.now c.in-Some.ensures.cases.0 c.loop-range.invariant
    (omega (arith, c.in_err-last.ensures)) (none_found c.highest_above.result c.in_default-highest_above.not-Some ∙ c.highest_above.ensures)

pub loop-range-preserved : goal.loop-range-preserved
loop-range-preserved c =
    sought_on_down c.args.kind c.args.ranges.now c.args.window.size c.args.window.min c.args.window.max c.loop-range.last c.loop-range.rest.now c.in-Some.below.now c.in-Some.range.now c.in-Some.ensures.cases.0 c.loop-range.invariant
    (none_found c.highest_above.result c.in_default-highest_above.not-Some ∙ c.highest_above.ensures) c.in_ok-last.last (omega (arith, c.in_ok-last.ensures.0, c.in_ok-last.ensures.1))
