use Rattle.mt_told.proofs.Prelude.{get_or, get_or_default, Range}
use Rattle.mt_told.proofs.Compared.{ranges_go_on}
use Rattle.mt_told.proofs.comparing.behind_ranges.Goals as goal

pub loop-range-preserved : goal.loop-range-preserved
loop-range-preserved c =
    let l = c.loop-range in
    let ranges = c.args.ranges.now in
    let none : Range = record { first = 0; last = 0; entry = 0 } in
    let range : Range = get_or ranges l.range-index none in
    ranges_go_on c.args.text.now l.rest.now ranges l.range-index l.invariant range c.loop-range-test.true (get_or_default ranges l.range-index none range c.loop-range-test.true) c.in_ok-rest.rest.now c.in_ok-rest.ensures.some
