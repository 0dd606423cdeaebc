use Rattle.mt_rows.proofs.Prelude.{◌++◌, List, ap, ◌∙◌, sym, ◌-◌, ◌<◌, arith, flat_map, take_all, Range, Table, ranges_of}
use Rattle.mt_rows.proofs.Deeper.{ranges_of_inner}
use Rattle.mt_rows.proofs.plain_trees.+push_ranges.Goals as goal

pub returns-after-loop-child : goal.returns-after-loop-child
returns-after-loop-child t c =
    let table : Table = record { width = c.args.width; words = c.args.words.now } in
    let all = take_all c.loop-child.child-index c.as_slice-child-items.result.now c.loop-child-test.false ∙ (c.as_slice-child-items.ensures.value ∙ c.spans_in-spans.ensures) in
    let deep : 0 < c.args.depth = omega arith in
    c.loop-child.invariant
    ∙ ap (λ (l : List Range). c.args.ranges.now.items ++ l)
    (ap (flat_map (ranges_of table (c.args.depth - 1))) all ∙ sym (ranges_of_inner table c.args.depth c.args.span.now c.in-Some.kind deep (sym c.in-Some.ensures.kind) c.in_default-kind.not-Leaf))
