use Rattle.mt_leaf.proofs.CutLaws.{one_before}
use Rattle.mt_leaf.proofs.cuts.full_end.Goals as goal

pub returns-then-ends_with_hole : goal.returns-then-ends_with_hole
returns-then-ends_with_hole c =
    let hole = c.ends_with_hole.ensures.0 c.if-ends_with_hole.true in
    one_before c.args.leaf c.args.items.now c.args.end c.requires.some c.requires.inside c.requires.apart hole.0 hole.1
