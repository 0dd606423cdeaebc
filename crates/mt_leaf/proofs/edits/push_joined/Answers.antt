use Rattle.mt_leaf.proofs.Prelude.{iff_false}
use Rattle.mt_leaf.proofs.Pushes.{hole_written, pushed}
use Rattle.mt_leaf.proofs.edits.push_joined.Goals as goal
use Rattle.mt_leaf.proofs.edits.push_joined.Goals.{else-item-eq0-via-then-item-eq0+else-ends_with_hole, else-item-eq0-via-else-item-eq0}

pub returns-then-ends_with_hole-clause-items : goal.returns-then-ends_with_hole-clause-items
returns-then-ends_with_hole-clause-items c =
    let hole = c.ends_with_hole.ensures.0 c.if-ends_with_hole.true in
    hole_written c.args.run.now.items c.deref_mut.result.now c.len-hole.result c.args.item _ c.deref_mut.ensures.value c.len-hole.ensures.value hole.0 hole.1 c.if-item-eq0.true

pub returns-else-item-eq0-clause-items : goal.returns-else-item-eq0-clause-items
returns-else-item-eq0-clause-items c = rw c.push.ensures.items
    (pushed c.args.run.now.items c.args.item (λ is hole. elim c.else-item-eq0.branch [
      | else-item-eq0-via-then-item-eq0+else-ends_with_hole w ↦ iff_false w.ends_with_hole.ensures w.if-ends_with_hole.false hole
      | else-item-eq0-via-else-item-eq0 w ↦ w.if-item-eq0.false is
    ]))
