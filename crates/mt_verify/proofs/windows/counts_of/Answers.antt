use Rattle.mt_verify.proofs.Prelude.{◌≢◌, ◌∙◌, ◌<◌, length, arith, get_or-set_other, get_or-set_same, below_more, length-set}
use Rattle.mt_verify.proofs.windows.counts_of.Goals as goal

pub loop-tree-preserved : goal.loop-tree-preserved
loop-tree-preserved c =
    let long = c.loop-tree.invariant.0 in
    let lt : c.loop-tree.tree < length c.loop-tree.counts = omega (arith, long) in (
      length-set c.loop-tree.counts c.loop-tree.tree c.count_calls.result ∙ long,
      below_more _ _
          (λ k h. let ne : k ≢ c.loop-tree.tree = omega arith in rw get_or-set_other (c.loop-tree.invariant.1 k h))
          (rw (get_or-set_same c.loop-tree.counts c.loop-tree.tree c.count_calls.result 0 lt) c.count_calls.ensures),
    )
