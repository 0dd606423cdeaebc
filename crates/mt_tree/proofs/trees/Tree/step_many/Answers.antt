use Rattle.mt_tree.proofs.Prelude.{◌≡◌, ◌++◌, ◌∙◌, List, ap, arith, drop, length, subst, take, take-append_seam, Range, WentByLeaves, part_of, stand, steps_made}
use Rattle.mt_tree.proofs.Counting.{less}
use Rattle.mt_tree.proofs.trees.Tree.step_many.Goals as goal

pub returns-clause-walked : goal.returns-clause-walked
returns-clause-walked g c =
    let told = c.step_many.ensures in let counted = told.counted in let most = told.steps in let few = told.few in
    let put = told.ranges in let count = put.count_is in
    let n = c.step_many.result.value in let rest = drop n c.args.ranges.now in
    let w = c.args.walk.now in let w' = c.step_many.new.self in
    let q = part_of c.args.pass.now in let q' = part_of c.step_many.new.pass in
    let found : take n c.step_many.new.ranges ≡ put.found = ap (take n) put.put ∙ ((λ i. take (count i) (put.found ++ rest)) ∙ take-append_seam put.found rest) in
    record {
      found = put.found;
      walked = record {
        count = put.count_is;
        ranges = put.has;
        section = told.section;
        max = told.max;
        epoch = told.epoch;
        lo = told.lo;
        looked = (
          told.looked.0,
          subst (λ (l : List Range). WentByLeaves q' c.step_many.result.lo c.step_many.result.hi w.max (stand w.leaf w.at q.marks) (length c.args.ranges.now) l told.looked.0 (stand w'.leaf w'.at q'.marks)) found told.looked.1,
          record { steps = less (steps_made c.step_many.new.pass) (steps_made c.args.pass.now) c.args.steps.now c.step_many.new.steps told.looked.0 told.counted told.looked.2; turn = told.stepped.turn },
        );
        takes = record { steps = omega arith; turn = told.stepped.turn };
        few = record { steps = omega arith; turn = told.stepped.turn };
      };
      put = put.put;
    }
