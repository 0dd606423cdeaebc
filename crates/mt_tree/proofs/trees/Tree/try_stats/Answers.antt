use Rattle.mt_tree.proofs.Prelude.{IsStatsOf, ap, ◌∙◌, Behind, pass_in, Snapshot}
use Rattle.mt_tree.proofs.Looking.{is_stats}
use Rattle.mt_tree.proofs.Trying.{found_at}
use Rattle.mt_tree.proofs.trees.Tree.try_stats.Goals as goal

pub returns : goal.returns
returns c =
    let after = c.show.ensures in
    record {
      found = found_at IsStatsOf _ _ _ _ _ c.in_ok-taken.ensures.tries c.in_ok-taken.ensures.known after.of after.shown.saw after.rests
          (is_stats c.args.self.now (pass_in c.show.new.pass) _ c.give_looked.result (ap (λ (x : Snapshot Behind). x.value) c.give_looked.ensures.took ∙ c.snapshot-took.ensures.value) c.show.ensures.shown.all c.snapshot-took.ensures.lies _ c.stats-stats.ensures);
    }
