use Rattle.trials_tree.proofs.Prelude.{rules, ap, ◌∙◌, still_of}
use Rattle.trials_tree.proofs.shared.listed.Goals as goal

pub returns-in_err-ranges : goal.returns-in_err-ranges
returns-in_err-ranges g c = still_of c.list-ranges.new.self.tree.now c.args.tree.now _ (ap (λ b. b.now) c.list-ranges.ensures.tree ∙ c.lock-write.ensures.tree) (search rules)

pub returns : goal.returns
returns g c = still_of c.list-ranges.new.self.tree.now c.args.tree.now _ (ap (λ b. b.now) c.list-ranges.ensures.tree ∙ c.lock-write.ensures.tree) (search rules)
