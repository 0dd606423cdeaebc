use Rattle.trials_tree.proofs.Prelude.{rules, ◌≡◌, ap, ◌∙◌, subst, IsPassOf, still_of}
use Rattle.trials_tree.proofs.locked.copied.Goals as goal

pub returns-clause-of : goal.returns-clause-of
returns-clause-of g c =
    let last : c.dup-copied.new.self.pass.now ≡ c.pass-1.given.0 = (search rules) in
    still_of c.dup-copied.new.self.tree.now c.args.tree.now c.pass-1.given.0 (ap (λ b. b.now) c.dup-copied.ensures.tree ∙ c.lock-write.ensures.tree) (subst (IsPassOf c.dup-copied.new.self.tree.now) (c.unlock.ensures.pass ∙ last) c.unlock.ensures.of)
