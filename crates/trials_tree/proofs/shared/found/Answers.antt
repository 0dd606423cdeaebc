use Rattle.trials_tree.proofs.Prelude.{rules, ap, subst, ◌∙◌, ◌≡◌, still_of, IsPassOf}
use Rattle.mt_tree.specs.Trees.{Pass}
use Rattle.trials_tree.proofs.shared.found.Goals as goal

pub returns : goal.returns
returns g c =
    let last : c.ask-read.new.self.pass.now ≡ c.pass-1.given.0 = (search rules) in
    let of : IsPassOf c.ask-read.new.self.tree.now c.ask-read.new.self.pass.now = c.ask-read.new.self.open.of in
    still_of c.ask-read.new.self.tree.now c.args.tree.now _ (ap (λ b. b.now) c.ask-read.ensures.tree ∙ c.lock-write.ensures.tree)
    (subst (λ (p : Pass). IsPassOf c.ask-read.new.self.tree.now p) last of)
