use Rattle.trials_tree.proofs.Prelude.{rules, ◌≡◌, ap, ◌∙◌, subst, IsPassOf, still_of}
use Rattle.trials_tree.proofs.locked.told.Goals as goal

pub returns-in_err-image : goal.returns-in_err-image
returns-in_err-image g c =
    let last : c.image-image.new.self.pass.now ≡ c.pass-1.given.0 = (search rules) in
    still_of c.image-image.new.self.tree.now c.args.tree.now c.pass-1.given.0 (ap (λ b. b.now) (c.image-image.ensures.tree ∙ c.check-form.ensures.tree) ∙ c.lock-write.ensures.tree) (subst (IsPassOf c.image-image.new.self.tree.now) (c.unlock.ensures.pass ∙ last) c.unlock.ensures.of)

pub returns : goal.returns
returns g c =
    let last : c.image-image.new.self.pass.now ≡ c.pass-1.given.0 = (search rules) in
    still_of c.image-image.new.self.tree.now c.args.tree.now c.pass-1.given.0 (ap (λ b. b.now) (c.image-image.ensures.tree ∙ c.check-form.ensures.tree) ∙ c.lock-write.ensures.tree) (subst (IsPassOf c.image-image.new.self.tree.now) (c.unlock.ensures.pass ∙ last) c.unlock.ensures.of)
