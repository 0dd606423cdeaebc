use Rattle.trials_tree.proofs.Prelude.{rules, ◌≡◌, ap, ◌∙◌, subst, IsPassOf, still_of}
use Rattle.trials_tree.proofs.readers.held.prepared.Goals as goal

pub returns : goal.returns
returns g c =
    let last : c.preallocate-ready.new.self.pass.now ≡ c.pass-1.given.0 = (search rules) in
    let of = subst (IsPassOf c.preallocate-ready.new.self.tree.now) (c.unlock.ensures.pass ∙ last) c.unlock.ensures.of in
    still_of c.preallocate-ready.new.self.tree.now c.args.tree.now _ (ap (λ b. b.now) c.preallocate-ready.ensures.tree ∙ c.lock-write.ensures.tree) of
