use Rattle.mt_commands.proofs.Prelude.{rules, ◌≡◌, length, sym, ap, ◌∙◌, pass_in, still_of, subst, IsPassOf, Pass}
use Rattle.mt_base.specs.Passes as known
use Rattle.mt_commands.proofs.trees.LaneTreePlaysPass.calls.Goals as goal

pub returns-clause-of : goal.returns-clause-of
returns-clause-of g c =
    let last : c.ask-read.new.self.pass.now ≡ c.pass-1.given.0 = (search rules) in
    let of : IsPassOf c.ask-read.new.self.tree.now c.ask-read.new.self.pass.now = (search rules) in
    still_of c.ask-read.new.self.tree.now c.args.self.now.tree _ (ap (λ b. b.now) c.ask-read.ensures.tree ∙ c.lock-write.ensures.tree) (subst (λ (p : Pass). IsPassOf c.ask-read.new.self.tree.now p) last of)

pub returns-clause-calls : goal.returns-clause-calls
returns-clause-calls g c =
    let last : c.ask-read.new.self.pass.now ≡ c.pass-1.given.0 = (search rules) in
    c.ask-read.ensures.window.0 ∙ ap (λ (p : known.Pass). length p.seen) (sym c.ask-read.ensures.looked.pass ∙ ap pass_in last)
