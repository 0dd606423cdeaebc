use Rattle.mt_commands.proofs.Prelude.{rules, ◌≡◌, sym, ap, ◌∙◌, subst, IfOk, Tree, map_seen, pass_in, still_of, IsPassOf, Pass}
use Rattle.mt_base.specs.Passes as known
use Rattle.mt_commands.proofs.trees.LaneTreePlaysPass.list.Goals as goal

pub returns-clause-of : goal.returns-clause-of
returns-clause-of g c =
    let last : c.list-ranges.new.self.pass.now ≡ c.pass-1.given.0 = (search rules) in
    let of : IsPassOf c.list-ranges.new.self.tree.now c.list-ranges.new.self.pass.now = c.list-ranges.new.self.open.of in
    still_of c.list-ranges.new.self.tree.now c.args.self.now.tree _ (ap (λ b. b.now) c.list-ranges.ensures.tree ∙ c.lock-write.ensures.tree) (subst (λ (p : Pass). IsPassOf c.list-ranges.new.self.tree.now p) last of)

pub returns-clause-ranges : goal.returns-clause-ranges
returns-clause-ranges g c =
    let last : c.list-ranges.new.self.pass.now ≡ c.pass-1.given.0 = (search rules) in
    subst (λ (p : known.Pass). IfOk c.list-ranges.result (λ ranges. ranges.items ≡ map_seen c.args.self.now.tree p)) (sym c.list-ranges.ensures.looked.pass ∙ ap pass_in last)
    (subst (λ (t : Tree). IfOk c.list-ranges.result (λ ranges. ranges.items ≡ map_seen t (pass_in c.lock-write.result.pass.now))) c.lock-write.ensures.tree c.list-ranges.ensures.items)
