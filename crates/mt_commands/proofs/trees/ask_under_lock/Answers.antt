use Rattle.mt_commands.proofs.Prelude.{rules, ◌≡◌, sym, ap, ◌∙◌, subst, Read, grew_read, saw_grows, Tree, Pass, opened, pass_in, steps_made, still_of, IsPassOf}
use Rattle.mt_commands.proofs.trees.ask_under_lock.Goals as goal

pub returns-clause-of : goal.returns-clause-of
returns-clause-of g c =
    let last : c.ask-read.new.self.pass.now ≡ c.pass-1.given.0 = (search rules) in
    let of : IsPassOf c.ask-read.new.self.tree.now c.ask-read.new.self.pass.now = c.ask-read.new.self.open.of in
    still_of c.ask-read.new.self.tree.now c.args.tree.now _ (ap (λ b. b.now) c.ask-read.ensures.tree ∙ c.lock-write.ensures.tree) (subst (λ (p : Pass). IsPassOf c.ask-read.new.self.tree.now p) last of)

pub returns-clause-rests : goal.returns-clause-rests
returns-clause-rests g c =
    let last : c.ask-read.new.self.pass.now ≡ c.pass-1.given.0 = (search rules) in
    ap steps_made (sym last) ∙ (c.ask-read.ensures.looked.rests.steps ∙ c.lock-write.ensures.tries.steps)

pub returns-clause-read : goal.returns-clause-read
returns-clause-read g c =
    let t : Tree = c.args.tree.now in
    let read = subst (λ (x : Tree). Read (opened x) (pass_in c.lock-write.result.pass.now) c.ask-read.result.lo c.ask-read.result.hi c.ask-read.result.lo c.args.query.now c.ask-read.result.value (pass_in c.ask-read.new.self.pass.now)) c.lock-write.ensures.tree c.ask-read.ensures.read in
    let last : c.ask-read.new.self.pass.now ≡ c.pass-1.given.0 = (search rules) in (
      c.ask-read.result.lo,
      subst (λ (p : Pass). Read (opened t) (pass_in c.args.pass.now) c.ask-read.result.lo c.ask-read.result.hi c.ask-read.result.lo c.args.query.now c.ask-read.result.value (pass_in p)) last
          (grew_read (opened t) (pass_in c.args.pass.now) (pass_in c.lock-write.result.pass.now) c.ask-read.result.lo c.ask-read.result.hi c.ask-read.result.lo c.args.query.now c.ask-read.result.value (pass_in c.ask-read.new.self.pass.now)
          (saw_grows (opened t) (pass_in c.args.pass.now) (pass_in c.lock-write.result.pass.now) c.lock-write.ensures.saw) read),
    )
