use Rattle.mt_commands.proofs.Prelude.{◌≡◌, ◌≤◌, ◌+◌, List, Some, length, sym, ap, ◌∙◌, subst, Erase, Range, acted, Tree, map_seen, pass_in, HasOnePass, found_in, map_behind, most_steps}
use Rattle.mt_base.specs.declared.kinds.Kind.TheVariants as kinds
use Rattle.mt_commands.proofs.Drawing.{turned}
use Rattle.mt_commands.proofs.FewTurns.{drawn_few}
use Rattle.mt_commands.proofs.OnlyCalls.{only_on}
use Rattle.mt_commands.proofs.turns.turn_under.Goals as goal

pub give_back-requires-clause-only : goal.give_back-requires-clause-only
give_back-requires-clause-only c = subst HasOnePass (sym (ap (λ r. r.now) c.draw-drawn.ensures.tree)) c.requires.only

pub give_back-requires-clause-few : goal.give_back-requires-clause-few
give_back-requires-clause-few c =
    let t = c.args.write.now.tree.now in
    let p = pass_in c.args.write.now.pass.now in
    let q = pass_in c.draw-drawn.new.write.pass.now in
    let found = found_in c.draw-drawn.result in
    let few = drawn_few (map_seen t p) most_steps (4096 + c.args.n) c.args.ids.now found c.requires.window c.requires.few (sym c.draw-drawn.ensures.drawn) in
    let map_is : map_seen c.draw-drawn.new.write.tree.now q ≡ map_behind (4096 + c.args.n) (map_seen t p) found = ap (λ (x : Tree). map_seen x q) (ap (λ r. r.now) c.draw-drawn.ensures.tree) ∙ c.draw-drawn.ensures.map in
    subst (λ (m : List Range). length m ≤ 100001) (sym map_is) few.few

pub returns-in-Some-clause-pass : goal.returns-in-Some-clause-pass
returns-in-Some-clause-pass c =
    only_on (pass_in c.draw-drawn.new.write.pass.now) (pass_in c.give_back.new.write.pass.now)
    (only_on (pass_in c.args.write.now.pass.now) (pass_in c.draw-drawn.new.write.pass.now) c.requires.pass c.draw-drawn.ensures.called) c.give_back.ensures.called

pub returns-in_default-clause-pass : goal.returns-in_default-clause-pass
returns-in_default-clause-pass c = only_on (pass_in c.args.write.now.pass.now) (pass_in c.draw-drawn.new.write.pass.now) c.requires.pass c.draw-drawn.ensures.called

pub returns-in-Some-clause-turned : goal.returns-in-Some-clause-turned
returns-in-Some-clause-turned c =
    let t = c.args.write.now.tree.now in
    let p = pass_in c.args.write.now.pass.now in
    let w = pass_in c.draw-drawn.new.write.pass.now in
    let q = pass_in c.give_back.new.write.pass.now in
    let found = found_in c.draw-drawn.result in
    let tree_is : c.draw-drawn.new.write.tree.now ≡ t = ap (λ r. r.now) c.draw-drawn.ensures.tree in
    let gone : map_seen t q ≡ (acted kinds.Alloc (map_seen t w) (Erase c.in-Some.number)).0 = subst (λ (x : Tree). map_seen x q ≡ (acted kinds.Alloc (map_seen x w) (Erase c.in-Some.number)).0) tree_is c.give_back.ensures.map in
    let map_is = gone ∙ ap (λ (m : List Range). (acted kinds.Alloc m (Erase c.in-Some.number)).0) c.draw-drawn.ensures.map in
    turned t p q c.args.ids.now c.draw-drawn.new.ids c.args.tally.now.tally c.note.new.self.tally c.args.drops c.args.n found (Some c.in-Some.number)
    c.draw-drawn.ensures.drawn c.draw-drawn.ensures.draws c.note.ensures.tally (sym c.in-Some.is ∙ c.due.ensures) map_is
