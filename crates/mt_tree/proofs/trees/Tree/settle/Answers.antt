use Rattle.mt_tree.proofs.Prelude.{List, map, ap, ◌∙◌, subst, each_once, pass_in, turn_seat, seen_by}
use Rattle.mt_base.specs.Passes as known
use Rattle.mt_tree.proofs.trees.Tree.settle.Goals as goal

pub returns-clause-settled : goal.returns-clause-settled
returns-clause-settled g c =
    let qs = map pass_in c.show_all.new.passes in
    subst (λ (ps : List known.Pass). known.Settled (seen_by c.args.self.now qs) ps qs) c.take_first-taken.ensures.known c.show_all.ensures.settled

pub returns-clause-once : goal.returns-clause-once
returns-clause-once g c = each_once (seen_by c.args.self.now (map pass_in c.show_all.new.passes)) (map pass_in c.show_all.new.passes) c.show_all.ensures.settled.settled

pub returns-clause-tries : goal.returns-clause-tries
returns-clause-tries g c = c.show_all.ensures.turns ∙ ap (map turn_seat) c.take_first-taken.ensures.passes
