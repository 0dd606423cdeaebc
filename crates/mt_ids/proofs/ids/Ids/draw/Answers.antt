use Rattle.mt_ids.proofs.Prelude.{refl, subst, IsLastAnswer, Draws}
use Rattle.mt_ids.proofs.WholeDraws.{busy_before, last_lies, position_lies}
use Rattle.mt_ids.proofs.ids.Ids.draw.Goals as goal

pub settle-requires : goal.settle-requires
settle-requires g c =
    let lies = position_lies c.self.inside.lo c.self.inside.hi c.in-Some.from c.self.inside.at c.self.invariant.1 c.in-Some.is in
    subst (λ (d : Draws). IsLastAnswer d c.alloc_one-answer.result) c.self.view_is
    (last_lies (g.A.Allocs.sheet c.args.tree.now) (g.A.Allocs.sheet c.alloc_one-answer.new.self) (record { lo = c.self.inside.lo; hi = c.self.inside.hi; at = c.self.inside.at }) c.in-Some.from c.args.entry c.alloc_one-answer.result
    lies.0 lies.1 c.alloc_one-answer.ensures.called)

pub returns-in_default-clause-rest : goal.returns-in_default-clause-rest
returns-in_default-clause-rest g c = c.draw_anew.ensures.rest (g.A.Allocs.sheet c.args.tree.now) refl

pub returns-then-is_busy-clause-rest : goal.returns-then-is_busy-clause-rest
returns-then-is_busy-clause-rest g c =
    let s = g.A.Allocs.sheet c.args.tree.now in
    let t = g.A.Allocs.sheet c.alloc_one-answer.new.self in
    let d : Draws = record { lo = c.self.inside.lo; hi = c.self.inside.hi; at = c.self.inside.at } in
    let lies = position_lies c.self.inside.lo c.self.inside.hi c.in-Some.from c.self.inside.at c.self.invariant.1 c.in-Some.is in
    let left = busy_before s t d c.in-Some.from c.args.entry c.alloc_one-answer.result c.in-Some.is lies.1 c.alloc_one-answer.ensures.called (c.is_busy.ensures.0 c.if-is_busy.true) in
    c.draw_anew-then-is_busy.ensures.rest s left.since
