use Rattle.mt_ids.proofs.Prelude.{true, sym, subst, arith, IsDrawn, after_answer, came_to, IsBeforeLast, IsLastAnswer, Draws, Drawn}
use Rattle.mt_ids.proofs.WholeDraws.{last_lies, made_after, second_is_last}
use Rattle.mt_ids.proofs.ids.Ids.draw_anew.Goals as goal

pub settle-requires : goal.settle-requires
settle-requires g c =
    subst (λ (d : Draws). IsLastAnswer d c.alloc_one-answer.result) c.self.view_is
    (last_lies (g.A.Allocs.sheet c.args.tree.now) (g.A.Allocs.sheet c.alloc_one-answer.new.self) (record { lo = c.self.inside.lo; hi = c.self.inside.hi; at = c.self.inside.at }) c.self.inside.lo c.args.entry c.alloc_one-answer.result
    (omega arith) c.self.invariant.0 c.alloc_one-answer.ensures.called)

pub returns-clause-drawn : goal.returns-clause-drawn
returns-clause-drawn g c = λ s before.
    let t = g.A.Allocs.sheet c.args.tree.now in
    let s' = g.A.Allocs.sheet c.alloc_one-answer.new.self in
    let answer = c.alloc_one-answer.result in
    subst (λ (o : Drawn). IsDrawn c.args.self.now s c.args.entry o c.settle.new.self s') (sym c.settle.ensures.drawn)
    (subst (λ (d' : Draws). IsDrawn c.args.self.now s c.args.entry (came_to true answer) d' s') (sym c.settle.ensures.position)
    (subst (λ (d : Draws). IsBeforeLast d s c.args.entry t → IsDrawn d s c.args.entry (came_to true answer) (after_answer d answer) s') c.self.view_is
    (λ before'. second_is_last (record { lo = c.self.inside.lo; hi = c.self.inside.hi; at = c.self.inside.at }) s t s' c.args.entry answer c.self.invariant.0 before' c.alloc_one-answer.ensures.called c.alloc_one-answer.ensures.worn)
    before))

pub returns-clause-rest : goal.returns-clause-rest
returns-clause-rest g c = λ s since.
    made_after s (g.A.Allocs.sheet c.args.tree.now) (g.A.Allocs.sheet c.alloc_one-answer.new.self) c.self.inside.lo c.self.inside.hi c.args.entry c.alloc_one-answer.result since c.alloc_one-answer.ensures.called c.alloc_one-answer.ensures.worn
