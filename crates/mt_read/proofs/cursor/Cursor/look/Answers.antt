use Rattle.mt_read.proofs.Prelude.{Option, length, sym, subst, ap, Find, Range, PassPart, part_of, Answers}
use Rattle.mt_read.proofs.Windows.{bounded}
use Rattle.mt_read.proofs.cursor.Cursor.look.Goals as goal

pub returns-clause-answer : goal.returns-clause-answer
returns-clause-answer g c =
    let q = part_of c.args.pass.now in let q' = part_of c.first_behind-found.new.pass in
    subst (λ (v : Option Range). Answers q' (length q.seen) (Find c.args.index c.args.self.now.max) v) (sym c.within.ensures)
    (bounded q' q.shape.kind (length q.seen) c.args.index c.args.self.now.max c.first_behind-found.result (ap (λ (z : PassPart). z.shape.kind) c.first_behind-found.ensures.gone.goes.is) c.first_behind-found.ensures.answer)

pub returns-clause-gone : goal.returns-clause-gone
returns-clause-gone g c = c.first_behind-found.ensures.gone

pub returns-clause-stays : goal.returns-clause-stays
returns-clause-stays g c = c.first_behind-found.ensures.stays

pub returns-clause-far : goal.returns-clause-far
returns-clause-far g c = c.first_behind-found.ensures.far

pub returns-clause-reached : goal.returns-clause-reached
returns-clause-reached g c = c.first_behind-found.ensures.reached
