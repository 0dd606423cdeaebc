use Rattle.mt_engine.proofs.Prelude.{sym, ap, subst, Rooted, Sheet, HasHeight}
use Rattle.mt_engine.proofs.Moments.{in_call_begun, applied_by}
use Rattle.mt_engine.proofs.ReadAfter.{measured_end}
use Rattle.mt_engine.proofs.calls.apply.Goals as goal

pub perform-reply-requires-clause-in_call : goal.perform-reply-requires-clause-in_call
perform-reply-requires-clause-in_call g c = in_call_begun c.args.kind (g.R.Rows.sheet c.args.rows.now) (g.R.Rows.sheet c.begin-number.new.self) c.args.book.now c.begin-number.ensures.rest c.requires.measured.idle

pub perform-reply-requires-clause-height : goal.perform-reply-requires-clause-height
perform-reply-requires-clause-height g c = subst (λ (t : Rooted). HasHeight t c.args.height.now) (sym (ap (λ (x : Sheet). x.tree) c.begin-number.ensures.rest)) c.requires.measured.measured

pub returns : goal.returns
returns g c =
    let s = g.R.Rows.sheet c.args.rows.now in
    let s' = g.R.Rows.sheet c.perform-reply.new.rows in
    let s″ = g.R.Rows.sheet c.finish.new.self in
    let applied = applied_by c.args.kind s (g.R.Rows.sheet c.begin-number.new.self) s' s″ c.args.book.now c.perform-reply.new.book c.args.call.now c.perform-reply.result c.begin-number.ensures.rest c.perform-reply.ensures.answered c.perform-reply.ensures.search c.perform-reply.ensures.exact c.finish.ensures in
    record { applied = applied; measured = measured_end c.args.kind s s' s″ c.perform-reply.new.book c.args.call.now c.perform-reply.result c.perform-reply.new.height applied.ended c.perform-reply.ensures.height c.finish.ensures }
