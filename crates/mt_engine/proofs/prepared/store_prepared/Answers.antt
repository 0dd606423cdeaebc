use Rattle.mt_engine.proofs.Prelude.{sym, ap, subst, StorePre, Rooted, Sheet, HasHeight, HasRoom}
use Rattle.mt_engine.proofs.Moments.{in_call_begun}
use Rattle.mt_engine.proofs.ReadAfter.{prestored_by, measured_end}
use Rattle.mt_engine.proofs.prepared.store_prepared.Goals as goal

pub perform_prepared-reply-requires-clause-in_call : goal.perform_prepared-reply-requires-clause-in_call
perform_prepared-reply-requires-clause-in_call g c = in_call_begun c.args.kind (g.R.Rows.sheet c.args.rows.now) (g.R.Rows.sheet c.begin-number.new.self) c.args.book.now c.begin-number.ensures.rest c.requires.measured.idle

pub perform_prepared-reply-requires-clause-room : goal.perform_prepared-reply-requires-clause-room
perform_prepared-reply-requires-clause-room g c = subst (λ (t : Rooted). HasRoom t c.args.book.now) (sym (ap (λ (x : Sheet). x.tree) c.begin-number.ensures.rest)) c.requires.room

pub perform_prepared-reply-requires-clause-height : goal.perform_prepared-reply-requires-clause-height
perform_prepared-reply-requires-clause-height g c = subst (λ (t : Rooted). HasHeight t c.args.height.now) (sym (ap (λ (x : Sheet). x.tree) c.begin-number.ensures.rest)) c.requires.measured.measured

pub returns-clause-stored : goal.returns-clause-stored
returns-clause-stored g c =
    prestored_by c.args.kind (g.R.Rows.sheet c.args.rows.now) (g.R.Rows.sheet c.begin-number.new.self) (g.R.Rows.sheet c.perform_prepared-reply.new.rows) (g.R.Rows.sheet c.finish.new.self) c.args.book.now c.perform_prepared-reply.new.book (StorePre c.args.edit.first c.args.edit.last c.args.edit.entry) c.perform_prepared-reply.result
    c.begin-number.ensures.rest c.perform_prepared-reply.ensures.stored c.perform_prepared-reply.ensures.kept c.finish.ensures

pub returns-clause-measured : goal.returns-clause-measured
returns-clause-measured g c =
    let call = StorePre c.args.edit.first c.args.edit.last c.args.edit.entry in
    let stored = prestored_by c.args.kind (g.R.Rows.sheet c.args.rows.now) (g.R.Rows.sheet c.begin-number.new.self) (g.R.Rows.sheet c.perform_prepared-reply.new.rows) (g.R.Rows.sheet c.finish.new.self) c.args.book.now c.perform_prepared-reply.new.book call c.perform_prepared-reply.result c.begin-number.ensures.rest c.perform_prepared-reply.ensures.stored c.perform_prepared-reply.ensures.kept c.finish.ensures in
    measured_end c.args.kind (g.R.Rows.sheet c.args.rows.now) (g.R.Rows.sheet c.perform_prepared-reply.new.rows) (g.R.Rows.sheet c.finish.new.self) c.perform_prepared-reply.new.book call c.perform_prepared-reply.result c.perform_prepared-reply.new.height stored.ended c.perform_prepared-reply.ensures.height c.finish.ensures
