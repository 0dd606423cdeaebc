use Rattle.mt_pen.proofs.Prelude.{◌∙◌, quiet_moment, pen_in, joined_part, joined_in}
use Rattle.mt_pen.proofs.Finishing.{may_end, ended_sheet, ended_steps}
use Rattle.mt_pen.proofs.Working.{worked_end}
use Rattle.mt_pen.proofs.rows.PenRowsRows.finish.Goals as goal

pub store_commits-requires-clause-may : goal.store_commits-requires-clause-may
store_commits-requires-clause-may g c =
    let s = c.args.self.now in
    may_end g.W.Writer.table (pen_in s.pen) (joined_in s.pen) s.scan s.scans c.requires.0 c.args.call.now c.args.reply.now s.worked c.requires.1

pub invariant_of-self-clause-worked : goal.invariant_of-self-clause-worked
invariant_of-self-clause-worked g c =
    let s = c.args.self.now in
    worked_end _ _ _ _ _ c.store_commits.ensures.pen s.worked

pub invariant_of-self-clause-counted : goal.invariant_of-self-clause-counted
invariant_of-self-clause-counted g c =
    let s = c.args.self.now in
    ended_steps (pen_in s.pen) (joined_part s.pen) (joined_part c.store_commits.new.pen) (quiet_moment (pen_in s.pen) (joined_part s.pen) c.args.call.now c.args.reply.now) c.store_commits.ensures.pass ∙ s.counted

pub returns : goal.returns
returns g c =
    let s = c.args.self.now in
    let after = c.store_commits.new.pen in
    ended_sheet g.W.Writer.table (pen_in s.pen) (pen_in after) (joined_part s.pen) (joined_part after) s.scan s.scans c.args.call.now c.args.reply.now c.store_commits.ensures.pen c.store_commits.ensures.pass
