use Rattle.mt_pen.proofs.Prelude.{◌+◌, subst, sym, Sheet, AreDraftedFirst, all_drafted, first_drafted, free_next, next_drafted, place_next, pen_in, joined_in, sheet_worked, worked_whole}
use Rattle.mt_pen.proofs.rows.PenRowsRows.draft_row.Goals as goal

pub loop-col-init : goal.loop-col-init
loop-col-init g c =
    let p = c.args.self.now in
    let s = sheet_worked g.W.Writer.table (pen_in p.pen) (joined_in p.pen) p.scan p.scans in
    subst (λ (t : Sheet). AreDraftedFirst c.args.row c.args.words.now 1 s t) (sym c.draft.ensures)
    (first_drafted c.args.row c.args.words.now s c.requires.place (worked_whole g.W.Writer.table (pen_in p.pen) (joined_in p.pen) p.scan p.scans p.worked) c.requires.columns)

pub draft-requires-in-loop-col-clause-place : goal.draft-requires-in-loop-col-clause-place
draft-requires-in-loop-col-clause-place g c =
    let p = c.args.self.now in
    let s = sheet_worked g.W.Writer.table (pen_in p.pen) (joined_in p.pen) p.scan p.scans in
    place_next c.args.row c.args.words.now s c.requires.place (worked_whole g.W.Writer.table (pen_in p.pen) (joined_in p.pen) p.scan p.scans p.worked) c.requires.columns c.loop-col.col _ c.loop-col.invariant c.loop-col-test.true

pub draft-requires-in-loop-col-clause-free : goal.draft-requires-in-loop-col-clause-free
draft-requires-in-loop-col-clause-free g c =
    let p = c.args.self.now in
    let s = sheet_worked g.W.Writer.table (pen_in p.pen) (joined_in p.pen) p.scan p.scans in
    free_next c.args.row c.args.words.now s c.requires.place (worked_whole g.W.Writer.table (pen_in p.pen) (joined_in p.pen) p.scan p.scans p.worked) c.requires.columns c.loop-col.col _ c.loop-col.invariant

pub loop-col-preserved : goal.loop-col-preserved
loop-col-preserved g c =
    let p = c.args.self.now in
    let s = sheet_worked g.W.Writer.table (pen_in p.pen) (joined_in p.pen) p.scan p.scans in
    subst (λ (t : Sheet). AreDraftedFirst c.args.row c.args.words.now (c.loop-col.col + 1) s t) (sym c.draft-in-loop-col.ensures)
    (next_drafted c.args.row c.args.words.now s c.requires.place (worked_whole g.W.Writer.table (pen_in p.pen) (joined_in p.pen) p.scan p.scans p.worked) c.requires.columns c.loop-col.col _ c.loop-col.invariant c.loop-col-test.true)

pub returns : goal.returns
returns g c =
    let p = c.args.self.now in
    let s = sheet_worked g.W.Writer.table (pen_in p.pen) (joined_in p.pen) p.scan p.scans in
    all_drafted c.args.row c.args.words.now s c.requires.place (worked_whole g.W.Writer.table (pen_in p.pen) (joined_in p.pen) p.scan p.scans p.worked) c.requires.columns c.loop-col.col _ c.loop-col.invariant c.loop-col-test.false
