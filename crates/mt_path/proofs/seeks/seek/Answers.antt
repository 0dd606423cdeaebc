use Rattle.mt_path.proofs.Prelude.{◌∙◌, sym, ap, subst, IsPlace, Rooted, IsLawfulRow, slot_for, spans_of}
use Rattle.mt_path.proofs.Kept.{tree_kept, width_kept}
use Rattle.mt_path.proofs.Loads.{reads_more}
use Rattle.mt_path.proofs.seeks.seek.Goals as goal

pub seek_apart-requires-clause-row : goal.seek_apart-requires-clause-row
seek_apart-requires-clause-row g c =
    let s = g.R.Rows.sheet c.args.rows.now in let s₁ = g.R.Rows.sheet c.touch_lines.new.rows in
    subst (λ (t : Rooted). IsPlace t c.args.row.number 0) (sym (tree_kept 4 s s₁ c.touch_lines.ensures)) c.requires.place

pub seek_apart-requires-clause-lawful : goal.seek_apart-requires-clause-lawful
seek_apart-requires-clause-lawful g c =
    let s = g.R.Rows.sheet c.args.rows.now in let s₁ = g.R.Rows.sheet c.touch_lines.new.rows in
    subst (λ (t : Rooted). IsLawfulRow t.table c.args.row) (sym (tree_kept 4 s s₁ c.touch_lines.ensures)) c.requires.lawful

pub seek_groups-requires-clause-width : goal.seek_groups-requires-clause-width
seek_groups-requires-clause-width g c = width_kept 4 _ _ c.args.width c.touch_lines.ensures c.requires.wide

pub seek_groups-requires-clause-row : goal.seek_groups-requires-clause-row
seek_groups-requires-clause-row g c =
    let s = g.R.Rows.sheet c.args.rows.now in let s₁ = g.R.Rows.sheet c.touch_lines.new.rows in
    subst (λ (t : Rooted). IsPlace t c.args.row.number 0) (sym (tree_kept 4 s s₁ c.touch_lines.ensures)) c.requires.place

pub returns-then-touch_lines-clause-slot : goal.returns-then-touch_lines-clause-slot
returns-then-touch_lines-clause-slot g c =
    let s = g.R.Rows.sheet c.args.rows.now in let s₁ = g.R.Rows.sheet c.touch_lines.new.rows in
    c.seek_apart.ensures.slot ∙ ap (λ (t : Rooted). slot_for (spans_of t.table c.args.row) c.args.index) (tree_kept 4 s s₁ c.touch_lines.ensures)

pub returns-then-touch_lines-clause-reads : goal.returns-then-touch_lines-clause-reads
returns-then-touch_lines-clause-reads g c =
    let s = g.R.Rows.sheet c.args.rows.now in let s₁ = g.R.Rows.sheet c.touch_lines.new.rows in
    reads_more 4 7 s s₁ (g.R.Rows.sheet c.seek_apart.new.rows) c.touch_lines.ensures c.seek_apart.ensures.reads

pub returns-clause-slot : goal.returns-clause-slot
returns-clause-slot g c =
    let s = g.R.Rows.sheet c.args.rows.now in let s₁ = g.R.Rows.sheet c.touch_lines.new.rows in
    let kept = tree_kept 4 s s₁ c.touch_lines.ensures in
    let lawful = subst (λ (t : Rooted). IsLawfulRow t.table c.args.row) (sym kept) c.requires.lawful in
    c.seek_groups.ensures.slot c.args.row.min c.args.row.max lawful c.requires.reaches ∙ ap (λ (t : Rooted). slot_for (spans_of t.table c.args.row) c.args.index) kept

pub returns-clause-reads : goal.returns-clause-reads
returns-clause-reads g c =
    let s = g.R.Rows.sheet c.args.rows.now in let s₁ = g.R.Rows.sheet c.touch_lines.new.rows in
    reads_more 4 7 s s₁ (g.R.Rows.sheet c.seek_groups.new.rows) c.touch_lines.ensures c.seek_groups.ensures.reads
