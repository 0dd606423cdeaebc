use Rattle.mt_path.proofs.Prelude.{◌+◌, ◌*◌}
use Rattle.mt_path.proofs.Loads.{no_reads, three_words}
use Rattle.mt_path.proofs.Groups.{row_at, sought, of_sixteen}
use Rattle.mt_path.proofs.seeks.seek_wide.Goals as goal

pub returns-clause-slot : goal.returns-clause-slot
returns-clause-slot g c kind slots min max lawful within =
    let s = g.R.Rows.sheet c.args.rows.now in
    let group = 4 * (c.under.result + c.under-2.result + c.under-3.result) in
    let w = three_words 0 s s (g.R.Rows.sheet c.load-fourth.new.self) (g.R.Rows.sheet c.load-eighth.new.self) (g.R.Rows.sheet c.load-twelfth.new.self) c.args.number (4) (8) (12) c.load-fourth.result c.load-eighth.result c.load-twelfth.result (no_reads s) c.load-fourth.ensures.word c.load-fourth.ensures.rest c.load-eighth.ensures.word c.load-eighth.ensures.rest c.load-twelfth.ensures.word c.load-twelfth.ensures.rest in
    let v = three_words 3 s (g.R.Rows.sheet c.load-twelfth.new.self) (g.R.Rows.sheet c.load-first.new.self) (g.R.Rows.sheet c.load-second.new.self) (g.R.Rows.sheet c.load-third.new.self) c.args.number (1 + group) (2 + group) (3 + group) c.load-first.result c.load-second.result c.load-third.result w.3 c.load-first.ensures.word c.load-first.ensures.rest c.load-second.ensures.word c.load-second.ensures.rest c.load-third.ensures.word c.load-third.ensures.rest in
    of_sixteen s.tree.table (row_at c.args.number kind min max) (sought s.tree.table (row_at c.args.number kind min max) lawful) c.args.index within slots
    c.load-fourth.result c.load-eighth.result c.load-twelfth.result c.under.result c.under-2.result c.under-3.result (record { is = w.0; below = c.under.ensures.one; unused = c.under.ensures.unused; past = c.under.ensures.past }) (record { is = w.1; below = c.under-2.ensures.one; unused = c.under-2.ensures.unused; past = c.under-2.ensures.past }) (record { is = w.2; below = c.under-3.ensures.one; unused = c.under-3.ensures.unused; past = c.under-3.ensures.past })
    c.load-first.result c.load-second.result c.load-third.result c.under-4.result c.under-5.result v.0 (record { is = v.1; below = c.under-4.ensures.one; unused = c.under-4.ensures.unused; past = c.under-4.ensures.past }) (record { is = v.2; below = c.under-5.ensures.one; unused = c.under-5.ensures.unused; past = c.under-5.ensures.past })
