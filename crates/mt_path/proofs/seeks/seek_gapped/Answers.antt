use Rattle.mt_path.proofs.Prelude.{◌+◌, ◌*◌}
use Rattle.mt_path.proofs.Loads.{no_reads, two_words, three_words}
use Rattle.mt_path.proofs.Groups.{row_at, sought, of_ten}
use Rattle.mt_path.proofs.seeks.seek_gapped.Goals as goal

pub returns-clause-slot : goal.returns-clause-slot
returns-clause-slot g c kind slots min max lawful within =
    let s = g.R.Rows.sheet c.args.rows.now in
    let group = 3 * (c.under.result + c.under-2.result) in
    let w = two_words 0 s s (g.R.Rows.sheet c.load-third_on.new.self) (g.R.Rows.sheet c.load-sixth_on.new.self) c.args.number (3) (6) c.load-third_on.result c.load-sixth_on.result (no_reads s) c.load-third_on.ensures.word c.load-third_on.ensures.rest c.load-sixth_on.ensures.word c.load-sixth_on.ensures.rest in
    let v = three_words 2 s (g.R.Rows.sheet c.load-sixth_on.new.self) (g.R.Rows.sheet c.load-first.new.self) (g.R.Rows.sheet c.load-second.new.self) (g.R.Rows.sheet c.load-third.new.self) c.args.number (1 + group) (2 + group) (3 + group) c.load-first.result c.load-second.result c.load-third.result w.2 c.load-first.ensures.word c.load-first.ensures.rest c.load-second.ensures.word c.load-second.ensures.rest c.load-third.ensures.word c.load-third.ensures.rest in
    of_ten s.tree.table (row_at c.args.number kind min max) (sought s.tree.table (row_at c.args.number kind min max) lawful) c.args.index within slots
    c.load-third_on.result c.load-sixth_on.result c.under.result c.under-2.result (record { is = w.0; below = c.under.ensures.one; unused = c.under.ensures.unused; past = c.under.ensures.past }) (record { is = w.1; below = c.under-2.ensures.one; unused = c.under-2.ensures.unused; past = c.under-2.ensures.past })
    c.load-first.result c.load-second.result c.load-third.result c.under-3.result c.under-4.result v.0 (record { is = v.1; below = c.under-3.ensures.one; unused = c.under-3.ensures.unused; past = c.under-3.ensures.past }) (record { is = v.2; below = c.under-4.ensures.one; unused = c.under-4.ensures.unused; past = c.under-4.ensures.past })
