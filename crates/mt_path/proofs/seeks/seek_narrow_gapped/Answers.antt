use Rattle.mt_path.proofs.Prelude.{◌+◌, ◌*◌}
use Rattle.mt_path.proofs.Kept.{word_kept}
use Rattle.mt_path.proofs.Loads.{no_reads, reads_next, two_words, three_words}
use Rattle.mt_path.proofs.Groups.{row_at, sought, of_twenty_one}
use Rattle.mt_path.proofs.seeks.seek_narrow_gapped.Goals as goal

pub returns-clause-slot : goal.returns-clause-slot
returns-clause-slot g c kind slots min max lawful within =
    let s = g.R.Rows.sheet c.args.rows.now in
    let five = 5 * (c.under.result + c.under-2.result + c.under-3.result) in
    let group = five + 3 * c.under-4.result in
    let w = three_words 0 s s (g.R.Rows.sheet c.load-fifth.new.self) (g.R.Rows.sheet c.load-tenth.new.self) (g.R.Rows.sheet c.load-fifteenth.new.self) c.args.number (5) (10) (15) c.load-fifth.result c.load-tenth.result c.load-fifteenth.result (no_reads s) c.load-fifth.ensures.word c.load-fifth.ensures.rest c.load-tenth.ensures.word c.load-tenth.ensures.rest c.load-fifteenth.ensures.word c.load-fifteenth.ensures.rest in
    let m = word_kept 3 s (g.R.Rows.sheet c.load-fifteenth.new.self) c.args.number (3 + five) c.load-middle.result w.3 c.load-middle.ensures.word in
    let v = two_words 4 s (g.R.Rows.sheet c.load-middle.new.self) (g.R.Rows.sheet c.load-first.new.self) (g.R.Rows.sheet c.load-second.new.self) c.args.number (1 + group) (2 + group) c.load-first.result c.load-second.result (reads_next 3 s (g.R.Rows.sheet c.load-fifteenth.new.self) (g.R.Rows.sheet c.load-middle.new.self) w.3 c.load-middle.ensures.rest) c.load-first.ensures.word c.load-first.ensures.rest c.load-second.ensures.word c.load-second.ensures.rest in
    of_twenty_one s.tree.table (row_at c.args.number kind min max) (sought s.tree.table (row_at c.args.number kind min max) lawful) c.args.index within slots
    c.load-fifth.result c.load-tenth.result c.load-fifteenth.result c.under.result c.under-2.result c.under-3.result (record { is = w.0; below = c.under.ensures.one; unused = c.under.ensures.unused; past = c.under.ensures.past }) (record { is = w.1; below = c.under-2.ensures.one; unused = c.under-2.ensures.unused; past = c.under-2.ensures.past }) (record { is = w.2; below = c.under-3.ensures.one; unused = c.under-3.ensures.unused; past = c.under-3.ensures.past })
    c.load-middle.result c.under-4.result (record { is = m; below = c.under-4.ensures.one; unused = c.under-4.ensures.unused; past = c.under-4.ensures.past })
    c.load-first.result c.load-second.result c.under-5.result v.0 (record { is = v.1; below = c.under-5.ensures.one; unused = c.under-5.ensures.unused; past = c.under-5.ensures.past })
