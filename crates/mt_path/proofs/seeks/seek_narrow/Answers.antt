use Rattle.mt_path.proofs.Prelude.{◌+◌, ◌*◌}
use Rattle.mt_path.proofs.Kept.{word_kept}
use Rattle.mt_path.proofs.Loads.{no_reads, reads_next, three_words}
use Rattle.mt_path.proofs.Groups.{row_at, sought, of_thirty_two}
use Rattle.mt_path.proofs.seeks.seek_narrow.Goals as goal

pub returns-clause-slot : goal.returns-clause-slot
returns-clause-slot g c kind slots min max lawful within =
    let s = g.R.Rows.sheet c.args.rows.now in
    let eight = 8 * (c.under.result + c.under-2.result + c.under-3.result) in
    let w = three_words 0 s s (g.R.Rows.sheet c.load-eighth.new.self) (g.R.Rows.sheet c.load-sixteenth.new.self) (g.R.Rows.sheet c.load-last_eight.new.self) c.args.number (8) (16) (24) c.load-eighth.result c.load-sixteenth.result c.load-last_eight.result (no_reads s) c.load-eighth.ensures.word c.load-eighth.ensures.rest c.load-sixteenth.ensures.word c.load-sixteenth.ensures.rest c.load-last_eight.ensures.word c.load-last_eight.ensures.rest in
    let m = word_kept 3 s (g.R.Rows.sheet c.load-last_eight.new.self) c.args.number (4 + eight) c.load-middle.result w.3 c.load-middle.ensures.word in
    let group = eight + 4 * c.under-4.result in
    let v = three_words 4 s (g.R.Rows.sheet c.load-middle.new.self) (g.R.Rows.sheet c.load-first.new.self) (g.R.Rows.sheet c.load-second.new.self) (g.R.Rows.sheet c.load-third.new.self) c.args.number (1 + group) (2 + group) (3 + group) c.load-first.result c.load-second.result c.load-third.result (reads_next 3 s (g.R.Rows.sheet c.load-last_eight.new.self) (g.R.Rows.sheet c.load-middle.new.self) w.3 c.load-middle.ensures.rest) c.load-first.ensures.word c.load-first.ensures.rest c.load-second.ensures.word c.load-second.ensures.rest c.load-third.ensures.word c.load-third.ensures.rest in
    of_thirty_two s.tree.table (row_at c.args.number kind min max) (sought s.tree.table (row_at c.args.number kind min max) lawful) c.args.index within slots
    c.load-eighth.result c.load-sixteenth.result c.load-last_eight.result c.under.result c.under-2.result c.under-3.result (record { is = w.0; below = c.under.ensures.one; unused = c.under.ensures.unused; past = c.under.ensures.past }) (record { is = w.1; below = c.under-2.ensures.one; unused = c.under-2.ensures.unused; past = c.under-2.ensures.past }) (record { is = w.2; below = c.under-3.ensures.one; unused = c.under-3.ensures.unused; past = c.under-3.ensures.past })
    c.load-middle.result c.under-4.result (record { is = m; below = c.under-4.ensures.one; unused = c.under-4.ensures.unused; past = c.under-4.ensures.past })
    c.load-first.result c.load-second.result c.load-third.result c.under-5.result c.under-6.result v.0 (record { is = v.1; below = c.under-5.ensures.one; unused = c.under-5.ensures.unused; past = c.under-5.ensures.past }) (record { is = v.2; below = c.under-6.ensures.one; unused = c.under-6.ensures.unused; past = c.under-6.ensures.past })
