use Rattle.mt_read.proofs.Prelude.{◌+◌, ◌*◌, refl, sym, ◌∙◌, copy_of, row_at, of_thirty_two, here, kind_of, part_of, row_here}
use Rattle.mt_read.proofs.Finding.{sees_none, sees_on, sees_three, is_sought, column_kept, three_columns, count_is}
use Rattle.mt_read.proofs.seeks.seek_narrow.Goals as goal

pub returns-clause-sees : goal.returns-clause-sees
returns-clause-sees g c =
    let q = part_of c.args.pass.now in
    let eights = sees_three q q (part_of c.load_in-eighth.new.pass) (part_of c.load_in-sixteenth.new.pass) (part_of c.load_in-last_eight.new.pass) (sees_none q) c.load_in-eighth.ensures.sees c.load_in-sixteenth.ensures.sees c.load_in-last_eight.ensures.sees in
    sees_three q (part_of c.load_in-middle.new.pass) (part_of c.load_in-first.new.pass) (part_of c.load_in-second.new.pass) (part_of c.load_in-third.new.pass)
    (sees_on q (part_of c.load_in-last_eight.new.pass) (part_of c.load_in-middle.new.pass) eights c.load_in-middle.ensures.sees) c.load_in-first.ensures.sees c.load_in-second.ensures.sees c.load_in-third.ensures.sees

pub returns-clause-slot : goal.returns-clause-slot
returns-clause-slot g c =
    let q = part_of c.args.pass.now in let row = row_here q c.args.spot in
    let eight = 8 * (c.under.result + c.under-2.result + c.under-3.result) in
    let w = three_columns q row c.requires.on q (part_of c.load_in-eighth.new.pass) (part_of c.load_in-sixteenth.new.pass) (part_of c.load_in-last_eight.new.pass) (8) (16) (24) c.load_in-eighth.result c.load_in-sixteenth.result c.load_in-last_eight.result (sees_none q) c.load_in-eighth.ensures.word c.load_in-eighth.ensures.sees c.load_in-sixteenth.ensures.word c.load_in-sixteenth.ensures.sees c.load_in-last_eight.ensures.word c.load_in-last_eight.ensures.sees in
    let m = column_kept q row c.requires.on (part_of c.load_in-last_eight.new.pass) (4 + eight) c.load_in-middle.result w.3 c.load_in-middle.ensures.word in
    let group = eight + 4 * c.under-4.result in
    let v = three_columns q row c.requires.on (part_of c.load_in-middle.new.pass) (part_of c.load_in-first.new.pass) (part_of c.load_in-second.new.pass) (part_of c.load_in-third.new.pass) (1 + group) (2 + group) (3 + group) c.load_in-first.result c.load_in-second.result c.load_in-third.result (sees_on q (part_of c.load_in-last_eight.new.pass) (part_of c.load_in-middle.new.pass) w.3 c.load_in-middle.ensures.sees) c.load_in-first.ensures.word c.load_in-first.ensures.sees c.load_in-second.ensures.word c.load_in-second.ensures.sees c.load_in-third.ensures.word c.load_in-third.ensures.sees in
    of_thirty_two (copy_of (here q)) (row_at (here q).row (kind_of q (here q)) (here q).extent.first (here q).extent.last) (is_sought q row c.requires.on) c.args.index c.requires.to (sym (count_is q row c.requires.on _ refl) ∙ c.requires.slots)
    c.load_in-eighth.result c.load_in-sixteenth.result c.load_in-last_eight.result c.under.result c.under-2.result c.under-3.result (record { is = w.0; below = c.under.ensures.one; unused = c.under.ensures.unused; past = c.under.ensures.past }) (record { is = w.1; below = c.under-2.ensures.one; unused = c.under-2.ensures.unused; past = c.under-2.ensures.past }) (record { is = w.2; below = c.under-3.ensures.one; unused = c.under-3.ensures.unused; past = c.under-3.ensures.past })
    c.load_in-middle.result c.under-4.result (record { is = m; below = c.under-4.ensures.one; unused = c.under-4.ensures.unused; past = c.under-4.ensures.past })
    c.load_in-first.result c.load_in-second.result c.load_in-third.result c.under-5.result c.under-6.result v.0 (record { is = v.1; below = c.under-5.ensures.one; unused = c.under-5.ensures.unused; past = c.under-5.ensures.past }) (record { is = v.2; below = c.under-6.ensures.one; unused = c.under-6.ensures.unused; past = c.under-6.ensures.past })
