use Rattle.mt_read.proofs.Prelude.{◌+◌, ◌*◌, refl, sym, ◌∙◌, copy_of, row_at, of_sixteen, here, kind_of, part_of, row_here}
use Rattle.mt_read.proofs.Finding.{sees_none, sees_three, is_sought, three_columns, count_is}
use Rattle.mt_read.proofs.seeks.seek_wide.Goals as goal

pub returns-clause-sees : goal.returns-clause-sees
returns-clause-sees g c =
    let q = part_of c.args.pass.now in
    sees_three q (part_of c.load_in-twelfth.new.pass) (part_of c.load_in-first.new.pass) (part_of c.load_in-second.new.pass) (part_of c.load_in-third.new.pass)
    (sees_three q q (part_of c.load_in-fourth.new.pass) (part_of c.load_in-eighth.new.pass) (part_of c.load_in-twelfth.new.pass) (sees_none q) c.load_in-fourth.ensures.sees c.load_in-eighth.ensures.sees c.load_in-twelfth.ensures.sees) c.load_in-first.ensures.sees c.load_in-second.ensures.sees c.load_in-third.ensures.sees

pub returns-clause-slot : goal.returns-clause-slot
returns-clause-slot g c =
    let q = part_of c.args.pass.now in let row = row_here q c.args.spot in
    let group = 4 * (c.under.result + c.under-2.result + c.under-3.result) in
    let w = three_columns q row c.requires.on q (part_of c.load_in-fourth.new.pass) (part_of c.load_in-eighth.new.pass) (part_of c.load_in-twelfth.new.pass) (4) (8) (12) c.load_in-fourth.result c.load_in-eighth.result c.load_in-twelfth.result (sees_none q) c.load_in-fourth.ensures.word c.load_in-fourth.ensures.sees c.load_in-eighth.ensures.word c.load_in-eighth.ensures.sees c.load_in-twelfth.ensures.word c.load_in-twelfth.ensures.sees in
    let v = three_columns q row c.requires.on (part_of c.load_in-twelfth.new.pass) (part_of c.load_in-first.new.pass) (part_of c.load_in-second.new.pass) (part_of c.load_in-third.new.pass) (1 + group) (2 + group) (3 + group) c.load_in-first.result c.load_in-second.result c.load_in-third.result w.3 c.load_in-first.ensures.word c.load_in-first.ensures.sees c.load_in-second.ensures.word c.load_in-second.ensures.sees c.load_in-third.ensures.word c.load_in-third.ensures.sees in
    of_sixteen (copy_of (here q)) (row_at (here q).row (kind_of q (here q)) (here q).extent.first (here q).extent.last) (is_sought q row c.requires.on) c.args.index c.requires.to (sym (count_is q row c.requires.on _ refl) ∙ c.requires.slots)
    c.load_in-fourth.result c.load_in-eighth.result c.load_in-twelfth.result c.under.result c.under-2.result c.under-3.result (record { is = w.0; below = c.under.ensures.one; unused = c.under.ensures.unused; past = c.under.ensures.past }) (record { is = w.1; below = c.under-2.ensures.one; unused = c.under-2.ensures.unused; past = c.under-2.ensures.past }) (record { is = w.2; below = c.under-3.ensures.one; unused = c.under-3.ensures.unused; past = c.under-3.ensures.past })
    c.load_in-first.result c.load_in-second.result c.load_in-third.result c.under-4.result c.under-5.result v.0 (record { is = v.1; below = c.under-4.ensures.one; unused = c.under-4.ensures.unused; past = c.under-4.ensures.past }) (record { is = v.2; below = c.under-5.ensures.one; unused = c.under-5.ensures.unused; past = c.under-5.ensures.past })
