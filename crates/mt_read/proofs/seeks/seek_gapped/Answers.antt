use Rattle.mt_read.proofs.Prelude.{◌+◌, ◌*◌, refl, sym, ◌∙◌, copy_of, row_at, of_ten, here, kind_of, part_of, row_here}
use Rattle.mt_read.proofs.Finding.{sees_none, sees_two, sees_three, is_sought, two_columns, three_columns, count_is}
use Rattle.mt_read.proofs.seeks.seek_gapped.Goals as goal

pub returns-clause-sees : goal.returns-clause-sees
returns-clause-sees g c =
    let q = part_of c.args.pass.now in
    sees_three q (part_of c.load_in-sixth_on.new.pass) (part_of c.load_in-first.new.pass) (part_of c.load_in-second.new.pass) (part_of c.load_in-third.new.pass)
    (sees_two q q (part_of c.load_in-third_on.new.pass) (part_of c.load_in-sixth_on.new.pass) (sees_none q) c.load_in-third_on.ensures.sees c.load_in-sixth_on.ensures.sees) c.load_in-first.ensures.sees c.load_in-second.ensures.sees c.load_in-third.ensures.sees

pub returns-clause-slot : goal.returns-clause-slot
returns-clause-slot g c =
    let q = part_of c.args.pass.now in let row = row_here q c.args.spot in
    let group = 3 * (c.under.result + c.under-2.result) in
    let w = two_columns q row c.requires.on q (part_of c.load_in-third_on.new.pass) (part_of c.load_in-sixth_on.new.pass) (3) (6) c.load_in-third_on.result c.load_in-sixth_on.result (sees_none q) c.load_in-third_on.ensures.word c.load_in-third_on.ensures.sees c.load_in-sixth_on.ensures.word c.load_in-sixth_on.ensures.sees in
    let v = three_columns q row c.requires.on (part_of c.load_in-sixth_on.new.pass) (part_of c.load_in-first.new.pass) (part_of c.load_in-second.new.pass) (part_of c.load_in-third.new.pass) (1 + group) (2 + group) (3 + group) c.load_in-first.result c.load_in-second.result c.load_in-third.result w.2 c.load_in-first.ensures.word c.load_in-first.ensures.sees c.load_in-second.ensures.word c.load_in-second.ensures.sees c.load_in-third.ensures.word c.load_in-third.ensures.sees in
    of_ten (copy_of (here q)) (row_at (here q).row (kind_of q (here q)) (here q).extent.first (here q).extent.last) (is_sought q row c.requires.on) c.args.index c.requires.to (sym (count_is q row c.requires.on _ refl) ∙ c.requires.slots)
    c.load_in-third_on.result c.load_in-sixth_on.result c.under.result c.under-2.result (record { is = w.0; below = c.under.ensures.one; unused = c.under.ensures.unused; past = c.under.ensures.past }) (record { is = w.1; below = c.under-2.ensures.one; unused = c.under-2.ensures.unused; past = c.under-2.ensures.past })
    c.load_in-first.result c.load_in-second.result c.load_in-third.result c.under-3.result c.under-4.result v.0 (record { is = v.1; below = c.under-3.ensures.one; unused = c.under-3.ensures.unused; past = c.under-3.ensures.past }) (record { is = v.2; below = c.under-4.ensures.one; unused = c.under-4.ensures.unused; past = c.under-4.ensures.past })
