use Rattle.mt_read.proofs.Prelude.{◌+◌, ◌*◌, refl, sym, ◌∙◌, copy_of, row_at, of_twenty_one, here, kind_of, part_of, row_here}
use Rattle.mt_read.proofs.Finding.{sees_none, sees_on, sees_two, sees_three, is_sought, column_kept, two_columns, three_columns, count_is}
use Rattle.mt_read.proofs.seeks.seek_narrow_gapped.Goals as goal

pub returns-clause-sees : goal.returns-clause-sees
returns-clause-sees g c =
    let q = part_of c.args.pass.now in
    let fives = sees_three q q (part_of c.load_in-fifth.new.pass) (part_of c.load_in-tenth.new.pass) (part_of c.load_in-fifteenth.new.pass) (sees_none q) c.load_in-fifth.ensures.sees c.load_in-tenth.ensures.sees c.load_in-fifteenth.ensures.sees in
    sees_two q (part_of c.load_in-middle.new.pass) (part_of c.load_in-first.new.pass) (part_of c.load_in-second.new.pass) (sees_on q (part_of c.load_in-fifteenth.new.pass) (part_of c.load_in-middle.new.pass) fives c.load_in-middle.ensures.sees) c.load_in-first.ensures.sees c.load_in-second.ensures.sees

pub returns-clause-slot : goal.returns-clause-slot
returns-clause-slot g c =
    let q = part_of c.args.pass.now in let row = row_here q c.args.spot in
    let five = 5 * (c.under.result + c.under-2.result + c.under-3.result) in
    let group = five + 3 * c.under-4.result in
    let w = three_columns q row c.requires.on q (part_of c.load_in-fifth.new.pass) (part_of c.load_in-tenth.new.pass) (part_of c.load_in-fifteenth.new.pass) (5) (10) (15) c.load_in-fifth.result c.load_in-tenth.result c.load_in-fifteenth.result (sees_none q) c.load_in-fifth.ensures.word c.load_in-fifth.ensures.sees c.load_in-tenth.ensures.word c.load_in-tenth.ensures.sees c.load_in-fifteenth.ensures.word c.load_in-fifteenth.ensures.sees in
    let m = column_kept q row c.requires.on (part_of c.load_in-fifteenth.new.pass) (3 + five) c.load_in-middle.result w.3 c.load_in-middle.ensures.word in
    let v = two_columns q row c.requires.on (part_of c.load_in-middle.new.pass) (part_of c.load_in-first.new.pass) (part_of c.load_in-second.new.pass) (1 + group) (2 + group) c.load_in-first.result c.load_in-second.result (sees_on q (part_of c.load_in-fifteenth.new.pass) (part_of c.load_in-middle.new.pass) w.3 c.load_in-middle.ensures.sees) c.load_in-first.ensures.word c.load_in-first.ensures.sees c.load_in-second.ensures.word c.load_in-second.ensures.sees in
    of_twenty_one (copy_of (here q)) (row_at (here q).row (kind_of q (here q)) (here q).extent.first (here q).extent.last) (is_sought q row c.requires.on) c.args.index c.requires.to (sym (count_is q row c.requires.on _ refl) ∙ c.requires.slots)
    c.load_in-fifth.result c.load_in-tenth.result c.load_in-fifteenth.result c.under.result c.under-2.result c.under-3.result (record { is = w.0; below = c.under.ensures.one; unused = c.under.ensures.unused; past = c.under.ensures.past }) (record { is = w.1; below = c.under-2.ensures.one; unused = c.under-2.ensures.unused; past = c.under-2.ensures.past }) (record { is = w.2; below = c.under-3.ensures.one; unused = c.under-3.ensures.unused; past = c.under-3.ensures.past })
    c.load_in-middle.result c.under-4.result (record { is = m; below = c.under-4.ensures.one; unused = c.under-4.ensures.unused; past = c.under-4.ensures.past })
    c.load_in-first.result c.load_in-second.result c.under-5.result v.0 (record { is = v.1; below = c.under-5.ensures.one; unused = c.under-5.ensures.unused; past = c.under-5.ensures.past })
