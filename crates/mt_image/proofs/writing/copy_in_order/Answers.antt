use Rattle.mt_image.proofs.Prelude.{◌^◌, ◌<◌, length, ap, subst, ◌∙◌, arith, AllByRecursion, Book, sheet_in, rows_whole, new_long}
use Rattle.mt_image.proofs.Written.{few_live, ordered}
use Rattle.mt_image.proofs.writing.copy_in_order.Goals as goal

pub of_width-requires : goal.of_width-requires
of_width-requires g c =
    let few = few_live c.args.kind (g.R.Rows.sheet c.args.rows.now) (g.met.R.Rows.whole c.args.rows.now) c.requires.lawful in
    omega (arith, few, c.requires.live)

pub copy_rows-root-requires-clause-room : goal.copy_rows-root-requires-clause-room
copy_rows-root-requires-clause-room g c =
    let free = ap (λ (b : Book). length b.free) c.in_ok-book.ensures ∙ new_long c.args.live in
    omega (arith, free, c.requires.live)

pub returns-clause-copy : goal.returns-clause-copy
returns-clause-copy g c =
    ordered c.args.kind (g.R.Rows.sheet c.args.rows.now).tree (sheet_in c.copy_rows-root.new.dst) c.copy_rows-root.result c.args.live _ c.into_words-words.result.items (rows_whole c.copy_rows-root.new.dst)
    (ap (λ (b : Book). b.rows) c.in_ok-book.ensures) c.requires.live
    c.copy_rows-root.ensures.copy c.copy_rows-root.ensures.order c.copy_rows-root.ensures.map (c.copy_rows-root.ensures.lawful c.args.kind c.requires.lawful) c.copy_rows-root.ensures.rows
    c.into_words-words.ensures.size c.into_words-words.ensures.before c.into_words-words.ensures.rows c.copy_rows-root.type_inv (subst (AllByRecursion (λ n. n < 2 ^ 64)) c.deref.ensures.value c.tell_fit.ensures)
