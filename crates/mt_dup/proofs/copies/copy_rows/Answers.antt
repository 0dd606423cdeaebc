use Rattle.mt_dup.proofs.Prelude.{length, sym, ap, subst, arith, Book, new_book, sheet_in, rows_whole, Sheet, IsOpenCopy, one_read}
use Rattle.mt_dup.proofs.WholeCopies.{tree_may, names_many, names_same, may_same}
use Rattle.mt_dup.proofs.NewTables.{WholeCopy, new_open, is_copy, in_order, same_map, may_be_planted, others_new, has_book}
use Rattle.mt_dup.proofs.copies.copy_rows.Given.{Over}
use Rattle.mt_dup.proofs.copies.copy_rows.Goals.{After-copy_row}
use Rattle.mt_dup.proofs.copies.copy_rows.Goals as goal

pub copy_row-requires-clause-may : goal.copy_row-requires-clause-may
copy_row-requires-clause-may g c =
    let s = g.R.Rows.sheet c.args.src.now in
    let s₁ = g.R.Rows.sheet c.root.new.self in
    may_same s s₁ c.root.result (one_read s s₁ c.root.ensures.rest) c.root.ensures.word (tree_may c.requires.lawful.0 s (g.met.R.Rows.whole c.args.src.now) c.requires.lawful.1)

pub copy_row-requires-clause-open : goal.copy_row-requires-clause-open
copy_row-requires-clause-open g c = subst (λ (b : Book). IsOpenCopy b (sheet_in c.args.dst.now)) (sym c.requires.book) (subst (IsOpenCopy (new_book c.args.book.now.rows)) (sym c.requires.rows) (new_open (g.R.Rows.sheet c.args.src.now).tree.table.width c.args.book.now.rows))

pub copy_row-requires-clause-room : goal.copy_row-requires-clause-room
copy_row-requires-clause-room g c =
    let s = g.R.Rows.sheet c.args.src.now in
    let s₁ = g.R.Rows.sheet c.root.new.self in
    let names = ap length (names_same s s₁ c.root.result (one_read s s₁ c.root.ensures.rest) c.root.ensures.word) in
    let many = names_many c.requires.lawful.0 s (g.met.R.Rows.whole c.args.src.now) c.requires.lawful.1 in
    let room = c.requires.room in
    omega (arith, names, many)

-- the tree was copied whole
copied : (g : Over) (c : After-copy_row g) → WholeCopy (g.R.Rows.sheet c.args.src.now) (g.R.Rows.sheet c.root.new.self) (sheet_in c.args.dst.now) (sheet_in c.copy_row.new.dst) c.args.book.now c.copy_row.new.book c.root.result c.copy_row.result
copied g c = record {
  whole = g.met.R.Rows.whole c.args.src.now;
  new_whole = rows_whole c.copy_row.new.dst;
  loads = c.root.ensures.rest;
  word_is = c.root.ensures.word;
  may = record { new_rows = c.requires.rows; new_free = c.requires.book; some = c.requires.lawful; asked = c.requires.room };
  copy = c.copy_row.ensures.copy;
  took = c.copy_row.ensures.taken;
  wrote = c.copy_row.ensures.written;
}

pub returns-clause-copy : goal.returns-clause-copy
returns-clause-copy g c = is_copy (copied g (goal.at.returns-clause-copy g c).After-copy_row)

pub returns-clause-order : goal.returns-clause-order
returns-clause-order g c = in_order (copied g (goal.at.returns-clause-order g c).After-copy_row)

pub returns-clause-map : goal.returns-clause-map
returns-clause-map g c = same_map (copied g (goal.at.returns-clause-map g c).After-copy_row)

pub returns-clause-lawful : goal.returns-clause-lawful
returns-clause-lawful g c = may_be_planted (copied g (goal.at.returns-clause-lawful g c).After-copy_row)

pub returns-clause-rows : goal.returns-clause-rows
returns-clause-rows g c = others_new (copied g (goal.at.returns-clause-rows g c).After-copy_row)

pub returns-clause-book : goal.returns-clause-book
returns-clause-book g c =
    let whole = (rows_whole c.args.dst.now).few in
    let same = ap (λ (x : Sheet). x.tree.rows) c.requires.rows in
    has_book (copied g (goal.at.returns-clause-book g c).After-copy_row) (omega (arith, whole, same))

pub returns-clause-steps : goal.returns-clause-steps
returns-clause-steps g c =
    let s = g.R.Rows.sheet c.args.src.now in
    let s₁ = g.R.Rows.sheet c.root.new.self in
    let names = ap length (names_same s s₁ c.root.result (one_read s s₁ c.root.ensures.rest) c.root.ensures.word) in
    let many = names_many c.requires.lawful.0 s (g.met.R.Rows.whole c.args.src.now) c.requires.lawful.1 in
    omega (arith, names, many, c.copy_row.ensures.steps)
