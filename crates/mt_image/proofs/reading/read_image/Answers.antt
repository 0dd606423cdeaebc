use Rattle.mt_image.proofs.Prelude.{ap, sym, ◌∙◌, err_from_is_err_and, sheet_in, Rooted, Sheet}
use Rattle.mt_image.proofs.Assembled.{image_is, no_image_is, still_made, tree_is, words_few, words_whole}
use Rattle.mt_image.proofs.reading.read_image.Goals as goal

pub returns-in_err-words-clause-err : goal.returns-in_err-words-clause-err
returns-in_err-words-clause-err c =
    let p = err_from_is_err_and c.from_residual-in_err-words.result c.from_residual-in_err-words.ensures.1 in
    rw p.1 (λ other. absurd (other p.2))

pub make_rows-requires-clause-whole : goal.make_rows-requires-clause-whole
make_rows-requires-clause-whole c = words_whole c.args.bytes.now c.in_ok-kind.kind c.deref.result.now (c.deref.ensures.value ∙ c.in_ok-words.ensures)

pub make_rows-requires-clause-few : goal.make_rows-requires-clause-few
make_rows-requires-clause-few c = words_few c.args.bytes.now c.in_ok-kind.kind c.deref.result.now (c.deref.ensures.value ∙ c.in_ok-words.ensures) c.in_ok-kind.ensures.rows

pub returns-in_err-rows-clause-err : goal.returns-in_err-rows-clause-err
returns-in_err-rows-clause-err c =
    let p = err_from_is_err_and c.from_residual-in_err-rows.result c.from_residual-in_err-rows.ensures.1 in
    rw p.1 (λ other. absurd (other p.2))

pub check_rows-requires-clause-words : goal.check_rows-requires-clause-words
check_rows-requires-clause-words c =
    let is = tree_is c.args.bytes.now c.in_ok-kind.kind c.number_at.result c.deref.result.now (sheet_in c.in_ok-rows.rows) (c.deref.ensures.value ∙ c.in_ok-words.ensures) c.number_at.ensures c.in_ok-rows.ensures in
    ap (λ (t : Rooted). t.table.words) is ∙ sym (c.deref-2.ensures.value ∙ c.in_ok-words.ensures)

pub returns-in_err-check_rows-clause-err : goal.returns-in_err-check_rows-clause-err
returns-in_err-check_rows-clause-err c =
    let is = tree_is c.args.bytes.now c.in_ok-kind.kind c.number_at.result c.deref.result.now (sheet_in c.in_ok-rows.rows) (c.deref.ensures.value ∙ c.in_ok-words.ensures) c.number_at.ensures c.in_ok-rows.ensures in
    let p = err_from_is_err_and c.from_residual-in_err-check_rows.result c.from_residual-in_err-check_rows.ensures.1 in
    rw (p.1, p.2) (λ other. no_image_is c.args.bytes.now c.in_ok-kind.kind (sheet_in c.in_ok-rows.rows).tree c.in_err-check_rows.field-0.0 c.in_ok-kind.ensures.ok is (c.in_err-check_rows.ensures.err other))

pub returns-clause-ok : goal.returns-clause-ok
returns-clause-ok c =
    let is = tree_is c.args.bytes.now c.in_ok-kind.kind c.number_at.result c.deref.result.now (sheet_in c.in_ok-rows.rows) (c.deref.ensures.value ∙ c.in_ok-words.ensures) c.number_at.ensures c.in_ok-rows.ensures in
    image_is c.args.bytes.now c.in_ok-kind.kind (sheet_in c.in_ok-rows.rows).tree (sheet_in c.check_rows.new.rows).tree c.in_ok-kind.ensures.ok is (ap (λ (s : Sheet). s.tree) c.check_rows.ensures.rest) c.in_ok-check_rows.ensures.ok

pub returns-clause-made : goal.returns-clause-made
returns-clause-made c = still_made c.args.bytes.now c.in_ok-kind.kind c.number_at.result c.deref.result.now (sheet_in c.in_ok-rows.rows) (sheet_in c.check_rows.new.rows) (c.deref.ensures.value ∙ c.in_ok-words.ensures) c.number_at.ensures c.in_ok-rows.ensures c.check_rows.ensures.rest
