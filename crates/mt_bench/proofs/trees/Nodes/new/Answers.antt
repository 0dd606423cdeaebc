use Rattle.mt_bench.proofs.Prelude.{sym, subst, ap, ◌∙◌, Width, Book, new_is_book, new_sheet, Sheet, IsIdle, fresh_is_idle}
use Rattle.mt_bench.proofs.trees.Nodes.new.Goals as goal

pub new-requires-2 : goal.new-requires-2
new-requires-2 c =
    let size = c.rows_for-size.result in
    let made = c.in_ok-rows.ensures ∙ ap (λ (w : Width). new_sheet w size) c.width_of.ensures in
    subst (λ (both : Sheet × Book). IsIdle c.args.kind both.0 both.1) (λ i. (sym made i, sym c.in_ok-book.ensures i)) (fresh_is_idle c.args.kind size (new_is_book size c.rows_for-size.ensures))
