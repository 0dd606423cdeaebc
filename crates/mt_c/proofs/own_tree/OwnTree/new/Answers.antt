use Rattle.mt_c.proofs.Prelude.{sym, subst, ap, ◌∙◌, Width, Book, new_is_book, new_sheet, Sheet, IsIdle, fresh_is_idle}
use Rattle.mt_c.proofs.own_tree.OwnTree.new.Goals as goal

pub begun-requires-clause-alone : goal.begun-requires-clause-alone
begun-requires-clause-alone c = ap (λ (s : Sheet). s.shared) c.of_height.ensures.sheet

pub of_height-requires-clause-idle : goal.of_height-requires-clause-idle
of_height-requires-clause-idle c =
    let rows = c.in_ok-rows.ensures ∙ ap (λ (w : Width). new_sheet w c.args.rows) c.width_of.ensures in
    subst (λ (both : Sheet × Book). IsIdle c.args.kind both.0 both.1) (λ i. (sym rows i, sym c.in_ok-book.ensures i)) (fresh_is_idle c.args.kind c.args.rows (new_is_book c.args.rows c.requires))
