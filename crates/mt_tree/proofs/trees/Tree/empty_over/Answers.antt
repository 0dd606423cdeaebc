use Rattle.mt_tree.proofs.Prelude.{rules, ◌∙◌, sym, ap, subst, fresh_is_idle, IsIdle, new_is_book, Book, sheet_in, Sheet}
use Rattle.mt_tree.proofs.trees.Tree.empty_over.Goals as goal

pub measured-height-requires : goal.measured-height-requires
measured-height-requires c =
    subst (λ (both : Sheet × Book). IsIdle c.args.shape.kind both.0 both.1) (λ i. (sym c.in_ok-rows.ensures i, sym c.in_ok-book.ensures i)) (fresh_is_idle c.args.shape.kind c.args.shape.rows (new_is_book c.args.shape.rows (search rules)))

pub open_over-requires-clause-idle : goal.open_over-requires-clause-idle
open_over-requires-clause-idle c =
    subst (λ (both : Sheet × Book). IsIdle c.args.shape.kind both.0 both.1) (λ i. (sym (ap sheet_in c.of-opening.ensures ∙ c.in_ok-rows.ensures) i, sym (c.measured-height.ensures.book ∙ c.in_ok-book.ensures) i)) (fresh_is_idle c.args.shape.kind c.args.shape.rows (new_is_book c.args.shape.rows (search rules)))
