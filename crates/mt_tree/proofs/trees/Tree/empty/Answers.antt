use Rattle.mt_tree.proofs.Prelude.{rules, sym, subst, Book, new_is_book, Sheet, IsIdle, fresh_is_idle}
use Rattle.mt_tree.proofs.trees.Tree.empty.Goals as goal

pub open-requires-clause-idle : goal.open-requires-clause-idle
open-requires-clause-idle c =
    subst (λ (both : Sheet × Book). IsIdle c.args.shape.kind both.0 both.1) (λ i. (sym c.in_ok-rows.ensures i, sym c.in_ok-book.ensures i)) (fresh_is_idle c.args.shape.kind c.args.shape.rows (new_is_book c.args.shape.rows (search rules)))
