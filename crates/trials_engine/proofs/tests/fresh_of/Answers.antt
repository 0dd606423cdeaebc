use Rattle.trials_engine.proofs.Prelude.{sym, ap, ◌∙◌, subst, Width, Book, new_is_book, new_sheet, Sheet, IsIdle, fresh_is_idle}
use Rattle.trials_engine.proofs.tests.fresh_of.Goals as goal

pub new-requires-2 : goal.new-requires-2
new-requires-2 c =
    let rows = c.in_ok-rows.ensures ∙ ap (λ (w : Width). new_sheet w c.args.rows) c.width_of.ensures in
    subst (λ (both : Sheet × Book). IsIdle c.args.kind both.0 both.1) (λ i. (sym rows i, sym c.in_ok-book.ensures i)) (fresh_is_idle c.args.kind c.args.rows (new_is_book c.args.rows c.requires))
