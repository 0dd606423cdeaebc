use Rattle.mt_tree.proofs.Prelude.{IfOk, sym, ap, subst, IsIdle, HasHeight, Book, PlainRows, sheet_in, map_by, Sheet, IsNew}
use Rattle.mt_tree.proofs.trees.Tree.open.Goals as goal

pub open_over-requires-clause-idle : goal.open_over-requires-clause-idle
open_over-requires-clause-idle c = subst (λ (both : Sheet × Book). IsIdle c.args.shape.kind both.0 both.1) (λ i. (sym (ap sheet_in c.of-opening.ensures) i, sym c.measured-height.ensures.book i)) c.requires.idle

pub open_over-requires-clause-height : goal.open_over-requires-clause-height
open_over-requires-clause-height c = subst (λ (p : PlainRows). HasHeight (sheet_in p).tree c.measured-height.result.0) (sym c.of-opening.ensures) c.measured-height.ensures.height

pub returns : goal.returns
returns c = subst (λ (p : PlainRows). IfOk c.open_over.result (λ r. IsNew c.args.shape (map_by (sheet_in p).tree) r.0 r.1.items)) c.of-opening.ensures c.open_over.ensures
