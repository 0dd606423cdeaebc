use Rattle.mt_rule.proofs.Prelude.{◌≡◌, IfOk, subst, PlainRows, sheet_in, identity_of, shape_opened}
use Rattle.mt_rule.proofs.table.MtTable.make.Goals as goal

pub returns-clause-shape : goal.returns-clause-shape
returns-clause-shape c = subst (λ (p : PlainRows). IfOk c.make_over.result (λ r. (identity_of r.0).shape ≡ shape_opened c.args.kind (sheet_in p) c.args.passes c.args.calls)) c.of-opening.ensures c.make_over.ensures.shape
