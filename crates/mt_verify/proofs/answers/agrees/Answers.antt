use Rattle.mt_verify.proofs.Prelude.{◌↔◌, Bool, sym, subst, IfOk, IsTrue, Heard, IsHeardAt, shared_limits}
use Rattle.mt_verify.proofs.answers.agrees.Goals as goal

pub returns-in-Short-clause-same : goal.returns-in-Short-clause-same
returns-in-Short-clause-same c =
    subst (λ (h : Heard). IfOk c.is_refused.result (λ (b : Bool). IsTrue b ↔ IsHeardAt c.args.map.now.kind c.args.version (shared_limits c.args.rows c.args.opened c.args.ended) c.args.map.now.ranges c.args.noted.now.call h))
    (sym c.in-Short.is) c.is_refused.ensures.refused
