use Rattle.mt_c.proofs.Prelude.{rules, ◌≡◌, ◌+◌, ℕ, All, ap, subst, sym, ◌∙◌, Common, IsSparePass, HasLeft, common_of, cuts, known_to, paused, rested}
use Rattle.mt_base.specs.Passes as known
use Rattle.mt_c.proofs.Using.{rested_halted}
use Rattle.mt_c.proofs.user.User.leave.Goals as goal

pub leave_to-requires-clause-passes : goal.leave_to-requires-clause-passes
leave_to-requires-clause-passes c =
    subst (λ (x : Common). All (IsSparePass x.tree) c.in-Ok.taken.value.passes.items) (sym (ap common_of c.into_inner.ensures ∙ c.take_purse.ensures.common)) c.in-Ok.ensures.passes

pub returns-in-Ok-clause-left : goal.returns-in-Ok-clause-left
returns-in-Ok-clause-left c =
    let common : common_of c.into_inner.result ≡ common_of c.args.user.value = search rules in
    let knows : known_to c.into_inner.result ≡ paused c.args.user.value = search rules in
    let rests : rested c.into_inner.result ≡ rested c.args.user.value = rested_halted c.args.user.value.walker.walk (known_to c.args.user.value) (known_to c.into_inner.result) knows in
    let chair : cuts c.into_inner.result ≡ cuts c.args.user.value + 1 = search rules in
    subst (λ (x : Common × (ℕ × known.Pass)). HasLeft x.0 x.1.0 x.1.1 c.leave_to.result) (λ i. (common i, (chair i, rests i))) c.leave_to.ensures
