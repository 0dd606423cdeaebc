use Rattle.mt_tree.proofs.Prelude.{◌∙◌, sym, ap, subst, Behind, Parts, LookedBehind, IsReserveVerdict}
use Rattle.mt_tree.proofs.Keeping.{counted_found}
use Rattle.mt_tree.proofs.behind.WriterState.verdict.Goals as goal

pub keep-requires : goal.keep-requires
keep-requires c = counted_found c.args.self.now c.judge-verdict.new.self c.args.call.now c.judge-verdict.result c.judge-verdict.ensures.looked.state.parts c.judge-verdict.ensures.verdict

pub returns-clause-looked : goal.returns-clause-looked
returns-clause-looked c = subst (λ (b : Behind). LookedBehind c.args.tree.now c.args.self.now b c.args.pass.now c.judge-verdict.new.pass) (sym c.keep.ensures) c.judge-verdict.ensures.looked

pub returns-clause-verdict : goal.returns-clause-verdict
returns-clause-verdict c =
    subst (λ (e : Parts). IsReserveVerdict e c.args.call.now c.judge-verdict.result) (sym (ap (λ (b : Behind). b.parts) c.keep.ensures ∙ c.judge-verdict.ensures.looked.state.parts)) c.judge-verdict.ensures.verdict
