use Rattle.mt_verify.proofs.Prelude.{List, sym, ◌∙◌, subst, IfSome, Numbered, AreNotedOf}
use Rattle.mt_verify.proofs.gone.go_tree.Goals as goal

pub go_calls-requires-clause-heard : goal.go_calls-requires-clause-heard
go_calls-requires-clause-heard c =
    subst (λ (calls : List Numbered). AreNotedOf c.args.told.now c.args.tree calls c.in-Some-2.noted.items) (c.deref.ensures.value ∙ sym c.deref-2.ensures.value)
    (subst (λ (found : _). IfSome found (λ noted. AreNotedOf c.args.told.now c.args.tree c.deref.result.now noted.items)) c.in-Some-2.is (c.in_ok-noted.ensures.some c.args.told.now c.requires.readers))
