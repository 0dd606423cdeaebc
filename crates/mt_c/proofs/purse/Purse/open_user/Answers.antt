use Rattle.mt_c.proofs.Prelude.{[], ap, sym, ◌++◌, ◌∙◌, ◌∷◌, All-same, arc_value, Pass, User, IsSparePass}
use Rattle.mt_c.proofs.purse.Purse.open_user.Goals as goal

pub returns-in-Err-clause-passes : goal.returns-in-Err-clause-passes
returns-in-Err-clause-passes c =
    let pass = ap (λ (u : User). u.walker.pass) c.in-Err.ensures.value_returned ∙ c.new.ensures.pass in
    let same = c.push_reserved.ensures.items ∙ (ap (λ (p : Pass). c.pop.new.self.items ++ p ∷ []) pass ∙ sym c.in-Some.ensures.items) in
    All-same (IsSparePass (arc_value c.args.common).tree) _ _ same c.requires.passes
