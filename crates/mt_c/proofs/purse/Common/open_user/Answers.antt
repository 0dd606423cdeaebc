use Rattle.mt_c.proofs.Prelude.{rules, ◌≡◌, ◌∙◌, All, [], ap, map, subst, sym, nil_from_length, pass_in, Common, known_in, IsSparePass}
use Rattle.mt_c.proofs.Using.{given_empty}
use Rattle.mt_c.proofs.purse.Common.open_user.Goals as goal

pub open_user-opened-requires-clause-passes : goal.open_user-opened-requires-clause-passes
open_user-opened-requires-clause-passes c = subst (λ (x : Common). All (IsSparePass x.tree) c.in-Ok.taken.value.passes.items) (sym (c.in-Ok-try_clone.ensures ∙ c.requires.same)) c.in-Ok.ensures.passes

pub give-given-requires-clause-passes : goal.give-given-requires-clause-passes
give-given-requires-clause-passes c = subst (λ (x : Common). All (IsSparePass x.tree) c.open_user-opened.new.self.passes.items) (c.in-Ok-try_clone.ensures ∙ c.requires.same) c.open_user-opened.ensures.passes

pub returns-then-is_empty-clause-why : goal.returns-then-is_empty-clause-why
returns-then-is_empty-clause-why c =
    let none : known_in c.in-Ok.taken.value ≡ [] = ap (map pass_in) (nil_from_length c.in-Ok.taken.value.passes.items (search rules)) in
    given_empty c.args.self.now _ _ c.give.result (known_in c.in-Ok.taken.took.value) (known_in c.in-Ok.taken.value) c.give.ensures.given (search rules) (ap known_in c.in-Ok.ensures.took) none
