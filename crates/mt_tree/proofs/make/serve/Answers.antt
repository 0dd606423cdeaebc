use Rattle.mt_tree.proofs.Prelude.{rules, ◌≡◌, All, length, sym, subst, identity_of, IsSeatedAt, come_back}
use Rattle.mt_rule.specs.Tokens.{IsPassOf}
use Rattle.mt_tree.proofs.make.serve.Goals as goal

pub returns-clause-seated : goal.returns-clause-seated
returns-clause-seated c =
    let is : length c.make.new.passes ≡ c.args.passes.len = (search rules) in
    let was : length c.args.passes.items ≡ c.args.passes.len = (search rules) in
    subst (All (IsSeatedAt c.in_ok-turn.turn.table.shared.table_id c.in_ok-turn.turn.table.shared.key)) (sym (come_back c.args.passes.len c.make.new.passes c.args.passes.items is was)) c.in_ok-turn.ensures.seated

pub returns-clause-of : goal.returns-clause-of
returns-clause-of c =
    let is : length c.make.new.passes ≡ c.args.passes.len = (search rules) in
    let was : length c.args.passes.items ≡ c.args.passes.len = (search rules) in
    subst (All (IsPassOf (identity_of c.args.table.now))) (sym (come_back c.args.passes.len c.make.new.passes c.args.passes.items is was)) c.in_ok-turn.ensures.of
