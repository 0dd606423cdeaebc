use Rattle.mt_tree.proofs.Prelude.{rules, ◌≡◌, false, IfSome, length, sym, ap, subst, is_invalid, map_by, Sheet}
use Rattle.mt_tree.proofs.Reserving.{changes_read, verdict_as}
use Rattle.mt_tree.proofs.reserve.store_verdict.Goals as goal

pub change_verdict-requires-clause-known : goal.change_verdict-requires-clause-known
change_verdict-requires-clause-known g c = subst (λ (s : Sheet). IfSome c.args.known (λ n. n ≡ length (map_by s.tree))) (sym c.change_of-change.ensures.rest) c.requires.known

pub change_verdict-requires-clause-change : goal.change_verdict-requires-clause-change
change_verdict-requires-clause-change g c =
    let valid : is_invalid c.args.engine.kind c.args.first c.args.last c.args.entry ≡ false = search rules in
    changes_read c.args.engine _ c.args.first c.args.last c.args.entry c.change_of-change.result (ap (λ (s : Sheet). s.tree) c.change_of-change.ensures.rest) c.change_of-change.ensures.kind valid c.change_of-change.ensures.change

pub returns-clause-verdict : goal.returns-clause-verdict
returns-clause-verdict g c = verdict_as _ _ _ _ c.change_of-change.ensures.kind (ap (λ (s : Sheet). s.tree) c.change_of-change.ensures.rest) c.change_verdict.ensures.verdict
