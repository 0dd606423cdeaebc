use Rattle.mt_tree.proofs.Prelude.{◌≡◌, List, subst, ◌∙◌, ap, IfOk, Range, map_seen}
use Rattle.mt_base.specs.Passes as known
use Rattle.mt_tree.proofs.Lending.{looked_under}
use Rattle.mt_tree.proofs.locked.Locked+Taken+WriterState.list.Goals as goal

pub returns-clause-items : goal.returns-clause-items
returns-clause-items c =
    let under = looked_under _ _ _ _ _ _ c.args.self.now.open c.inspect.ensures.looked in
    subst (λ (m : List Range). IfOk c.inspect.result (λ ranges. ranges.items ≡ m)) (c.inspect.ensures.looked.words.map ∙ ap (λ (p : known.Pass). map_seen c.args.self.now.tree.now p) under.pass) c.inspect.ensures.finds
