use Rattle.mt_shelves.proofs.Prelude.{List, ap, ◌∙◌, Range, over}
use Rattle.mt_shelves.proofs.Editing.{over_there}
use Rattle.mt_shelves.proofs.edits.store_there.Goals as goal

pub returns-clause-ok : goal.returns-clause-ok
returns-clause-ok c =
    c.tidy.ensures.joined ∙ over_there c.args.shelves.now.items c.args.at c.index_mut.result.now c.store.new.self c.args.first c.args.last c.args.entry c.requires.within c.requires.order c.requires.rising c.requires.front c.requires.back
    (c.in_ok-store.ensures.ok ∙ ap (λ (m : List Range). over m c.args.first c.args.last c.args.entry) c.index_mut.ensures.value)
