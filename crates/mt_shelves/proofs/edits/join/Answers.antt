use Rattle.mt_shelves.proofs.Prelude.{◌≡◌, List, ◌++◌, ◌∷◌, take, drop, ap, ◌∙◌, slice_range, Range, joined}
use Rattle.mt_shelves.proofs.Editing.{brought, put_together}
use Rattle.mt_shelves.proofs.edits.join.Goals as goal

pub returns-clause-ok : goal.returns-clause-ok
returns-clause-ok c =
    let all : c.of.result ≡ joined (slice_range c.args.shelves.now.items c.args.start c.args.end) = c.of.ensures ∙ (c.in_ok-ranges.ensures ∙ ap (λ (l : List (List Range)). joined (slice_range l c.args.start c.args.end)) c.deref.ensures.value) in
    brought c.args.shelves.now.items c.remove_all.new.shelves.items c.args.start c.args.end c.requires.order c.requires.bound c.requires.rising
    (c.remove_all.ensures ∙ (put_together c.args.shelves.now.items c.args.start c.args.end c.of.result c.requires.order c.requires.bound ∙ ap (λ (l : List Range). take c.args.start c.args.shelves.now.items ++ (l ∷ drop c.args.end c.args.shelves.now.items)) all))
