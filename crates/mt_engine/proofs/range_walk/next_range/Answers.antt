use Rattle.mt_engine.proofs.Prelude.{◌≤◌, Some, ap, ◌∙◌, subst, sym, Width, greatest, Rooted, same_tree, index_behind, range_at}
use Rattle.mt_engine.proofs.Walking.{ends_within, walks_on}
use Rattle.mt_engine.proofs.range_walk.next_range.Goals as goal

pub index_behind-walk-requires : goal.index_behind-walk-requires
index_behind-walk-requires g c =
    let s = g.R.Rows.sheet c.args.rows.now in
    let width = c.width.ensures ∙ ap (λ (t : Rooted). t.table.width) (same_tree s (g.R.Rows.sheet c.slot_found.new.rows) c.in-Some.ensures.rest) in
    subst (λ (w : Width). c.in-Some.given.span.last ≤ greatest w) (sym width) (ends_within s.tree c.requires.tree.0 c.in-Some.given c.requires.tree.1 c.in-Some.ensures.handle)

pub returns-clause-walk : goal.returns-clause-walk
returns-clause-walk g c =
    let s = g.R.Rows.sheet c.args.rows.now in
    let width = c.width.ensures ∙ ap (λ (t : Rooted). t.table.width) (same_tree s (g.R.Rows.sheet c.slot_found.new.rows) c.in-Some.ensures.rest) in
    walks_on s.tree c.requires.tree.0 c.in-Some.given c.index_behind-walk.result c.requires.tree.1 c.in-Some.ensures.handle
    (c.index_behind-walk.ensures ∙ ap (λ (w : Width). index_behind (greatest w) (range_at (Some c.in-Some.given))) width)
