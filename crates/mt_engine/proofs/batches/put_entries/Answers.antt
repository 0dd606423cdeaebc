use Rattle.mt_engine.proofs.Prelude.{ap, ◌∙◌, Rooted, map_by, entries_at, same_tree, words_in, rules}
use Rattle.mt_engine.proofs.Batching.{words_are}
use Rattle.mt_engine.proofs.batches.put_entries.Goals as goal

pub returns-then-can_go_down-clause-entries : goal.returns-then-can_go_down-clause-entries
returns-then-can_go_down-clause-entries g c =
    let s = g.R.Rows.sheet c.args.rows.now in
    let s' = g.R.Rows.sheet c.can_go_down.new.rows in
    c.words_at.ensures.words ∙ (ap (λ (t : Rooted). words_in t c.args.indexes.now) (same_tree s s' c.can_go_down.ensures.rest)
    ∙ words_are s.tree c.requires.tree (c.can_go_down.ensures.root (search rules)) c.args.indexes.now (c.can_go_down.ensures.within (search rules)))

pub returns-clause-entries : goal.returns-clause-entries
returns-clause-entries g c =
    let s = g.R.Rows.sheet c.args.rows.now in
    c.put_each.ensures.entries ∙ ap (λ (t : Rooted). entries_at (map_by t) c.args.indexes.now) (same_tree s (g.R.Rows.sheet c.can_go_down.new.rows) c.can_go_down.ensures.rest)
