use Rattle.mt_splice.proofs.FirstLeaf.{leaf_may_be_root, one_free, rows_are, all_spare, some_items, leaf_fits, leaf_rises, leaf_enters}
use Rattle.mt_splice.proofs.begins.begin_tree.Goals as goal

pub draft_piece-leaf-requires-clause-free : goal.draft_piece-leaf-requires-clause-free
draft_piece-leaf-requires-clause-free g c = one_free c.requires.first (g.met.R.Rows.whole c.args.rows.now)

pub draft_piece-leaf-requires-clause-rows : goal.draft_piece-leaf-requires-clause-rows
draft_piece-leaf-requires-clause-rows g c = rows_are c.requires.first (g.met.R.Rows.whole c.args.rows.now)

pub draft_piece-leaf-requires-clause-entry : goal.draft_piece-leaf-requires-clause-entry
draft_piece-leaf-requires-clause-entry g c = λ _. leaf_enters c.requires.first (g.met.R.Rows.whole c.args.rows.now)

pub draft_piece-leaf-requires-clause-spare : goal.draft_piece-leaf-requires-clause-spare
draft_piece-leaf-requires-clause-spare g c = all_spare c.requires.first (g.met.R.Rows.whole c.args.rows.now)

pub draft_piece-leaf-requires-clause-some : goal.draft_piece-leaf-requires-clause-some
draft_piece-leaf-requires-clause-some g c = some_items c.requires.first (g.met.R.Rows.whole c.args.rows.now)

pub publish_at-requires-clause-end : goal.publish_at-requires-clause-end
publish_at-requires-clause-end g c = leaf_may_be_root c.requires.first (g.met.R.Rows.whole c.args.rows.now) 0 c.new-made.ensures c.draft_piece-leaf.ensures.piece c.as_slice.ensures.value

pub draft_piece-leaf-requires-clause-fit : goal.draft_piece-leaf-requires-clause-fit
draft_piece-leaf-requires-clause-fit g c = leaf_fits c.requires.first (g.met.R.Rows.whole c.args.rows.now)

pub draft_piece-leaf-requires-clause-rise : goal.draft_piece-leaf-requires-clause-rise
draft_piece-leaf-requires-clause-rise g c = leaf_rises c.requires.first (g.met.R.Rows.whole c.args.rows.now)
