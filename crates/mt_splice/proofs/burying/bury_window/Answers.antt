use Rattle.mt_splice.proofs.Burials.{as_done, buried}
use Rattle.mt_splice.proofs.BuryingRows.{window_first_may, window_one, window_two_may, window_two, window_tree, window_below, window_stretch, window_mid_may, window_last_may, window_all}
use Rattle.mt_splice.proofs.burying.bury_window.Goals as goal

pub bury_row-requires : goal.bury_row-requires
bury_row-requires g c = window_first_may c.requires.tree.1 c.requires.window c.requires.may

pub returns-then-last-first : goal.returns-then-last-first
returns-then-last-first g c = as_done (window_one c.requires.tree.1 c.requires.window c.requires.may c.bury_row.ensures.rows c.bury_row.ensures.book c.if-last-first.true)

pub bury_row-requires-then-to-from : goal.bury_row-requires-then-to-from
bury_row-requires-then-to-from g c = window_two_may c.requires.tree.1 c.requires.window c.requires.may c.bury_row.ensures.rows c.bury_row.ensures.book c.if-last-first.false c.if-to-from.true

pub returns-then-to-from : goal.returns-then-to-from
returns-then-to-from g c = as_done (window_two c.requires.tree.1 c.requires.window c.requires.may c.bury_row.ensures.rows c.bury_row.ensures.book c.if-last-first.false c.if-to-from.true c.bury_row-then-to-from.ensures.rows c.bury_row-then-to-from.ensures.book)

pub bury_stretch-requires-clause-tree : goal.bury_stretch-requires-clause-tree
bury_stretch-requires-clause-tree g c = (c.requires.tree.0, window_tree c.requires.tree.1 c.requires.window c.requires.may c.bury_row.ensures.rows c.bury_row.ensures.book)

pub bury_stretch-requires-clause-below : goal.bury_stretch-requires-clause-below
bury_stretch-requires-clause-below g c = window_below c.requires.tree.1 c.requires.window c.requires.may c.bury_row.ensures.rows c.bury_row.ensures.book c.if-to-from.false

pub bury_stretch-requires-clause-stretch : goal.bury_stretch-requires-clause-stretch
bury_stretch-requires-clause-stretch g c = window_stretch c.requires.tree.1 c.requires.window c.requires.may c.bury_row.ensures.rows c.bury_row.ensures.book c.if-to-from.false

pub bury_stretch-requires-clause-may : goal.bury_stretch-requires-clause-may
bury_stretch-requires-clause-may g c = window_mid_may c.requires.tree.1 c.requires.window c.requires.may c.bury_row.ensures.rows c.bury_row.ensures.book c.if-to-from.false

pub bury_row-requires-2 : goal.bury_row-requires-2
bury_row-requires-2 g c = window_last_may c.requires.tree.1 c.requires.window c.requires.may c.bury_row.ensures.rows c.bury_row.ensures.book c.if-to-from.false (buried c.bury_stretch.ensures)

pub returns : goal.returns
returns g c = as_done (window_all c.requires.tree.1 c.requires.window c.requires.may c.bury_row.ensures.rows c.bury_row.ensures.book c.if-to-from.false (buried c.bury_stretch.ensures) c.bury_row-2.ensures.rows c.bury_row-2.ensures.book)
