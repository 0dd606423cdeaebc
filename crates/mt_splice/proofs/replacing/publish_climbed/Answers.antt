use Rattle.mt_splice.proofs.Prelude.{◌∙◌, ap, Book, numbers_in_all}
use Rattle.mt_splice.proofs.Burials.{buried, retirals_free}
use Rattle.mt_splice.proofs.Ended.{may_bury_windows, tree_now, windows_on}
use Rattle.mt_splice.proofs.MayPublish.{may_publish_end, top_told}
use Rattle.mt_splice.proofs.replacing.publish_climbed.Goals as goal

pub bury-requires-clause-tree : goal.bury-requires-clause-tree
bury-requires-clause-tree g c = (g.B.Begun.before.kind, tree_now c.requires.climbed)

pub bury-requires-clause-windows : goal.bury-requires-clause-windows
bury-requires-clause-windows g c = rw (c.as_slice.ensures.value, c.requires.leaves) (windows_on c.requires.climbed)

pub bury-requires-clause-may : goal.bury-requires-clause-may
bury-requires-clause-may g c = rw (c.as_slice.ensures.value, c.requires.leaves, c.requires.number) (may_bury_windows c.requires.climbed)

pub publish_at-requires-clause-kind : goal.publish_at-requires-clause-kind
publish_at-requires-clause-kind g c = c.requires.climbed.inner

pub publish_at-requires-clause-end : goal.publish_at-requires-clause-end
publish_at-requires-clause-end g c = rw c.as_slice-2.ensures.value (may_publish_end c.requires.climbed (buried (rw (c.as_slice.ensures.value, c.requires.leaves, c.requires.number) at c.bury.ensures)) c.requires.answer)

pub returns-clause-told : goal.returns-clause-told
returns-clause-told g c = top_told c.requires.climbed (buried (rw (c.as_slice.ensures.value, c.requires.leaves, c.requires.number) at c.bury.ensures)) (g.R.Rows.sheet c.publish_at.new.rows).tree c.publish_at.ensures.told

pub returns-clause-none_taken : goal.returns-clause-none_taken
returns-clause-none_taken g c = ap (λ (b : Book). b.free) c.bury.ensures.1 ∙ retirals_free c.args.book.now (numbers_in_all (g.R.Rows.sheet c.args.rows.now).tree c.args.depth c.as_slice.result.now) c.args.event.now.number
