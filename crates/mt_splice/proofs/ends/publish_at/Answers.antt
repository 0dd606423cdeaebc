use Rattle.mt_splice.proofs.EndWhole.{may_publish_end, may_tend_rows, may_tend_top, spliced_end, told_end}
use Rattle.mt_splice.proofs.ends.publish_at.Goals as goal

pub publish-requires : goal.publish-requires
publish-requires g c = (g.B.Begun.before.kind, may_publish_end c.requires.end)

pub tend_rows-requires : goal.tend_rows-requires
tend_rows-requires g c = may_tend_rows c.requires.end c.requires.kind c.publish.ensures

pub tend_top-requires : goal.tend_top-requires
tend_top-requires g c = may_tend_top c.requires.end c.requires.kind c.publish.ensures c.tend_rows.ensures

pub returns-clause-spliced : goal.returns-clause-spliced
returns-clause-spliced g c = spliced_end c.requires.end c.requires.kind c.publish.ensures c.tend_rows.ensures (g.met.R.Rows.whole c.tend_rows.new.rows) c.tend_top.ensures

pub returns-clause-told : goal.returns-clause-told
returns-clause-told g c = told_end c.requires.end c.requires.kind c.publish.ensures c.tend_rows.ensures (g.met.R.Rows.whole c.tend_rows.new.rows) c.tend_top.ensures
