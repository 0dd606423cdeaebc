use Rattle.mt_list.proofs.Prelude.{arith}
use Rattle.mt_list.proofs.Replaced.{replaced}
use Rattle.mt_list.proofs.edits.replace.Goals as goal

pub returns-clause-ok : goal.returns-clause-ok
returns-clause-ok c =
    replaced c.args.ranges.now.items c.args.pieces.now c.split_at.result.0.now c.split_at.result.1.now c.insert_all.new.ranges.items c.overwrite.new.ranges.items c.close.new.ranges.items c.args.start c.args.end c.min.result
    c.requires.order (omega (arith, c.args.ranges.now.ok.0)) c.split_at.ensures.front c.split_at.ensures.back c.min.ensures
    c.in_ok-insert_all.ensures.ok c.overwrite.ensures c.close.ensures
