use Rattle.mt_c.proofs.Prelude.{rules}
use Rattle.mt_c.proofs.SharingMany.{on_out}
use Rattle.mt_c.proofs.walker.Walker.walk_out.Goals as goal

pub returns-clause-walked : goal.returns-clause-walked
returns-clause-walked c =
    let n = c.walk_many-read.new.self in
    on_out c.args.tree.now c.args.self.now.pass n.pass c.args.self.now.walk n.walk _ c.walk_many-read.new.ranges c.args.ranges.now c.put_ranges.new.ranges c.walk_many-read.result (search rules) c.put_ranges.ensures c.walk_many-read.ensures.walked
