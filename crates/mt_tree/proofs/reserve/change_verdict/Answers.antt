use Rattle.mt_tree.proofs.Prelude.{arith}
use Rattle.mt_tree.proofs.Reserving.{calm, change_after, change_calm, change_gain, change_known, roomy}
use Rattle.mt_tree.proofs.reserve.change_verdict.Goals as goal

pub returns-then-gain-eq0-clause-verdict : goal.returns-then-gain-eq0-clause-verdict
returns-then-gain-eq0-clause-verdict g c =
    let e = c.args.engine in
    let call = c.args.call.now in
    let known = c.after_known.ensures in
    calm e call c.args.known c.after_known.result (change_calm e call c.args.change c.requires.change (omega (arith, c.gain-gain.ensures, c.if-gain-eq0.true))) c.requires.known (change_known e call c.args.change c.requires.change c.args.known c.after_known.result c.requires.known known.some known.none)

pub returns-clause-verdict : goal.returns-clause-verdict
returns-clause-verdict g c =
    let e = c.args.engine in
    let call = c.args.call.now in
    let lacks = c.lacks_room-engine.ensures in
    roomy e call c.gain-gain.result c.lacks_room-engine.result.1 c.lacks_room-engine.result.2 c.after.result (change_gain e call c.args.change c.requires.change c.gain-gain.result c.gain-gain.ensures) c.if-gain-eq0.false lacks.lacks lacks.ranges
    (change_after e call c.args.change c.requires.change c.lacks_room-engine.result.2 c.after.result lacks.ranges c.after.ensures)
