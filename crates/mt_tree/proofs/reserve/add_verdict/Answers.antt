use Rattle.mt_tree.proofs.Prelude.{◌≡◌, None, arith}
use Rattle.mt_tree.proofs.Reserving.{roomy}
use Rattle.mt_tree.proofs.reserve.add_verdict.Goals as goal

pub returns-clause-verdict : goal.returns-clause-verdict
returns-clause-verdict g c =
    let lacks = c.lacks_room-engine.ensures in
    roomy c.args.engine c.args.call.now 1 c.lacks_room-engine.result.1 c.lacks_room-engine.result.2 None c.requires.gain (λ (none : 1 ≡ 0). omega (arith, none)) lacks.lacks lacks.ranges tt
