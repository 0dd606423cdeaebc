use Rattle.mt_c.proofs.Prelude.{ap, All-push, All-same, IsSparePass}
use Rattle.mt_base.specs.Passes as known
use Rattle.mt_c.proofs.purse.Common.leave.Goals as goal

pub give-given-requires-clause-passes : goal.give-given-requires-clause-passes
give-given-requires-clause-passes c =
    let spare = IsSparePass c.args.self.now.tree in
    let rests : spare c.halt.new.pass = record { of = c.halt.ensures.of; rests = ap (λ (z : known.Pass). z.standing) c.halt.ensures.halted.closed } in
    All-same spare _ _ c.push_reserved.ensures.items (All-push spare c.args.taken.value.passes.items c.halt.new.pass c.requires.passes rests)
