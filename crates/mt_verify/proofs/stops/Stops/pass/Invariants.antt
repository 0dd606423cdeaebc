use Rattle.mt_verify.proofs.Prelude.{◌-◌, length}
use Rattle.mt_verify.proofs.Stopping.{PassesOn}
use Rattle.mt_verify.proofs.stops.Stops.pass.Given as goal

abbrev pub invariant-loop-self : goal.invariant-loop-self
invariant-loop-self l = PassesOn l.number l.map.ranges l.initial.self l.self

abbrev pub decreases-loop-self : goal.decreases-loop-self
decreases-loop-self l = length l.self.stops - l.self.next
