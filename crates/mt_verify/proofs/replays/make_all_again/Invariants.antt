use Rattle.mt_verify.proofs.Prelude.{◌≡◌, map_of_noted}
use Rattle.mt_verify.proofs.replays.make_all_again.Given as goal

abbrev pub invariant-loop-one : goal.invariant-loop-one
invariant-loop-one l = (l.map.kind ≡ l.fn.map.kind) × (l.map.ranges ≡ map_of_noted l.fn.map.kind l.fn.map.ranges l.fn.noted l.one-index)
