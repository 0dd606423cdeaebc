use Rattle.mt_verify.proofs.Prelude.{◌≡◌, map, range_with_len, AreFresh, looks_of, looks_by_lane}
use Rattle.mt_verify.proofs.lines.tracks_of.Given as goal

abbrev pub invariant-loop-lane : goal.invariant-loop-lane
invariant-loop-lane l = (looks_of l.tracks.items ≡ map (looks_by_lane l.fn.own) (range_with_len 0 l.lane)) × AreFresh l.tracks.items
