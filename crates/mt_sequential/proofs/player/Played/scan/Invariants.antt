use Rattle.mt_sequential.proofs.Prelude.{◌≡◌, ◌-◌, ◌++◌, List, Entry, place_within, scan_entries}
use Rattle.mt_sequential.proofs.player.Played.scan.Given as goal

-- what is left of the scan makes it whole
abbrev pub invariant-loop-step : goal.invariant-loop-step
invariant-loop-step g l =
    (l.self ≡ l.fn.self)
    × ((told : List Entry) → told ≡ l.entries.items ++ scan_entries l.line l.fn.self l.max (l.count - l._step) l.at → told ≡ l.fn.entries.items ++ scan_entries l.line l.fn.self l.max l.count (place_within l.index l.max))
