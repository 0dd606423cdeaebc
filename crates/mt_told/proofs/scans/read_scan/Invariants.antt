use Rattle.mt_told.proofs.Scanned.{ScanGoesOn}
use Rattle.mt_told.proofs.scans.read_scan.Given as goal

abbrev pub invariant-loop-step : goal.invariant-loop-step
invariant-loop-step l = ScanGoesOn l.place l.scan l.fn.text l.rest l.fn.told.items l.told.items l.at l._step
