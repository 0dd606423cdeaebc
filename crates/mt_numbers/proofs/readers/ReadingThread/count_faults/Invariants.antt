-- So far no more faults were seen than rounds went by.
use Rattle.mt_numbers.proofs.Prelude.{◌≤◌}
use Rattle.mt_numbers.proofs.readers.ReadingThread.count_faults.Given as goal

abbrev pub invariant-loop-read : goal.invariant-loop-read
invariant-loop-read g l = l.faults ≤ l._read
