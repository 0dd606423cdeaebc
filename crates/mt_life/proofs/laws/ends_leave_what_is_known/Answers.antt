use Rattle.mt_life.proofs.Ends.{begin_turns, scan_turns, raise_turns, finish_turns}
use Rattle.mt_life.proofs.laws.ends_leave_what_is_known.Goals as goal

pub returns : goal.returns
returns c = record { begin = begin_turns; scan = scan_turns; raise = raise_turns; finish = finish_turns }
