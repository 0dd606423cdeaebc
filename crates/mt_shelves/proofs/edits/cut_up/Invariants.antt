use Rattle.mt_shelves.proofs.Prelude.{◌≡◌, ◌<◌, length, AllFilled, joined}
use Rattle.mt_shelves.proofs.edits.cut_up.Given as goal

abbrev pub invariant-loop : goal.invariant-loop
invariant-loop l = record { within : l.at < length l.shelves.items; joined : joined l.shelves.items ≡ joined l.fn.shelves.items; filled : AllFilled l.shelves.items }
