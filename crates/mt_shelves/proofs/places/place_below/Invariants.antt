use Rattle.mt_shelves.proofs.Prelude.{◌≡◌, ◌≤◌, ◌<◌, ◌-◌, [], false, get_or, length, take, EndBelow, ends_below, joined}
use Rattle.mt_shelves.proofs.places.place_below.Given as goal

abbrev pub invariant-loop-low : goal.invariant-loop-low
invariant-loop-low l = record { order : l.low ≤ l.high; low : l.low ≤ length l.fn.shelves; high : l.high ≤ length l.fn.shelves; front : EndBelow l.fn.index (joined (take l.low l.fn.shelves)); reach : l.high < length l.fn.shelves → ends_below l.fn.index (get_or l.fn.shelves l.high []) ≡ false }

abbrev pub decreases-loop-low : goal.decreases-loop-low
decreases-loop-low l = l.high - l.low
