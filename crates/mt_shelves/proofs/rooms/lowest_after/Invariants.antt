use Rattle.mt_shelves.proofs.Prelude.{◌≡◌, ◌+◌, drop, kept, lowest_in, IsMapFrom, holes_after}
use Rattle.mt_shelves.proofs.rooms.lowest_after.Given as goal

abbrev pub invariant-loop-range : goal.invariant-loop-range
invariant-loop-range l = record {
  rise : IsMapFrom (l.last + 1) (drop l.range-index l.fn.ranges);
  answer : lowest_in (kept l.window.size l.window.min l.window.max (holes_after (l.last + 1) (drop l.range-index l.fn.ranges))) ≡ lowest_in (kept l.window.size l.window.min l.window.max (holes_after (l.fn.index + 1) l.fn.ranges));
}
