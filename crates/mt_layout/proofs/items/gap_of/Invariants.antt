use Rattle.mt_layout.proofs.Prelude.{◌≡◌, ◌+◌, ◌≤◌, max, drop, RiseFrom, longest_hole}
use Rattle.mt_layout.proofs.items.gap_of.Given as goal

abbrev pub invariant-loop-item : goal.invariant-loop-item
invariant-loop-item l = record {
  longest : max l.longest (longest_hole (l.before + 1) (drop l.item-index l.rest)) ≡ longest_hole (l.first.last + 1) l.rest;
  rise : RiseFrom (l.before + 1) (drop l.item-index l.rest);
  above : l.first.last + l.item-index ≤ l.before;
}
