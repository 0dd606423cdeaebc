use Rattle.mt_layout.proofs.Prelude.{◌≡◌, ◌-◌, ◌++◌, length, items_from, items_at}
use Rattle.mt_layout.proofs.layout.Layout.items_of.Given as goal

abbrev pub invariant-loop-i : goal.invariant-loop-i
invariant-loop-i g l = record {
  read : l.items.items ++ items_from g.row.SLOTS g.row.GAPS l.words 0 l.max (g.row.SLOTS - l.i) l.i ≡ items_at g.row.SLOTS g.row.GAPS l.words 0 l.max;
  count : length l.items.items ≡ l.i;
}
