use Rattle.mt_tree.proofs.Prelude.{◌≡◌, length, ranges_from, map_by}
use Rattle.mt_tree.proofs.Overwriting.{AreTold}
use Rattle.mt_tree.proofs.overwrites.tell_from.Given as goal

abbrev pub invariant-loop-range : goal.invariant-loop-range
invariant-loop-range g l = record {
  book : l.engine.book ≡ l.fn.engine.book;
  kind : l.engine.kind ≡ l.fn.engine.kind;
  told : AreTold g.P.RangePlace.shows l.fn.engine.sheet l.engine.sheet l.walk l.fn.first l.fn.last l.fn.met l.met l.count;
}

abbrev pub decreases-loop-range : goal.decreases-loop-range
decreases-loop-range g l = length (ranges_from (map_by l.fn.engine.sheet.tree) l.walk.next)
