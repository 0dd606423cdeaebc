use Rattle.mt_engine.proofs.Prelude.{◌≡◌, length}
use Rattle.mt_engine.proofs.LeafWalks.{HasPutUpTo}
use Rattle.mt_engine.proofs.batches.put_from.Given as goal

abbrev pub invariant-loop-i : goal.invariant-loop-i
invariant-loop-i g l = record {
  size : length l.ranges ≡ length l.fn.ranges;
  put : HasPutUpTo g.P.RangePlace.shows (g.R.Rows.sheet l.fn.rows) (g.R.Rows.sheet l.rows) l.fn.walk l.here l.way.items l.fn.ranges l.ranges l.i;
}
