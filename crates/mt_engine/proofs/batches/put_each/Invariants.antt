use Rattle.mt_engine.proofs.Prelude.{◌≡◌, length, take, map_by, OnlyReads, entries_at, put_first}
use Rattle.mt_engine.proofs.batches.put_each.Given as goal

abbrev pub invariant-loop-i : goal.invariant-loop-i
invariant-loop-i g l =
    let s = g.R.Rows.sheet l.fn.rows in
    record {
      reads : OnlyReads s (g.R.Rows.sheet l.rows);
      size : length l.entries ≡ length l.fn.entries;
      entries : l.entries ≡ put_first (take l.i (entries_at (map_by s.tree) l.indexes)) l.fn.entries;
    }
