use Rattle.mt_path.proofs.Prelude.{◌≡◌, ◌<◌, length, path_in, words_on}
use Rattle.mt_path.proofs.SideBySide.{OnlyReadsFor}
use Rattle.mt_path.proofs.batches.words_by.Given as goal

abbrev pub invariant-loop-depth : goal.invariant-loop-depth
invariant-loop-depth g l =
    let s = g.R.Rows.sheet l.fn.rows in
    record {
      held : OnlyReadsFor s (g.R.Rows.sheet l.rows) l.words l.indexes;
      low : l.depth < length (path_in s.tree.table s.tree.root 0);
      words : l.words ≡ words_on s.tree l.depth l.indexes;
    }
