use Rattle.mt_path.proofs.Prelude.{◌≡◌, ◌+◌, ◌++◌, take, drop, words_on}
use Rattle.mt_path.proofs.SideBySide.{OnlyReadsFor}
use Rattle.mt_path.proofs.batches.words_below.Given as goal

abbrev pub invariant-loop-i : goal.invariant-loop-i
invariant-loop-i g l =
    let s = g.R.Rows.sheet l.fn.rows in
    record {
      held : OnlyReadsFor s (g.R.Rows.sheet l.rows) l.words l.indexes;
      words : l.words ≡ take l.i (words_on s.tree (l.depth + 1) l.indexes) ++ drop l.i l.fn.words;
    }
