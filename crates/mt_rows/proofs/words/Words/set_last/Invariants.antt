use Rattle.mt_rows.proofs.Prelude.{◌≡◌, ◌+◌, ◌++◌, length, take}
use Rattle.mt_rows.proofs.words.Words.set_last.Given as goal

abbrev pub invariant-loop-i : goal.invariant-loop-i
invariant-loop-i l = record {
  put : take (l.from + l.i) l.self.items ≡ take l.from l.initial.self.items ++ take l.i l.words;
  long : length l.self.items ≡ length l.initial.self.items;
}
