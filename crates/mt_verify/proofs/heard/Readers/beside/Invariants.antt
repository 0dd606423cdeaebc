use Rattle.mt_verify.proofs.Prelude.{◌≡◌, ◌≢◌, ℕ, ◌<◌, List, true, list_any, ToldLine, AreReaders, reads_by}
use Rattle.mt_verify.proofs.heard.Readers.beside.Given as goal

abbrev pub invariant-loop-other : goal.invariant-loop-other
invariant-loop-other l = (told : List ToldLine) → AreReaders l.self told → (k : ℕ) → k < l.other → k ≢ l.lane → list_any (reads_by l.tree k l.phase) told ≡ true → ⊥
