use Rattle.mt_verify.proofs.Prelude.{ℕ, ◌<◌, ◌≤◌, length, take, AllPairs, get_or, ToldLine, AreMarked, InPrintedOrder}
use Rattle.mt_verify.proofs.windows.windows_keep.Given as goal

abbrev pub invariant-loop-one : goal.invariant-loop-one
invariant-loop-one l = AreMarked l.marks (take l.one-index l.told) × AllPairs InPrintedOrder (take l.one-index l.told) × ((k : ℕ) (d : ToldLine) → l.one-index ≤ k → k < length l.told → l.marks.phase ≤ (get_or l.told k d).phase)
