use Rattle.mt_verify.proofs.Prelude.{◌≡◌, ℕ, ◌<◌, length, slice_index, calls_told}
use Rattle.mt_verify.proofs.windows.counts_of.Given as goal

abbrev pub invariant-loop-tree : goal.invariant-loop-tree
invariant-loop-tree l = (length l.counts ≡ 16) × ((k : ℕ) → k < l.tree → slice_index l.counts k ≡ length (calls_told k l.told))
