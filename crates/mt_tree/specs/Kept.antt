-- A call that keeps the reserve of a tree that threads share, and what came of it.
-- Source: this project's own.
use Rattle.std.specs.Prelude.{◌≡◌, Result, Ok, Err}
use Rattle.mt_base.specs.Passes as known
use Rattle.mt_tree.specs.Prelude.{Call, records_of, Worn}
use Rattle.mt_tree.specs.Behind.{Behind}
use Rattle.mt_tree.specs.Looks.{IsLookAt}
use Rattle.mt_tree.specs.Reserve.{BreaksReserve}
use Rattle.mt_tree.specs.Trees.{IsWorn, WasAnsweredBy, opened}
use Rattle.mt_tree.specs.Tries.{WasMade}
use Rattle.mt_tree.specs.declared.kept.Kept.{Kept}
use Rattle.mt_tree.specs.declared.kept.Kept.TheVariants as kept
use Rattle.mt_tree.specs.declared.receipts.Look.{Look}
use Rattle.mt_tree.specs.declared.trees.Tree.{Tree}

-- What the lock protected, which the look has, decides. If the call breaks the reserve of that it is none: the handle has only seen
-- all calls. Else it was made, as any other, of what the look has, or the tree had had all its calls.
abbrev pub WasKept : Tree → known.Pass → Call → Look → Result Kept Worn → known.Pass → Type 0
WasKept t p call look (Ok kept.Broken) q = known.Saw (opened t) p q × IsLookAt t q look × BreaksReserve look.took.value.parts call
WasKept t p call look (Ok (kept.Made d)) q = WasMade t p call (Ok d) q × WasAnsweredBy t q look.took.value look.left.value call d × ¬ BreaksReserve look.took.value.parts call
WasKept t p call look (Err w) q = IsWorn t p w q × IsLookAt t q look × ¬ BreaksReserve look.took.value.parts call

-- the same between two moments under the lock, of a handle that had seen all calls
abbrev pub MadeKept : Tree → known.Pass → Behind → Behind → Call → Result Kept Worn → known.Pass → Type 0
MadeKept t p b b' call (Ok kept.Broken) q = (q ≡ p) × (b' ≡ b) × BreaksReserve b.parts call
MadeKept t p b b' call (Ok (kept.Made d)) q = WasMade t p call (Ok d) q × WasAnsweredBy t q b b' call d × ¬ BreaksReserve b.parts call
MadeKept t p b b' call (Err w) q = IsWorn t p w q × (q.seen ≡ records_of b.pen.history) × ¬ BreaksReserve b.parts call
