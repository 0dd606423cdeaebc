-- What a call under a lock of its own does to its handle, that waited or was tried; and what tells that the lock was found taken.
-- Source: this project's own; the kernel's spin_trylock.
use Rattle.std.specs.Prelude.{◌≤◌, List, [], ◌∷◌, IfOk, IfErr, Result}
use Rattle.mt_tree.specs.Prelude.{Call, Wrote, Busy, Pass, IsBusyAt, tried, Done, Worn}
use Rattle.mt_base.specs.Passes as known
use Rattle.mt_tree.specs.declared.trees.Tree.{Tree}
use Rattle.mt_tree.specs.Trees.{opened, limit_of, IsWorn, NamesPass, WasAnswered}

-- the receipt of finding the lock of this tree taken
abbrev pub IsBusyOf : Tree → Busy → Type 0
IsBusyOf t busy = IsBusyAt t.turn.table.shared.table_id t.turn.table.shared.key busy

-- the first of these handles has gone for the lock, once
abbrev pub first_tried : List Pass → List Pass
first_tried [] = []
first_tried (p ∷ ps) = tried p ∷ ps

-- The handle made the call under a lock of its own. Or it has seen all the calls that the tree may
-- have.
pub record WasMade (t : Tree) (p : known.Pass) (call : Call) (made : Result Done Worn) (q : known.Pass) : Type 0 where
  pub done : IfOk made (λ d. Wrote (opened t) p d.call call d.reply q × (d.call ≤ limit_of t))
  pub named : IfOk made (λ d. NamesPass t d.reply)
  pub answered : IfOk made (λ d. WasAnswered t q call d)
  pub worn : IfErr made (λ w. IsWorn t p w q)
