-- Calls that keep the reserve of a tree of one thread, by which it can always be emptied, and what C gets of them.
-- Source: this project's own; the kernel's trees take a node from memory whenever a call needs one.
use Rattle.std.specs.Prelude.{◌≡◌, ℕ, Option, Some, None}
use Rattle.mt_c.specs.Prelude.{Call, Reply, Parts}
use Rattle.mt_tree.specs.Reserve.{BreaksReserve}
use Rattle.mt_c.specs.Calls.{IsAsked, MadeOrSpent}
use Rattle.mt_c.specs.Own.{OwnTree}
use Rattle.mt_c.specs.Preparing.{pre_status, pre_word}

-- The tree was read. A call that breaks its reserve is not made, and is no call of the tree. Any other is made, or the tree had had
-- all its calls.
abbrev pub MadeInReserve : Parts → Parts → Call → Option (Option Reply) → Type 0
MadeInReserve t t' call None = BreaksReserve t call × IsAsked t t'
MadeInReserve t t' call (Some made) = ¬ BreaksReserve t call × (read : Parts) × IsAsked t read × MadeOrSpent read t' call made

-- Such a call on what C keeps: ENOMEM if it is not made. A closed one is EBADF, and stays closed.
abbrev pub KeepsCall : Call → Option OwnTree → Option OwnTree → ℕ → ℕ → Type 0
KeepsCall call None after status word = (after ≡ None) × (status ≡ 9) × (word ≡ 0)
KeepsCall call (Some t) None status word = ⊥
KeepsCall call (Some t) (Some t') status word = (made : Option (Option Reply)) × MadeInReserve t.engine t'.engine call made × (status ≡ pre_status made) × (word ≡ pre_word made)

-- one that returns the number alone
abbrev pub KeepsAlone : Call → Option OwnTree → Option OwnTree → ℕ → Type 0
KeepsAlone call before after status = (word : ℕ) × KeepsCall call before after status word
