-- Stores for which nodes are found free beforehand, as C has them.
-- Source: the kernel's documentation of the maple tree, mas_preallocate and mas_store_prealloc.
use Rattle.std.specs.Prelude.{◌≡◌, ◌⊎◌, ℕ, ◌<◌, ◌≤◌, Option, Some, None}
use Rattle.mt_c.specs.Prelude.{Call, Reply, Parts, IsPrestored, HasRoom, IsScanned, IsReady, most_calls}
use Rattle.mt_c.specs.Own.{OwnTree}
use Rattle.mt_c.specs.Calls.{status_of, word_in_c}

-- the nodes were scanned, and those that no section holds are free
pub record IsPrepared (t t' : Parts) : Type 0 where
  pub scanned : IsScanned t.kind t.sheet t'.sheet t.book t'.book
  pub kind : t'.kind ≡ t.kind

-- whether it is ready for a store then: ENOMEM where it is not
abbrev pub TellsReady : Parts → ℕ → Type 0
TellsReady t status = ((status ≡ 0) × IsReady t) ⊎ ((status ≡ 12) × (IsReady t → ⊥))

abbrev pub Prepared : Option OwnTree → Option OwnTree → ℕ → Type 0
Prepared None after status = (after ≡ None) × (status ≡ 9)
Prepared (Some t) None status = ⊥
Prepared (Some t) (Some t') status = IsPrepared t.engine t'.engine × TellsReady t'.engine status

-- a store was made for which the tree was ready
pub record IsPreCalled (t t' : Parts) (call : Call) (reply : Reply) : Type 0 where
  pub ready : IsReady t
  pub few : t.sheet.ended < most_calls
  pub stored : IsPrestored t.kind t.sheet t'.sheet t.book t'.book call reply
  pub kind : t'.kind ≡ t.kind

-- none was made: the tree was not ready; or it had had all its calls
abbrev pub PreMade : Parts → Parts → Call → Option (Option Reply) → Type 0
PreMade t t' call None = (IsReady t → ⊥) × (t' ≡ t)
PreMade t t' call (Some None) = (most_calls ≤ t.sheet.ended) × (t' ≡ t)
PreMade t t' call (Some (Some reply)) = IsPreCalled t t' call reply

-- ENOMEM where it was not ready
abbrev pub pre_status : Option (Option Reply) → ℕ
pre_status None = 12
pre_status (Some made) = status_of made

abbrev pub pre_word : Option (Option Reply) → ℕ
pre_word None = 0
pre_word (Some made) = word_in_c made

abbrev pub PreCalled : Call → Option OwnTree → Option OwnTree → ℕ → ℕ → Type 0
PreCalled call None after status word = (after ≡ None) × (status ≡ 9) × (word ≡ 0)
PreCalled call (Some t) None status word = ⊥
PreCalled call (Some t) (Some t') status word = (made : Option (Option Reply)) × PreMade t.engine t'.engine call made × (status ≡ pre_status made) × (word ≡ pre_word made)
