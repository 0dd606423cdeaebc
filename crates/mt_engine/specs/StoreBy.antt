-- How a store can be carried out, depending on what is at its first index.
-- Source: the kernel's lib/maple_tree.c, mas_wr_store_entry, which distinguishes a store that changes one slot from others.
use Rattle.std.specs.Prelude.{◌≡◌, ◌≢◌, ℕ, ◌≤◌, Option, Some, None}
use Rattle.mt_engine.specs.Prelude.{Rooted, Handle}
use Rattle.mt_engine.specs.Here.{IsHereAt}
use Rattle.mt_engine.specs.declared.store_by.StoreBy.{StoreBy}
use Rattle.mt_engine.specs.declared.store_by.StoreBy.TheVariants.{NoWord, OneWord, NewRows}
use Rattle.mt_engine.specs.declared.store_by.Write.{Write}

-- a hole is to be stored where a hole is already
pub record IsHoleOver (handle : Handle) (last entry : ℕ) : Type 0 where
  pub no_entry : entry ≡ 0
  pub hole : handle.span.word ≡ 0
  pub over : last ≤ handle.span.last

-- an entry is to be stored over just the indexes of one range
pub record IsExactly (handle : Handle) (first last entry : ℕ) : Type 0 where
  pub some_entry : entry ≢ 0
  pub range : handle.span.word ≢ 0
  pub from : handle.span.first ≡ first
  pub to : handle.span.last ≡ last

abbrev pub IsDoneBy : Option Handle → ℕ → ℕ → ℕ → StoreBy → Type 0
IsDoneBy None first last entry NoWord = entry ≡ 0
IsDoneBy (Some handle) first last entry NoWord = IsHoleOver handle last entry
IsDoneBy None first last entry (OneWord at) = ⊥
IsDoneBy (Some handle) first last entry (OneWord at) = (at ≡ handle) × IsExactly handle first last entry
IsDoneBy None first last entry NewRows = entry ≢ 0
IsDoneBy (Some handle) first last entry NewRows = (IsHoleOver handle last entry → ⊥) × (IsExactly handle first last entry → ⊥)

-- the store can be carried out so, by what is at its first index
pub record IsWriteAt (t : Rooted) (write : Write) : Type 0 where
  pub here : Option Handle
  pub stands : IsHereAt t write.edit.first here
  pub done : IsDoneBy here write.edit.first write.edit.last write.edit.entry write.by
